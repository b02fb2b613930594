use Rattle.std.proofs.Common.{◌≡◌, ℕ, ◌≤◌, Err, List, length, ap, refl, sym, subst, ◌∙◌}
use Rattle.std.proofs.lemmas.Result.{err_from_is_err_and}
use Rattle.codes.specs.StoreVersion.{version_number}
use Rattle.disk.specs.declared.slot.Slot.{Slot}
use Rattle.disk.specs.Slots.{slot_of}
use Rattle.ipc_model.specs.calls.Step.{Run}
use Rattle.ipc_model.specs.declared.record.Record.{Record}
use Rattle.ipc_model.specs.state.State.{State}
use Rattle.ipc_model.specs.store.Recovery.{version_of}
use Rattle.ipc_model.specs.store.Store.{EncodesSegment}
use Rattle.disk.proofs.Moments.{reads_nothing}
use Rattle.journal.specs.Reading.{Place}
use Rattle.recover.specs.Replayed.{ReplaysFrom, ReplaysAll}
use Rattle.recover.proofs.Faults.{counts_memory, counts_ok, counts_passed, memory_no_damage, none_in_error, of_memory}
use Rattle.recover.proofs.Streams.{first_place, never_read, replayed_all}
use Rattle.recover.proofs.reading.replay_segment_in.Goals as goal

pub returns-in_err-kernel-clause-damaged : goal.returns-in_err-kernel-clause-damaged
returns-in_err-kernel-clause-damaged g c = λ honest reported.
    let p = err_from_is_err_and c.from_residual-in_err-kernel.result c.from_residual-in_err-kernel.ensures.1 in
    let seen = (g.D.Disk.view c.args.disk.now).seen in
    let segment : List ℕ = slot_of seen c.segment_slot-slot.result in
    let at = sym c.segment_slot-slot.ensures in
    subst (λ (s : Slot). (records : List Record) (state : State) → EncodesSegment c.args.epoch (slot_of seen s) records
    → Run c.args.kernel records state → ⊥) c.segment_slot-slot.ensures
    (never_read c.args.version c.args.epoch segment c.args.kernel
    (subst (λ (s : Slot). 16 ≤ length (slot_of seen s)) at (c.requires.inside honest))
    (subst (λ (s : Slot). version_of (slot_of seen s) ≡ version_number c.args.version) at (c.requires.says honest))
    (λ state count end replays. (rw c.in_ok-base.ensures.ok.0 at c.in_err-kernel.ensures.damaged honest
    (cc (p.1, p.2, reported))) state count end
    (subst (λ (place : Place). ReplaysFrom c.args.version segment place c.args.kernel state count end)
    (sym (rw c.in_ok-base.ensures.ok.1 at c.new-made.ensures.place honest)) replays)))

pub returns-clause-state : goal.returns-clause-state
returns-clause-state g c = λ honest.
    let seen = (g.D.Disk.view c.args.disk.now).seen in
    let segment : List ℕ = slot_of seen c.segment_slot-slot.result in
    let at = sym c.segment_slot-slot.ensures in
    let last = c.replay_all.new.reader in
    let e = c.args.epoch in
    let v = c.args.version in
    let replays : ReplaysFrom v segment (first_place 16) c.args.kernel c.in_ok-kernel.kernel last.number last.window.at =
    subst (λ (place : Place). ReplaysFrom v segment place c.args.kernel c.in_ok-kernel.kernel last.number last.window.at)
    (rw c.in_ok-base.ensures.ok.1 at c.new-made.ensures.place honest)
    (rw c.in_ok-base.ensures.ok.0 at c.in_ok-kernel.ensures.state honest) in
    let all =
    replayed_all v e segment c.args.kernel c.in_ok-kernel.kernel last.number last.window.at
    (subst (λ (s : Slot). 16 ≤ length (slot_of seen s)) at (c.requires.inside honest))
    (subst (λ (s : Slot). version_of (slot_of seen s) ≡ version_number v) at (c.requires.says honest))
    c.requires.next replays in
    subst (λ (s : Slot). ReplaysAll e (slot_of seen s) c.args.kernel c.in_ok-kernel.kernel c.number.result c.at.result)
    c.segment_slot-slot.ensures
    (subst (λ n. ReplaysAll e segment c.args.kernel c.in_ok-kernel.kernel n c.at.result) (sym c.number.ensures)
    (subst (λ at. ReplaysAll e segment c.args.kernel c.in_ok-kernel.kernel last.number at) (sym c.at.ensures) all))

pub returns-in_err-base-clause-state : goal.returns-in_err-base-clause-state
returns-in_err-base-clause-state g c =
    λ honest. let p = err_from_is_err_and c.from_residual.result c.from_residual.ensures.1 in
    none_in_error _ c.from_residual.result _ p.1

pub returns-in_err-base-clause-damaged : goal.returns-in_err-base-clause-damaged
returns-in_err-base-clause-damaged g c =
    λ honest reported. let p = err_from_is_err_and c.from_residual.result c.from_residual.ensures.1 in
    absurd (memory_no_damage c.from_residual.result (p.1 ∙ ap Err p.2) reported)

pub returns-in_err-base-clause-faults : goal.returns-in_err-base-clause-faults
returns-in_err-base-clause-faults g c =
    let p = err_from_is_err_and c.from_residual.result c.from_residual.ensures.1 in
    of_memory c.from_residual.result (p.1 ∙ ap Err p.2)

pub returns-in_err-kernel-clause-state : goal.returns-in_err-kernel-clause-state
returns-in_err-kernel-clause-state g c =
    λ honest. let p = err_from_is_err_and c.from_residual-in_err-kernel.result c.from_residual-in_err-kernel.ensures.1
    in none_in_error _ c.from_residual-in_err-kernel.result _ p.1

pub returns-in_err-base-clause-reads_only : goal.returns-in_err-base-clause-reads_only
returns-in_err-base-clause-reads_only g c = λ honest. reads_nothing (g.D.Disk.view c.args.disk.now)

pub returns-in_err-base-clause-failures : goal.returns-in_err-base-clause-failures
returns-in_err-base-clause-failures g c =
    let p = err_from_is_err_and c.from_residual.result c.from_residual.ensures.1 in
    counts_memory _ _ c.from_residual.result (p.1 ∙ ap Err p.2) refl

pub returns-in_err-kernel-clause-reads_only : goal.returns-in_err-kernel-clause-reads_only
returns-in_err-kernel-clause-reads_only g c = λ honest. c.replay_all.ensures.reads_only honest

pub returns-in_err-kernel-clause-failures : goal.returns-in_err-kernel-clause-failures
returns-in_err-kernel-clause-failures g c =
    let p = err_from_is_err_and c.from_residual-in_err-kernel.result c.from_residual-in_err-kernel.ensures.1 in
    counts_passed _ _ _ c.from_residual-in_err-kernel.result (p.1 ∙ ap Err p.2) c.in_err-kernel.ensures.failures

pub returns-clause-reads_only : goal.returns-clause-reads_only
returns-clause-reads_only g c = λ honest. c.replay_all.ensures.reads_only honest

pub returns-clause-failures : goal.returns-clause-failures
returns-clause-failures g c = counts_ok _ _ _ c.in_ok-kernel.ensures.failures.quiet
