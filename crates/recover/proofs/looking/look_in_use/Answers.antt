use Rattle.std.proofs.Common.{◌+◌, ℕ, Err, ap, sym, subst, arith, ◌∙◌}
use Rattle.std.proofs.lemmas.Result.{err_from_is_err_and}
use Rattle.disk.specs.Slots.{Slots, slot_of}
use Rattle.disk.proofs.Moments.{reads_then}
use Rattle.ipc_model.specs.store.Store.{EncodesSegment}
use Rattle.recover.specs.Found.{Reads}
use Rattle.recover.specs.Replayed.{ReplaysAll}
use Rattle.recover.specs.Surveyed.{IsInUse as Uses}
use Rattle.slot_steps.specs.Steps.{segment_slot}
use Rattle.recover.proofs.Ways.{next_damaged, one_reads, read_damaged, two_few, two_reads}
use Rattle.recover.proofs.Faults.{counts_ok, counts_passed, counts_then, none_in_error}
use Rattle.recover.proofs.looking.look_in_use.Goals as goal

pub returns-in_err-kernel-clause-damaged : goal.returns-in_err-kernel-clause-damaged
returns-in_err-kernel-clause-damaged g c = λ honest reported.
    let p = err_from_is_err_and c.from_residual.result c.from_residual.ensures.1 in
    read_damaged (g.D.Disk.view c.args.disk.now).seen c.args.epoch c.args.follows (c.requires.used honest)
    (c.in_err-kernel.ensures.damaged honest (cc (p.1, p.2, reported)))

pub returns-then-not-follows-clause-reads : goal.returns-then-not-follows-clause-reads
returns-then-not-follows-clause-reads g c = λ honest.
    let seen = (g.D.Disk.view c.args.disk.now).seen in
    one_reads seen c.args.epoch c.in_ok-kernel.kernel c.in_ok-kernel.first c.in_ok-kernel.field-0-2
    (subst (Uses seen c.args.epoch) (cc c.if-not-follows.true) (c.requires.used honest))
    (c.in_ok-kernel.ensures.read honest)

pub returns-in_err-kernel-2-clause-damaged : goal.returns-in_err-kernel-2-clause-damaged
returns-in_err-kernel-2-clause-damaged g c = λ honest reported.
    let p = err_from_is_err_and c.from_residual-in_err-kernel-2.result c.from_residual-in_err-kernel-2.ensures.1 in
    let e = c.args.epoch in
    let seen = (g.D.Disk.view c.args.disk.now).seen in
    next_damaged seen e c.in_ok-kernel.kernel c.in_ok-kernel.first c.in_ok-kernel.field-0-2
    (subst (Uses seen e) c.if-not-follows.false (c.requires.used honest)) (c.in_ok-kernel.ensures.read honest)
    (λ rs s encoded. c.in_err-kernel-2.ensures.damaged honest (cc (p.1, p.2, reported)) rs s
    (subst (λ (d : Slots). EncodesSegment (e + 1) (slot_of d (segment_slot (e + 1))) rs)
    (sym (c.in_ok-kernel.ensures.reads_only honest).seen) encoded))

pub returns-clause-reads : goal.returns-clause-reads
returns-clause-reads g c = λ honest.
    let e = c.args.epoch in
    let seen = (g.D.Disk.view c.args.disk.now).seen in
    let mid = c.in_ok-kernel.kernel in
    let next = c.in_ok-kernel-2 in
    let used = subst (Uses seen e) c.if-not-follows.false (c.requires.used honest) in
    let replays =
    subst (λ (d : Slots). ReplaysAll (e + 1) (slot_of d (segment_slot (e + 1))) mid next.kernel next.next next.field-0-2)
    (c.in_ok-kernel.ensures.reads_only honest).seen (next.ensures.state honest) in
    let few =
    two_few seen e mid next.kernel c.in_ok-kernel.first c.in_ok-kernel.field-0-2 next.next next.field-0-2
    (c.in_ok-kernel.ensures.read honest) replays in
    subst (λ (n : ℕ). Reads seen e n next.kernel) (omega (arith, few, c.saturating_add.ensures))
    (two_reads seen e mid next.kernel c.in_ok-kernel.first c.in_ok-kernel.field-0-2 next.next next.field-0-2 used
    (c.in_ok-kernel.ensures.read honest) replays)

pub returns-in_err-kernel-clause-reads : goal.returns-in_err-kernel-clause-reads
returns-in_err-kernel-clause-reads g c =
    λ honest. let p = err_from_is_err_and c.from_residual.result c.from_residual.ensures.1 in
    none_in_error _ c.from_residual.result _ p.1

pub returns-in_err-kernel-2-clause-reads : goal.returns-in_err-kernel-2-clause-reads
returns-in_err-kernel-2-clause-reads g c =
    λ honest. let p = err_from_is_err_and c.from_residual-in_err-kernel-2.result
    c.from_residual-in_err-kernel-2.ensures.1 in none_in_error _ c.from_residual-in_err-kernel-2.result _ p.1

pub returns-in_err-kernel-clause-reads_only : goal.returns-in_err-kernel-clause-reads_only
returns-in_err-kernel-clause-reads_only g c = λ honest. c.read_epoch.ensures.reads_only honest

pub returns-in_err-kernel-clause-failures : goal.returns-in_err-kernel-clause-failures
returns-in_err-kernel-clause-failures g c =
    let p = err_from_is_err_and c.from_residual.result c.from_residual.ensures.1 in
    counts_passed _ _ _ c.from_residual.result (p.1 ∙ ap Err p.2) c.in_err-kernel.ensures.failures

pub returns-then-not-follows-clause-reads_only : goal.returns-then-not-follows-clause-reads_only
returns-then-not-follows-clause-reads_only g c = λ honest. c.read_epoch.ensures.reads_only honest

pub returns-then-not-follows-clause-failures : goal.returns-then-not-follows-clause-failures
returns-then-not-follows-clause-failures g c = counts_ok _ _ _ c.in_ok-kernel.ensures.failures.quiet

pub returns-in_err-kernel-2-clause-reads_only : goal.returns-in_err-kernel-2-clause-reads_only
returns-in_err-kernel-2-clause-reads_only g c =
    λ honest. reads_then _ _ _ (c.read_epoch.ensures.reads_only honest) (c.replay_segment.ensures.reads_only honest)

pub returns-in_err-kernel-2-clause-failures : goal.returns-in_err-kernel-2-clause-failures
returns-in_err-kernel-2-clause-failures g c =
    let p = err_from_is_err_and c.from_residual-in_err-kernel-2.result c.from_residual-in_err-kernel-2.ensures.1 in
    counts_then _ _ _ c.from_residual-in_err-kernel-2.result c.in_ok-kernel.ensures.failures.quiet
    (counts_passed _ _ _ c.from_residual-in_err-kernel-2.result (p.1 ∙ ap Err p.2) c.in_err-kernel-2.ensures.failures)

pub returns-clause-reads_only : goal.returns-clause-reads_only
returns-clause-reads_only g c =
    λ honest. reads_then _ _ _ (c.read_epoch.ensures.reads_only honest) (c.replay_segment.ensures.reads_only honest)

pub returns-clause-failures : goal.returns-clause-failures
returns-clause-failures g c =
    counts_ok _ _ _ (c.in_ok-kernel-2.ensures.failures.quiet ∙ c.in_ok-kernel.ensures.failures.quiet)
