use Rattle.std.proofs.Common.{◌≡◌, inl, inr, Err, ap, refl, sym, subst, ◌∙◌}
use Rattle.std.proofs.lemmas.Result.{err_from_is_err_and}
use Rattle.codes.specs.StoreVersion.{version_number}
use Rattle.disk.specs.Moments.{one_more}
use Rattle.disk.specs.Slots.{Slots, slot_of}
use Rattle.ipc_model.specs.state.State.{State}
use Rattle.ipc_model.specs.store.Recovery.{Recovered, version_of}
use Rattle.recover.specs.Kept.{IsKept}
use Rattle.recover.specs.Upgrading.{IsRead}
use Rattle.slot_steps.specs.Steps.{segment_slot}
use Rattle.store_layout.specs.Gates.{HaveLastGates}
use Rattle.store_layout.specs.Standing.{as_written}
use Rattle.recover.proofs.Faults.{counts_device, counts_memory, counts_ok, counts_passed, device_no_damage, memory_no_damage, of_device, of_memory, opens_as, opens_device, opens_nothing}
use Rattle.recover.proofs.Joined.{still_then_same}
use Rattle.recover.proofs.Rest.{rest_kept}
use Rattle.recover.proofs.Upgraded.{continues, to_end, upgrade_fits}
use Rattle.recover.proofs.Ways.{one_found, one_parts, read_damaged, still_same}
use Rattle.recover.proofs.opening.go_on.Goals as goal

pub returns-in_err-kernel-clause-damaged : goal.returns-in_err-kernel-clause-damaged
returns-in_err-kernel-clause-damaged g c = λ honest reported.
    let p = err_from_is_err_and c.from_residual.result c.from_residual.ensures.1 in
    read_damaged (g.D.Disk.view c.args.disk.now).seen c.args.epoch _ (c.requires.used honest)
    (c.in_err-kernel.ensures.damaged honest (cc (p.1, p.2, reported)))

pub returns-in_err-kernel-clause-any_moment : goal.returns-in_err-kernel-clause-any_moment
returns-in_err-kernel-clause-any_moment g c =
    λ honest gates. still_same (g.D.Disk.view c.args.disk.now) (g.D.Disk.view c.read_epoch.new.disk)
    (c.requires.rest honest) gates (c.read_epoch.ensures.reads_only honest).time

pub returns-in_err-kernel-clause-opened : goal.returns-in_err-kernel-clause-opened
returns-in_err-kernel-clause-opened g c = λ honest.
    let p = err_from_is_err_and c.from_residual.result c.from_residual.ensures.1 in
    opens_nothing _ _ c.from_residual.result _ (p.1 ∙ ap Err p.2) (c.read_epoch.ensures.reads_only honest)

pub returns-in_err-kernel-clause-failures : goal.returns-in_err-kernel-clause-failures
returns-in_err-kernel-clause-failures g c =
    let p = err_from_is_err_and c.from_residual.result c.from_residual.ensures.1 in
    counts_passed _ _ _ c.from_residual.result (p.1 ∙ ap Err p.2) c.in_err-kernel.ensures.failures

-- out of memory for the image of an upgrade

pub returns-in_err-kernel-2-clause-any_moment : goal.returns-in_err-kernel-2-clause-any_moment
returns-in_err-kernel-2-clause-any_moment g c =
    λ honest gates. still_same (g.D.Disk.view c.args.disk.now) (g.D.Disk.view c.read_epoch.new.disk)
    (c.requires.rest honest) gates (c.read_epoch.ensures.reads_only honest).time

pub returns-in_err-kernel-2-clause-damaged : goal.returns-in_err-kernel-2-clause-damaged
returns-in_err-kernel-2-clause-damaged g c = λ honest reported.
    let p = err_from_is_err_and c.from_residual-in_err-kernel-2.result c.from_residual-in_err-kernel-2.ensures.1 in
    absurd (memory_no_damage c.from_residual-in_err-kernel-2.result (p.1 ∙ ap Err p.2) reported)

pub returns-in_err-kernel-2-clause-faults : goal.returns-in_err-kernel-2-clause-faults
returns-in_err-kernel-2-clause-faults g c =
    let p = err_from_is_err_and c.from_residual-in_err-kernel-2.result c.from_residual-in_err-kernel-2.ensures.1 in
    of_memory c.from_residual-in_err-kernel-2.result (p.1 ∙ ap Err p.2)

pub returns-in_err-kernel-2-clause-opened : goal.returns-in_err-kernel-2-clause-opened
returns-in_err-kernel-2-clause-opened g c = λ honest.
    let p = err_from_is_err_and c.from_residual-in_err-kernel-2.result c.from_residual-in_err-kernel-2.ensures.1 in
    opens_nothing _ _ c.from_residual-in_err-kernel-2.result _ (p.1 ∙ ap Err p.2)
    (c.read_epoch.ensures.reads_only honest)

pub returns-in_err-kernel-2-clause-failures : goal.returns-in_err-kernel-2-clause-failures
returns-in_err-kernel-2-clause-failures g c =
    let p = err_from_is_err_and c.from_residual-in_err-kernel-2.result c.from_residual-in_err-kernel-2.ensures.1 in
    counts_memory _ _ c.from_residual-in_err-kernel-2.result (p.1 ∙ ap Err p.2) c.in_ok-kernel.ensures.failures.quiet

-- the segment is ended

pub end_store-requires-clause-fits : goal.end_store-requires-clause-fits
end_store-requires-clause-fits g c =
    upgrade_fits c.in_ok-kernel.version c.args.epoch c.in_ok-kernel.kernel c.in_ok-kernel-2.upgrade
    c.in_ok-kernel-2.upgrade refl c.in_ok-kernel-2.ensures.upgrade

pub end_store-requires-clause-read : goal.end_store-requires-clause-read
end_store-requires-clause-read g c = λ honest.
    let e = c.args.epoch in
    let old = g.D.Disk.view c.args.disk.now in
    let mid = g.D.Disk.view c.read_epoch.new.disk in
    let read = c.in_ok-kernel in
    let reads = c.read_epoch.ensures.reads_only honest in
    to_end mid e read.kernel c.in_ok-kernel-2.kernel read.records read.end read.version c.in_ok-kernel-2.upgrade
    c.in_ok-kernel-2.upgrade c.in_ok-kernel-2.ensures.base refl
    (rest_kept old mid reads.time reads.seen (c.requires.rest honest))
    (subst (λ (s : Slots). IsRead s e read.kernel read.records read.end) (sym reads.seen)
    (one_parts old.seen e read.kernel read.records read.end (c.requires.used honest) (read.ensures.read honest)))
    (subst (λ (s : Slots). version_of (slot_of s (segment_slot e)) ≡ version_number read.version) (sym reads.seen)
    (read.ensures.says honest)) c.in_ok-kernel-2.ensures.upgrade

pub returns-in_err-kernel-3-clause-any_moment : goal.returns-in_err-kernel-3-clause-any_moment
returns-in_err-kernel-3-clause-any_moment g c = λ honest gates.
    let reads = c.read_epoch.ensures.reads_only honest in
    still_then_same (g.D.Disk.view c.args.disk.now) (g.D.Disk.view c.read_epoch.new.disk)
    (g.D.Disk.view c.end_store.new.disk) (c.requires.rest honest) gates reads.time reads.seen
    (c.end_store.ensures.any_moment honest (subst HaveLastGates (sym reads.seen) gates))

pub returns-clause-any_moment : goal.returns-clause-any_moment
returns-clause-any_moment g c = λ honest gates.
    let reads = c.read_epoch.ensures.reads_only honest in
    still_then_same (g.D.Disk.view c.args.disk.now) (g.D.Disk.view c.read_epoch.new.disk)
    (g.D.Disk.view c.end_store.new.disk) (c.requires.rest honest) gates reads.time reads.seen
    (c.end_store.ensures.any_moment honest (subst HaveLastGates (sym reads.seen) gates))

pub returns-in_err-kernel-3-clause-damaged : goal.returns-in_err-kernel-3-clause-damaged
returns-in_err-kernel-3-clause-damaged g c = λ honest reported.
    let p = err_from_is_err_and c.from_residual-in_err-kernel-3.result c.from_residual-in_err-kernel-3.ensures.1 in
    absurd (device_no_damage c.from_residual-in_err-kernel-3.result (p.1 ∙ ap Err p.2) reported)

pub returns-in_err-kernel-3-clause-faults : goal.returns-in_err-kernel-3-clause-faults
returns-in_err-kernel-3-clause-faults g c =
    let p = err_from_is_err_and c.from_residual-in_err-kernel-3.result c.from_residual-in_err-kernel-3.ensures.1 in
    of_device c.from_residual-in_err-kernel-3.result (p.1 ∙ ap Err p.2)

pub returns-in_err-kernel-3-clause-opened : goal.returns-in_err-kernel-3-clause-opened
returns-in_err-kernel-3-clause-opened g c = λ honest.
    let p = err_from_is_err_and c.from_residual-in_err-kernel-3.result c.from_residual-in_err-kernel-3.ensures.1 in
    opens_device _ _ c.from_residual-in_err-kernel-3.result (p.1 ∙ ap Err p.2)

pub returns-in_err-kernel-3-clause-failures : goal.returns-in_err-kernel-3-clause-failures
returns-in_err-kernel-3-clause-failures g c =
    let p = err_from_is_err_and c.from_residual-in_err-kernel-3.result c.from_residual-in_err-kernel-3.ensures.1 in
    counts_device _ _ c.from_residual-in_err-kernel-3.result (p.1 ∙ ap Err p.2)
    (c.in_err-kernel-3.ensures.failures.err ∙ ap one_more c.in_ok-kernel.ensures.failures.quiet)

pub returns-clause-opened : goal.returns-clause-opened
returns-clause-opened g c = λ honest.
    let e = c.args.epoch in
    let old = g.D.Disk.view c.args.disk.now in
    let new = g.D.Disk.view c.end_store.new.disk in
    let read = c.in_ok-kernel in
    let last = c.in_ok-kernel-3 in
    let parts =
    one_parts old.seen e read.kernel read.records read.end (c.requires.used honest) (read.ensures.read honest) in
    opens_as old new last.kernel last.segment
    (subst (λ (k : State). Recovered (as_written old.seen) k)
    (sym (last.ensures.same ∙ c.in_ok-kernel-2.ensures.base))
    (one_found old.seen e read.kernel read.records read.end parts))
    (inr (inl (
      e,
      c.requires.used honest,
      continues old.seen e last.segment.epoch read.version read.kernel c.in_ok-kernel-2.upgrade (read.ensures.says honest)
          c.in_ok-kernel-2.ensures.upgrade last.ensures.epoch,
    )))
    (subst (λ (k : State). IsKept new last.segment k) (sym last.ensures.same) (last.ensures.kept honest))

pub returns-clause-failures : goal.returns-clause-failures
returns-clause-failures g c =
    counts_ok _ _ _ (c.in_ok-kernel-3.ensures.failures.ok ∙ c.in_ok-kernel.ensures.failures.quiet)
