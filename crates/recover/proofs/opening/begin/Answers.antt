use Rattle.std.proofs.Common.{inl, Err, ap, sym, subst, ◌∙◌}
use Rattle.std.proofs.lemmas.Result.{err_from_is_err_and}
use Rattle.checkpoint.specs.Images.{open_image, unwritten}
use Rattle.disk.specs.Moments.{one_more}
use Rattle.disk.specs.Slots.{Slots}
use Rattle.ipc_model.specs.state.State.{State}
use Rattle.ipc_model.specs.store.Recovery.{HoldsImage, IsNew, Recovered}
use Rattle.ipc_model.specs.encodings.Images.{image_encoding}
use Rattle.recover.specs.Kept.{IsKept}
use Rattle.store_layout.specs.Gates.{HaveLastGates}
use Rattle.recover.specs.Surveyed.{IsUnused}
use Rattle.store_layout.specs.Standing.{as_written}
use Rattle.recover.proofs.Faults.{counts_device, counts_memory, counts_ok, counts_passed, device_no_damage, memory_no_damage, of_device, of_memory, opens_as, opens_device, opens_nothing}
use Rattle.recover.proofs.Joined.{still_then_same}
use Rattle.recover.proofs.Rest.{rest_kept}
use Rattle.recover.proofs.Stages.{fresh_recovered, unused_fresh}
use Rattle.recover.proofs.Ways.{still_same}
use Rattle.recover.proofs.opening.begin.Goals as goal

pub returns-in_err-have_no_batch-clause-any_moment : goal.returns-in_err-have_no_batch-clause-any_moment
returns-in_err-have_no_batch-clause-any_moment g c =
    λ honest gates. still_same (g.D.Disk.view c.args.disk.now) (g.D.Disk.view c.have_no_batch.new.disk)
    (c.requires.rest honest) gates (c.have_no_batch.ensures.reads_only honest).time

pub returns-in_err-kernel-clause-any_moment : goal.returns-in_err-kernel-clause-any_moment
returns-in_err-kernel-clause-any_moment g c =
    λ honest gates. still_same (g.D.Disk.view c.args.disk.now) (g.D.Disk.view c.have_no_batch.new.disk)
    (c.requires.rest honest) gates (c.have_no_batch.ensures.reads_only honest).time

pub returns-in_err-kernel-2-clause-any_moment : goal.returns-in_err-kernel-2-clause-any_moment
returns-in_err-kernel-2-clause-any_moment g c =
    λ honest gates. still_same (g.D.Disk.view c.args.disk.now) (g.D.Disk.view c.have_no_batch.new.disk)
    (c.requires.rest honest) gates (c.have_no_batch.ensures.reads_only honest).time

pub returns-in_err-kernel-3-clause-any_moment : goal.returns-in_err-kernel-3-clause-any_moment
returns-in_err-kernel-3-clause-any_moment g c = λ honest gates.
    let same = (c.have_no_batch.ensures.reads_only honest).seen in
    still_then_same (g.D.Disk.view c.args.disk.now) (g.D.Disk.view c.have_no_batch.new.disk)
    (g.D.Disk.view c.write_first.new.disk) (c.requires.rest honest) gates
    (c.have_no_batch.ensures.reads_only honest).time same
    (c.write_first.ensures.any_moment honest (subst HaveLastGates (sym same) gates))

pub returns-clause-any_moment : goal.returns-clause-any_moment
returns-clause-any_moment g c = λ honest gates.
    let same = (c.have_no_batch.ensures.reads_only honest).seen in
    still_then_same (g.D.Disk.view c.args.disk.now) (g.D.Disk.view c.have_no_batch.new.disk)
    (g.D.Disk.view c.write_first.new.disk) (c.requires.rest honest) gates
    (c.have_no_batch.ensures.reads_only honest).time same
    (c.write_first.ensures.any_moment honest (subst HaveLastGates (sym same) gates))

pub returns-in_err-kernel-clause-damaged : goal.returns-in_err-kernel-clause-damaged
returns-in_err-kernel-clause-damaged g c = λ honest reported.
    let p = err_from_is_err_and c.from_residual-in_err-kernel.result c.from_residual-in_err-kernel.ensures.1 in
    absurd (memory_no_damage c.from_residual-in_err-kernel.result (p.1 ∙ ap Err p.2) reported)

pub returns-in_err-kernel-clause-faults : goal.returns-in_err-kernel-clause-faults
returns-in_err-kernel-clause-faults g c =
    let p = err_from_is_err_and c.from_residual-in_err-kernel.result c.from_residual-in_err-kernel.ensures.1 in
    of_memory c.from_residual-in_err-kernel.result (p.1 ∙ ap Err p.2)

pub returns-in_err-kernel-2-clause-damaged : goal.returns-in_err-kernel-2-clause-damaged
returns-in_err-kernel-2-clause-damaged g c = λ honest reported.
    let p = err_from_is_err_and c.from_residual-in_err-kernel-2.result c.from_residual-in_err-kernel-2.ensures.1 in
    absurd (memory_no_damage c.from_residual-in_err-kernel-2.result (p.1 ∙ ap Err p.2) reported)

pub returns-in_err-kernel-2-clause-faults : goal.returns-in_err-kernel-2-clause-faults
returns-in_err-kernel-2-clause-faults g c =
    let p = err_from_is_err_and c.from_residual-in_err-kernel-2.result c.from_residual-in_err-kernel-2.ensures.1 in
    of_memory c.from_residual-in_err-kernel-2.result (p.1 ∙ ap Err p.2)

pub returns-in_err-kernel-3-clause-damaged : goal.returns-in_err-kernel-3-clause-damaged
returns-in_err-kernel-3-clause-damaged g c = λ honest reported.
    let p = err_from_is_err_and c.from_residual-in_err-kernel-3.result c.from_residual-in_err-kernel-3.ensures.1 in
    absurd (device_no_damage c.from_residual-in_err-kernel-3.result (p.1 ∙ ap Err p.2) reported)

pub returns-in_err-kernel-3-clause-faults : goal.returns-in_err-kernel-3-clause-faults
returns-in_err-kernel-3-clause-faults g c =
    let p = err_from_is_err_and c.from_residual-in_err-kernel-3.result c.from_residual-in_err-kernel-3.ensures.1 in
    of_device c.from_residual-in_err-kernel-3.result (p.1 ∙ ap Err p.2)

pub write_first-requires-clause-unused : goal.write_first-requires-clause-unused
write_first-requires-clause-unused g c =
    λ honest. subst IsUnused (sym (c.have_no_batch.ensures.reads_only honest).seen) (c.requires.unused honest)

pub write_first-requires-clause-new : goal.write_first-requires-clause-new
write_first-requires-clause-new g c =
    λ honest. subst (λ (s : Slots). IsNew (as_written s)) (sym (c.have_no_batch.ensures.reads_only honest).seen)
    (c.in_ok-have_no_batch.ensures.new honest)

pub write_first-requires-clause-image : goal.write_first-requires-clause-image
write_first-requires-clause-image g c =
    c.in_ok-kernel-2.ensures.image ∙ ap (λ (s : State). unwritten 0 (image_encoding s)) c.in_ok-kernel.ensures

pub write_first-requires-clause-holds : goal.write_first-requires-clause-holds
write_first-requires-clause-holds g c =
    subst (λ (s : State). HoldsImage 0 (open_image 0 (image_encoding s)) s) c.in_ok-kernel.ensures
    c.in_ok-kernel-2.ensures.holds

pub returns-in_err-have_no_batch-clause-opened : goal.returns-in_err-have_no_batch-clause-opened
returns-in_err-have_no_batch-clause-opened g c = λ honest.
    let p = err_from_is_err_and c.from_residual.result c.from_residual.ensures.1 in
    opens_nothing _ _ c.from_residual.result _ (p.1 ∙ ap Err p.2) (c.have_no_batch.ensures.reads_only honest)

pub returns-in_err-have_no_batch-clause-failures : goal.returns-in_err-have_no_batch-clause-failures
returns-in_err-have_no_batch-clause-failures g c =
    let p = err_from_is_err_and c.from_residual.result c.from_residual.ensures.1 in
    counts_passed _ _ _ c.from_residual.result (p.1 ∙ ap Err p.2) c.in_err-have_no_batch.ensures.failures

pub returns-in_err-kernel-clause-opened : goal.returns-in_err-kernel-clause-opened
returns-in_err-kernel-clause-opened g c = λ honest.
    let p = err_from_is_err_and c.from_residual-in_err-kernel.result c.from_residual-in_err-kernel.ensures.1 in
    opens_nothing _ _ c.from_residual-in_err-kernel.result _ (p.1 ∙ ap Err p.2)
    (c.have_no_batch.ensures.reads_only honest)

pub returns-in_err-kernel-clause-failures : goal.returns-in_err-kernel-clause-failures
returns-in_err-kernel-clause-failures g c =
    let p = err_from_is_err_and c.from_residual-in_err-kernel.result c.from_residual-in_err-kernel.ensures.1 in
    counts_memory _ _ c.from_residual-in_err-kernel.result (p.1 ∙ ap Err p.2)
    c.in_ok-have_no_batch.ensures.failures.quiet

pub returns-in_err-kernel-2-clause-opened : goal.returns-in_err-kernel-2-clause-opened
returns-in_err-kernel-2-clause-opened g c = λ honest.
    let p = err_from_is_err_and c.from_residual-in_err-kernel-2.result c.from_residual-in_err-kernel-2.ensures.1 in
    opens_nothing _ _ c.from_residual-in_err-kernel-2.result _ (p.1 ∙ ap Err p.2)
    (c.have_no_batch.ensures.reads_only honest)

pub returns-in_err-kernel-2-clause-failures : goal.returns-in_err-kernel-2-clause-failures
returns-in_err-kernel-2-clause-failures g c =
    let p = err_from_is_err_and c.from_residual-in_err-kernel-2.result c.from_residual-in_err-kernel-2.ensures.1 in
    counts_memory _ _ c.from_residual-in_err-kernel-2.result (p.1 ∙ ap Err p.2)
    c.in_ok-have_no_batch.ensures.failures.quiet

pub returns-in_err-kernel-3-clause-opened : goal.returns-in_err-kernel-3-clause-opened
returns-in_err-kernel-3-clause-opened g c = λ honest.
    let p = err_from_is_err_and c.from_residual-in_err-kernel-3.result c.from_residual-in_err-kernel-3.ensures.1 in
    opens_device _ _ c.from_residual-in_err-kernel-3.result (p.1 ∙ ap Err p.2)

pub returns-in_err-kernel-3-clause-failures : goal.returns-in_err-kernel-3-clause-failures
returns-in_err-kernel-3-clause-failures g c =
    let p = err_from_is_err_and c.from_residual-in_err-kernel-3.result c.from_residual-in_err-kernel-3.ensures.1 in
    counts_device _ _ c.from_residual-in_err-kernel-3.result (p.1 ∙ ap Err p.2)
    (c.in_err-kernel-3.ensures.failures.err ∙ ap one_more c.in_ok-have_no_batch.ensures.failures.quiet)

pub returns-clause-opened : goal.returns-clause-opened
returns-clause-opened g c = λ honest.
    let old = g.D.Disk.view c.args.disk.now in
    let new = g.D.Disk.view c.write_first.new.disk in
    let last = c.in_ok-kernel-3 in
    let same = sym (last.ensures.value ∙ (c.in_ok-kernel-2.ensures.base ∙ c.in_ok-kernel.ensures)) in
    opens_as old new last.kernel last.segment
    (subst (λ (s : State). Recovered (as_written old.seen) s) same
    (fresh_recovered old.seen
    (unused_fresh old.seen (c.requires.unused honest) (c.in_ok-have_no_batch.ensures.new honest))))
    (inl (c.requires.unused honest, last.ensures.epoch))
    (subst (λ (s : State). IsKept new last.segment s) same (last.ensures.kept honest))

pub returns-clause-failures : goal.returns-clause-failures
returns-clause-failures g c =
    counts_ok _ _ _ (c.in_ok-kernel-3.ensures.failures.ok ∙ c.in_ok-have_no_batch.ensures.failures.quiet)

pub write_first-requires-clause-rest : goal.write_first-requires-clause-rest
write_first-requires-clause-rest g c = λ honest.
    let reads = c.have_no_batch.ensures.reads_only honest in
    rest_kept _ _ reads.time reads.seen (c.requires.rest honest)
