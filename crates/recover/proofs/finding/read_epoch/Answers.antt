use Rattle.std.proofs.Common.{◌%◌, Err, ap, sym, subst, ◌∙◌}
use Rattle.std.proofs.lemmas.Result.{IfOk-weaker, err_from_is_err_and}
use Rattle.disk.specs.Slots.{Slots, slot_of}
use Rattle.disk.proofs.Moments.{reads_then}
use Rattle.ipc_model.specs.store.Recovery.{HoldsImage, IsOfEpoch}
use Rattle.ipc_model.specs.store.Store.{EncodesSegment}
use Rattle.recover.specs.Replayed.{ReplaysAll}
use Rattle.slot_steps.specs.Steps.{image_slot, segment_slot}
use Rattle.recover.proofs.Faults.{counts_passed, counts_then, none_in_error}
use Rattle.recover.proofs.Ways.{no_run, reads_one}
use Rattle.recover.proofs.finding.read_epoch.Goals as goal

pub returns-in_err-base-clause-damaged : goal.returns-in_err-base-clause-damaged
returns-in_err-base-clause-damaged g c = λ honest reported base state records image segment run.
    let p = err_from_is_err_and c.from_residual.result c.from_residual.ensures.1 in
    c.in_err-base.ensures.damaged honest (cc (p.1, p.2, reported)) c.args.epoch base
    (subst (λ slot. HoldsImage c.args.epoch (slot_of (g.D.Disk.view c.args.disk.now).seen slot) base)
    (sym c.image_slot.ensures) image)

pub returns-clause-damaged : goal.returns-clause-damaged
returns-clause-damaged g c = λ honest reported base state records image segment run.
    let e = c.args.epoch in
    let first = (g.D.Disk.view c.args.disk.now).seen in
    let header =
    subst (λ slot. IsOfEpoch (e % 2) e (slot_of first slot)) (sym c.image_slot.ensures) (c.requires honest).image in
    let own =
    subst (λ slot. HoldsImage e (slot_of first slot) c.in_ok-base.base) c.image_slot.ensures
    (c.in_ok-base.ensures.image honest (e % 2) e header) in
    no_run e (slot_of first (image_slot e))
    (slot_of first (segment_slot e)) c.in_ok-base.base base state records own image segment run
    (λ rs s encoded. c.replay_segment.ensures.damaged honest reported rs s
    (subst (λ (d : Slots). EncodesSegment e (slot_of d (segment_slot e)) rs)
    (sym (c.in_ok-base.ensures.reads_only honest).seen) encoded))

pub returns-clause-read : goal.returns-clause-read
returns-clause-read g c = λ honest.
    let e = c.args.epoch in
    let first = (g.D.Disk.view c.args.disk.now).seen in
    let header =
    subst (λ slot. IsOfEpoch (e % 2) e (slot_of first slot)) (sym c.image_slot.ensures) (c.requires honest).image in
    let own =
    subst (λ slot. HoldsImage e (slot_of first slot) c.in_ok-base.base) c.image_slot.ensures
    (c.in_ok-base.ensures.image honest (e % 2) e header) in
    IfOk-weaker c.replay_segment.result _ _
    (λ read replays. reads_one first e c.in_ok-base.base read.0 read.1 read.2 own
    (subst (λ (d : Slots). ReplaysAll e (slot_of d (segment_slot e)) c.in_ok-base.base read.0 read.1 read.2)
    (c.in_ok-base.ensures.reads_only honest).seen replays))
    (c.replay_segment.ensures.state honest)

pub returns-in_err-base-clause-read : goal.returns-in_err-base-clause-read
returns-in_err-base-clause-read g c =
    λ honest. let p = err_from_is_err_and c.from_residual.result c.from_residual.ensures.1 in
    none_in_error _ c.from_residual.result _ p.1

pub returns-in_err-base-clause-reads_only : goal.returns-in_err-base-clause-reads_only
returns-in_err-base-clause-reads_only g c = λ honest. c.load_image.ensures.reads_only honest

pub returns-in_err-base-clause-failures : goal.returns-in_err-base-clause-failures
returns-in_err-base-clause-failures g c =
    let p = err_from_is_err_and c.from_residual.result c.from_residual.ensures.1 in
    counts_passed _ _ _ c.from_residual.result (p.1 ∙ ap Err p.2) c.in_err-base.ensures.failures

pub returns-clause-reads_only : goal.returns-clause-reads_only
returns-clause-reads_only g c =
    λ honest. reads_then _ _ _ (c.load_image.ensures.reads_only honest) (c.replay_segment.ensures.reads_only honest)

pub returns-clause-failures : goal.returns-clause-failures
returns-clause-failures g c =
    counts_then _ _ _ c.replay_segment.result c.in_ok-base.ensures.failures.quiet c.replay_segment.ensures.failures

pub returns-clause-faults : goal.returns-clause-faults
returns-clause-faults g c = c.replay_segment.ensures.faults
