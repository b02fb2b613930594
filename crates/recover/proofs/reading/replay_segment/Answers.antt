use Rattle.std.proofs.Common.{subst}
use Rattle.disk.proofs.Moments.{reads_then}
use Rattle.disk.specs.Slots.{Slots, slot_of}
use Rattle.recover.specs.Replayed.{ReplaysAll}
use Rattle.slot_steps.specs.Steps.{segment_slot}
use Rattle.recover.proofs.reading.replay_segment.Goals as goal

pub returns-clause-state : goal.returns-clause-state
returns-clause-state g c = λ honest.
    let last = c.in_ok-kernel-2 in
    subst (λ (s : Slots). ReplaysAll c.args.epoch (slot_of s (segment_slot c.args.epoch)) c.args.kernel last.kernel
    last.records last.end) (c.segment_version-version.ensures.reads_only honest).seen
    (rw c.in_ok-kernel.ensures.ok.0 at last.ensures.state honest)

pub returns-clause-reads_only : goal.returns-clause-reads_only
returns-clause-reads_only g c = λ honest.
    reads_then _ _ _ (c.segment_version-version.ensures.reads_only honest)
    (c.replay_segment_in.ensures.reads_only honest)

pub returns-in_err-kernel-2-clause-reads_only : goal.returns-in_err-kernel-2-clause-reads_only
returns-in_err-kernel-2-clause-reads_only g c = λ honest.
    reads_then _ _ _ (c.segment_version-version.ensures.reads_only honest)
    (c.replay_segment_in.ensures.reads_only honest)
