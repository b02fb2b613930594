use Rattle.std.proofs.Common.{ap, ◌∙◌}
use Rattle.codes.specs.StoreVersion.{current}
use Rattle.journal.specs.declared.segment.Segment.{Segment}
use Rattle.slot_steps.specs.Steps.{segment_slot}
use Rattle.recover.proofs.Joined.{end_kept, end_same}
use Rattle.recover.proofs.Upgraded.{current_says, image_made_same, segment_made_same, upgraded_at_rest, upgraded_inside, upgraded_kept, upgraded_same, upgrades}
use Rattle.recover.proofs.opening.end_store.Goals as goal

-- no upgrade

pub returns-in_err-kernel-clause-any_moment : goal.returns-in_err-kernel-clause-any_moment
returns-in_err-kernel-clause-any_moment g c = λ honest gates.
    let read = c.requires.read honest in
    end_same (g.D.Disk.view c.args.disk.now) (g.D.Disk.view c.end_after.new.disk) c.args.segment.epoch
    c.segment_slot.result c.args.kernel c.args.segment.records c.args.end c.segment_slot.ensures read.at_rest gates
    read.read (c.end_after.ensures.any_moment honest)

pub returns-in_default-clause-any_moment : goal.returns-in_default-clause-any_moment
returns-in_default-clause-any_moment g c = λ honest gates.
    let read = c.requires.read honest in
    end_same (g.D.Disk.view c.args.disk.now) (g.D.Disk.view c.end_after.new.disk) c.args.segment.epoch
    c.segment_slot.result c.args.kernel c.args.segment.records c.args.end c.segment_slot.ensures read.at_rest gates
    read.read (c.end_after.ensures.any_moment honest)

pub returns-in_default-clause-kept : goal.returns-in_default-clause-kept
returns-in_default-clause-kept g c = λ honest.
    let old = g.D.Disk.view c.args.disk.now in
    let read = c.requires.read honest in
    end_kept old (g.D.Disk.view c.end_after.new.disk) c.args.segment.epoch c.segment_slot.result c.args.kernel
    c.args.segment.records c.args.end current c.segment_slot.ensures read.read
    (current_says old c.args.kernel c.args.segment c.args.end c.args.upgrade read c.in_default.is)
    (c.in_ok-kernel.ensures.rest honest read.at_rest) (c.in_ok-kernel.ensures.ended honest)

-- the next segment is created

pub returns-in_err-kernel-2-clause-any_moment : goal.returns-in_err-kernel-2-clause-any_moment
returns-in_err-kernel-2-clause-any_moment g c = λ honest gates.
    let old = g.D.Disk.view c.args.disk.now in
    let mid = g.D.Disk.view c.make_segment-next.new.disk in
    let e = c.args.segment.epoch in
    let count = c.args.segment.records in
    let end = c.args.end in
    let state = c.args.kernel in
    let image = c.in-Some.image in
    let u =
    upgrades old c.args.kernel c.args.segment c.args.end c.args.upgrade c.in-Some.image (c.requires.read honest)
    c.in-Some.is in
    segment_made_same old mid e state count end image u gates (c.make_segment-next.ensures.any_moment honest)

-- the next image is written

pub returns-in_err-kernel-3-clause-any_moment : goal.returns-in_err-kernel-3-clause-any_moment
returns-in_err-kernel-3-clause-any_moment g c = λ honest gates.
    let old = g.D.Disk.view c.args.disk.now in
    let mid = g.D.Disk.view c.make_segment-next.new.disk in
    let e = c.args.segment.epoch in
    let count = c.args.segment.records in
    let end = c.args.end in
    let state = c.args.kernel in
    let image = c.in-Some.image in
    let u =
    upgrades old c.args.kernel c.args.segment c.args.end c.args.upgrade c.in-Some.image (c.requires.read honest)
    c.in-Some.is in
    let made = rw c.in_ok-kernel-2.ensures.ok.1 at c.make_segment-next.ensures.made honest in
    let synced = rw c.in_ok-kernel-2.ensures.ok.1 at c.make_segment-next.ensures.synced honest in
    let time = c.make_segment-next.ensures.any_moment honest in
    let written = g.D.Disk.view c.write_after.new.disk in
    let writes = c.write_after.ensures.any_moment honest in
    image_made_same old mid written e state count end image u gates time made synced writes

-- the next segment is ended

pub end_after-requires-2 : goal.end_after-requires-2
end_after-requires-2 g c = λ honest.
    let old = g.D.Disk.view c.args.disk.now in
    let mid = g.D.Disk.view c.make_segment-next.new.disk in
    let e = c.args.segment.epoch in
    let count = c.args.segment.records in
    let end = c.args.end in
    let state = c.args.kernel in
    let image = c.in-Some.image in
    let u =
    upgrades old c.args.kernel c.args.segment c.args.end c.args.upgrade c.in-Some.image (c.requires.read honest)
    c.in-Some.is in
    let made = rw c.in_ok-kernel-2.ensures.ok.1 at c.make_segment-next.ensures.made honest in
    let synced = rw c.in_ok-kernel-2.ensures.ok.1 at c.make_segment-next.ensures.synced honest in
    let time = c.make_segment-next.ensures.any_moment honest in
    let written = g.D.Disk.view c.write_after.new.disk in
    let writes = c.write_after.ensures.any_moment honest in
    let zeros = rw c.in_ok-kernel-2.ensures.ok.1 at c.make_segment-next.ensures.segment in
    let at = c.segment_slot-2.ensures ∙ ap (λ (s : Segment). segment_slot s.epoch) zeros in
    upgraded_inside old mid written e c.segment_slot-2.result state count end image u made
    (c.in_ok-kernel-3.ensures.made honest) at

pub returns-in_err-kernel-4-clause-any_moment : goal.returns-in_err-kernel-4-clause-any_moment
returns-in_err-kernel-4-clause-any_moment g c = λ honest gates.
    let old = g.D.Disk.view c.args.disk.now in
    let mid = g.D.Disk.view c.make_segment-next.new.disk in
    let e = c.args.segment.epoch in
    let count = c.args.segment.records in
    let end = c.args.end in
    let state = c.args.kernel in
    let image = c.in-Some.image in
    let u =
    upgrades old c.args.kernel c.args.segment c.args.end c.args.upgrade c.in-Some.image (c.requires.read honest)
    c.in-Some.is in
    let made = rw c.in_ok-kernel-2.ensures.ok.1 at c.make_segment-next.ensures.made honest in
    let synced = rw c.in_ok-kernel-2.ensures.ok.1 at c.make_segment-next.ensures.synced honest in
    let time = c.make_segment-next.ensures.any_moment honest in
    let written = g.D.Disk.view c.write_after.new.disk in
    let writes = c.write_after.ensures.any_moment honest in
    let zeros = rw c.in_ok-kernel-2.ensures.ok.1 at c.make_segment-next.ensures.segment in
    let at = c.segment_slot-2.ensures ∙ ap (λ (s : Segment). segment_slot s.epoch) zeros in
    upgraded_same old mid written (g.D.Disk.view c.end_after-2.new.disk) e c.segment_slot-2.result state count end image
    u gates time made synced writes (c.in_ok-kernel-3.ensures.made honest) (c.in_ok-kernel-3.ensures.synced honest) at
    (c.end_after-2.ensures.any_moment honest)

pub returns-clause-any_moment : goal.returns-clause-any_moment
returns-clause-any_moment g c = λ honest gates.
    let old = g.D.Disk.view c.args.disk.now in
    let mid = g.D.Disk.view c.make_segment-next.new.disk in
    let e = c.args.segment.epoch in
    let count = c.args.segment.records in
    let end = c.args.end in
    let state = c.args.kernel in
    let image = c.in-Some.image in
    let u =
    upgrades old c.args.kernel c.args.segment c.args.end c.args.upgrade c.in-Some.image (c.requires.read honest)
    c.in-Some.is in
    let made = rw c.in_ok-kernel-2.ensures.ok.1 at c.make_segment-next.ensures.made honest in
    let synced = rw c.in_ok-kernel-2.ensures.ok.1 at c.make_segment-next.ensures.synced honest in
    let time = c.make_segment-next.ensures.any_moment honest in
    let written = g.D.Disk.view c.write_after.new.disk in
    let writes = c.write_after.ensures.any_moment honest in
    let zeros = rw c.in_ok-kernel-2.ensures.ok.1 at c.make_segment-next.ensures.segment in
    let at = c.segment_slot-2.ensures ∙ ap (λ (s : Segment). segment_slot s.epoch) zeros in
    upgraded_same old mid written (g.D.Disk.view c.end_after-2.new.disk) e c.segment_slot-2.result state count end image
    u gates time made synced writes (c.in_ok-kernel-3.ensures.made honest) (c.in_ok-kernel-3.ensures.synced honest) at
    (c.end_after-2.ensures.any_moment honest)

pub returns-clause-kept : goal.returns-clause-kept
returns-clause-kept g c = λ honest.
    let old = g.D.Disk.view c.args.disk.now in
    let mid = g.D.Disk.view c.make_segment-next.new.disk in
    let e = c.args.segment.epoch in
    let count = c.args.segment.records in
    let end = c.args.end in
    let state = c.args.kernel in
    let image = c.in-Some.image in
    let u =
    upgrades old c.args.kernel c.args.segment c.args.end c.args.upgrade c.in-Some.image (c.requires.read honest)
    c.in-Some.is in
    let made = rw c.in_ok-kernel-2.ensures.ok.1 at c.make_segment-next.ensures.made honest in
    let synced = rw c.in_ok-kernel-2.ensures.ok.1 at c.make_segment-next.ensures.synced honest in
    let time = c.make_segment-next.ensures.any_moment honest in
    let written = g.D.Disk.view c.write_after.new.disk in
    let writes = c.write_after.ensures.any_moment honest in
    let zeros = rw c.in_ok-kernel-2.ensures.ok.1 at c.make_segment-next.ensures.segment in
    let at = c.segment_slot-2.ensures ∙ ap (λ (s : Segment). segment_slot s.epoch) zeros in
    let last = g.D.Disk.view c.end_after-2.new.disk in
    let placed = c.in_ok-kernel-3.ensures.made honest in
    upgraded_kept old mid written last e c.segment_slot-2.result c.in_ok-kernel-2.next state count end image u made placed
    zeros at
    (upgraded_at_rest old mid written last e state count end image u time made synced writes placed
    (c.in_ok-kernel-3.ensures.synced honest) (c.in_ok-kernel-4.ensures.rest honest))
    (c.in_ok-kernel-4.ensures.ended honest)
