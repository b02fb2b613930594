use Rattle.recover.proofs.Joined.{first_image_same, first_kept, first_segment_same}
use Rattle.recover.proofs.opening.write_first.Goals as goal

pub returns-in_err-segment-clause-any_moment : goal.returns-in_err-segment-clause-any_moment
returns-in_err-segment-clause-any_moment g c = λ honest gates.
    first_segment_same (g.D.Disk.view c.args.disk.now) (g.D.Disk.view c.make_segment.new.disk) (c.requires.rest honest)
    (c.requires.unused honest) (c.requires.new honest) gates (c.make_segment.ensures.any_moment honest)

pub returns-in_err-write-clause-any_moment : goal.returns-in_err-write-clause-any_moment
returns-in_err-write-clause-any_moment g c = λ honest gates.
    first_image_same (g.D.Disk.view c.args.disk.now) (g.D.Disk.view c.make_segment.new.disk)
    (g.D.Disk.view c.write.new.disk) c.args.image.now (c.requires.rest honest) (c.requires.unused honest)
    (c.requires.new honest) gates c.requires.image c.requires.holds
    (c.make_segment.ensures.any_moment honest) (c.in_ok-segment.ensures.made honest)
    (c.in_ok-segment.ensures.synced honest) (c.write.ensures.any_moment honest)

pub returns-clause-kept : goal.returns-clause-kept
returns-clause-kept g c = λ honest.
    first_kept (g.D.Disk.view c.args.disk.now) (g.D.Disk.view c.make_segment.new.disk)
    (g.D.Disk.view c.write.new.disk) c.args.image.now c.in_ok-segment.segment (c.requires.rest honest)
    (c.requires.unused honest) (c.requires.new honest) c.requires.image c.requires.holds
    (c.make_segment.ensures.any_moment honest) (c.in_ok-segment.ensures.made honest)
    (c.in_ok-segment.ensures.synced honest) c.in_ok-segment.ensures.segment (c.write.ensures.any_moment honest)
    (c.in_ok-write.ensures.made honest) (c.in_ok-write.ensures.synced honest)

pub returns-clause-any_moment : goal.returns-clause-any_moment
returns-clause-any_moment g c = λ honest gates.
    first_image_same (g.D.Disk.view c.args.disk.now) (g.D.Disk.view c.make_segment.new.disk)
    (g.D.Disk.view c.write.new.disk) c.args.image.now (c.requires.rest honest) (c.requires.unused honest)
    (c.requires.new honest) gates c.requires.image c.requires.holds
    (c.make_segment.ensures.any_moment honest) (c.in_ok-segment.ensures.made honest)
    (c.in_ok-segment.ensures.synced honest) (c.write.ensures.any_moment honest)
