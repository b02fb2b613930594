use Rattle.std.proofs.Common.{refl, subst, sym}
use Rattle.std.specs.Prelude.{IsErrOf}
use Rattle.disk.specs.Moments.{ReadsOnly}
use Rattle.inspect.specs.declared.still_disk.fault.CopyFault.TheVariants.{Busy}
use Rattle.inspect.proofs.still_disk.Unchanged.{copy_is, never_busy}
use Rattle.inspect.proofs.still_disk.copying.still_copy.Goals as goal

pub returns-clause-slots : goal.returns-clause-slots
returns-clause-slots g c =
    λ honest. copy_is (λ a b. ReadsOnly (g.D.Disk.view a) (g.D.Disk.view b)) (λ d. (g.D.Disk.view d).seen)
    (λ a b reads. reads.seen) c.live_copy.result c.args.disk.now c.live_copy.new.live
    (c.live_copy.ensures.reading honest)

pub returns-clause-still : goal.returns-clause-still
returns-clause-still g c =
    λ honest is. never_busy (λ a b. ReadsOnly (g.D.Disk.view a) (g.D.Disk.view b)) (λ d. (g.D.Disk.view d).seen)
    (λ a b reads. reads.seen) c.args.disk.now
    (c.live_copy.ensures.busy honest (subst (λ r. IsErrOf r Busy) (sym is) refl))

pub returns-clause-reads_only : goal.returns-clause-reads_only
returns-clause-reads_only g c = λ honest. c.live_copy.ensures.later honest
