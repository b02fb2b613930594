use Rattle.std.proofs.Common.{rules}
use Rattle.store_half.proofs.Shapes.{epochs_appended, shape_appended}
use Rattle.store_half.proofs.store_half.StoreHalf.append.Goals as goal

pub invariant_of-self : goal.invariant_of-self
invariant_of-self g c =
    let old = c.self.inside in
    let same = c.in-Ok.ensures.counted in (
      epochs_appended old.segment c.append.new.self _ old.checkpoint same c.self.invariant.0,
      λ unfailed honest. shape_appended (g.D.Disk.view old.disk)
          (g.D.Disk.view c.append.new.disk) old.segment c.append.new.self _ _ old.checkpoint same
          (c.in-Ok.ensures.stored honest) (c.self.invariant.1 unfailed honest),
    )

pub returns-in-Err : goal.returns-in-Err
returns-in-Err g c = search rules
