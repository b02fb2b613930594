use Rattle.keepers.specs.Storing.{StoreKeeperValue}
use Rattle.keepers.proofs.StoreSteps.{image_steps}
use Rattle.keepers.proofs.Storers.{loses_from}
use Rattle.keepers.proofs.store_keeper.StoreKeeper.close_image.Goals as goal

pub invariant_of-self : goal.invariant_of-self
invariant_of-self g c =
    let old : StoreKeeperValue g.row.D.Denot =
    record {
      store = c.self.inside.store;
      entries = c.self.inside.past.entries;
      stored = c.self.inside.stored;
      earlier = c.self.inside.earlier;
    } in
    (image_steps g.D.Disk.honest g.D.Disk.view g.L.Founding.base old c.close_image.new.self c.self.invariant
    c.close_image.result c.close_image.ensures.done c.close_image.ensures.faults).is

pub returns-clause-any_moment : goal.returns-clause-any_moment
returns-clause-any_moment g c =
    let old : StoreKeeperValue g.row.D.Denot =
    record {
      store = c.self.inside.store;
      entries = c.self.inside.past.entries;
      stored = c.self.inside.stored;
      earlier = c.self.inside.earlier;
    } in
    loses_from g.D.Disk.honest g.D.Disk.view g.L.Founding.base old c.args.self.now c.close_image.new.self c.self.view_is
    (image_steps g.D.Disk.honest g.D.Disk.view g.L.Founding.base old c.close_image.new.self c.self.invariant
    c.close_image.result c.close_image.ensures.done c.close_image.ensures.faults).loses
