use Rattle.keepers.specs.Storing.{StoreKeeperValue}
use Rattle.keepers.proofs.StoreSteps.{close_steps}
use Rattle.keepers.proofs.Storers.{loses_from}
use Rattle.keepers.proofs.store_keeper.StoreKeeper.roll_close.Goals as goal

pub invariant_of-self : goal.invariant_of-self
invariant_of-self g c =
    let old : StoreKeeperValue g.row.D.Denot =
    record {
      store = c.self.inside.store;
      entries = c.self.inside.past.entries;
      stored = c.self.inside.stored;
      earlier = c.self.inside.earlier;
    } in
    (close_steps g.D.Disk.honest g.D.Disk.view g.L.Founding.base old c.roll_close.new.self c.self.invariant
    c.roll_close.result c.roll_close.ensures.done c.roll_close.ensures.faults).is

pub returns-clause-any_moment : goal.returns-clause-any_moment
returns-clause-any_moment g c =
    let old : StoreKeeperValue g.row.D.Denot =
    record {
      store = c.self.inside.store;
      entries = c.self.inside.past.entries;
      stored = c.self.inside.stored;
      earlier = c.self.inside.earlier;
    } in
    loses_from g.D.Disk.honest g.D.Disk.view g.L.Founding.base old c.args.self.now c.roll_close.new.self c.self.view_is
    (close_steps g.D.Disk.honest g.D.Disk.view g.L.Founding.base old c.roll_close.new.self c.self.invariant
    c.roll_close.result c.roll_close.ensures.done c.roll_close.ensures.faults).loses
