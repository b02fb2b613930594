use Rattle.std.proofs.Common.{sym, ap, ◌∙◌}
use Rattle.keepers.specs.Storing.{StoreKeeperValue}
use Rattle.keepers.proofs.StoreSteps.{open_steps}
use Rattle.keepers.proofs.Storers.{loses_from}
use Rattle.keepers.proofs.store_keeper.StoreKeeper.open_next.Goals as goal

pub invariant_of-self : goal.invariant_of-self
invariant_of-self g c =
    let old : StoreKeeperValue g.row.D.Denot =
    record {
      store = c.self.inside.store;
      entries = c.self.inside.past.entries;
      stored = c.self.inside.stored;
      earlier = c.self.inside.earlier;
    } in
    (open_steps g.D.Disk.honest g.D.Disk.view g.L.Founding.base old c.roll_open.new.self c.self.invariant
    (ap (λ (v : StoreKeeperValue g.row.D.Denot). v.stored) c.self.view_is ∙ c.requires
    ∙ sym (ap (λ (v : StoreKeeperValue g.row.D.Denot). v.earlier) c.self.view_is)) c.roll_open.result
    c.roll_open.ensures.done c.roll_open.ensures.faults).is

pub returns-clause-any_moment : goal.returns-clause-any_moment
returns-clause-any_moment g c =
    let old : StoreKeeperValue g.row.D.Denot =
    record {
      store = c.self.inside.store;
      entries = c.self.inside.past.entries;
      stored = c.self.inside.stored;
      earlier = c.self.inside.earlier;
    } in
    loses_from g.D.Disk.honest g.D.Disk.view g.L.Founding.base old c.args.self.now c.roll_open.new.self c.self.view_is
    (open_steps g.D.Disk.honest g.D.Disk.view g.L.Founding.base old c.roll_open.new.self c.self.invariant
    (ap (λ (v : StoreKeeperValue g.row.D.Denot). v.stored) c.self.view_is ∙ c.requires
    ∙ sym (ap (λ (v : StoreKeeperValue g.row.D.Denot). v.earlier) c.self.view_is)) c.roll_open.result
    c.roll_open.ensures.done c.roll_open.ensures.faults).loses
