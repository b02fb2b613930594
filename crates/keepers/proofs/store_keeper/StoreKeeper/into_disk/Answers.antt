use Rattle.std.proofs.Common.{refl, subst}
use Rattle.disk.specs.Moments.{MayLeave}
use Rattle.history.specs.Entries.{records_of}
use Rattle.keepers.specs.Storing.{StandsFor, StoreKeeperValue}
use Rattle.keepers.proofs.Storers.{storer_left}
use Rattle.keepers.proofs.store_keeper.StoreKeeper.into_disk.Goals as goal

pub returns-clause-left : goal.returns-clause-left
returns-clause-left g c is_honest slots may =
    let old : StoreKeeperValue g.row.D.Denot =
    record {
      store = c.self.inside.store;
      entries = c.self.inside.past.entries;
      stored = c.self.inside.stored;
      earlier = c.self.inside.earlier;
    } in
    subst (λ (v : StoreKeeperValue g.row.D.Denot). StandsFor g.L.Founding.base v.stored (records_of v.entries) slots)
    c.self.view_is
    (storer_left g.D.Disk.honest g.D.Disk.view g.L.Founding.base old c.self.invariant is_honest
    c.self.inside.store.failed refl slots
    (subst (λ (d : g.row.D.Denot). MayLeave (g.D.Disk.view d) slots) c.into_disk.ensures may))
