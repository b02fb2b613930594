use Rattle.std.proofs.Common.{sym, subst}
use Rattle.history.specs.Entries.{Begins}
use Rattle.keepers.specs.Storing.{CanBegin, EndValue, IsStoreKeeper, StoreKeeperValue}
use Rattle.store_half.specs.Values.{StoreValue}
use Rattle.keepers.proofs.Storers.{begins_storer}
use Rattle.keepers.proofs.store_keeper.StoreKeeper.begin_now.Goals as goal

pub invariant_of-self : goal.invariant_of-self
invariant_of-self g c =
    let old : StoreKeeperValue g.row.D.Denot =
    record {
      store = c.self.inside.store;
      entries = c.self.inside.past.entries;
      stored = c.self.inside.stored;
      earlier = c.self.inside.earlier;
    } in
    let end : EndValue =
    record { cut = c.end.inside.cut; entries = c.end.inside.past.entries; earlier = c.end.inside.earlier } in
    let can : CanBegin old.store end =
    subst (λ (e : EndValue). CanBegin old.store e) (sym c.end.view_is)
    (subst (λ (v : StoreKeeperValue g.row.D.Denot). CanBegin v.store c.args.end)
    (sym c.self.view_is) c.requires.can) in
    let begins : Begins end.entries old.entries =
    subst (λ (e : EndValue). Begins e.entries old.entries) (sym c.end.view_is)
    (subst (λ (v : StoreKeeperValue g.row.D.Denot). Begins c.args.end.entries v.entries)
    (sym c.self.view_is) c.requires.begins) in
    subst (λ (s : StoreValue g.row.D.Denot). IsStoreKeeper g.D.Disk.honest g.D.Disk.view g.L.Founding.base
    (record { store = s; entries = old.entries; stored = old.stored; earlier = end.earlier })) (sym c.begin.ensures)
    (begins_storer g.D.Disk.honest g.D.Disk.view g.L.Founding.base old end c.self.invariant c.end.invariant.1 can
    begins)
