use Rattle.std.proofs.Common.{ℕ, sym, subst}
use Rattle.keepers.specs.Storing.{IsStoreKeeper}
use Rattle.store_half.specs.Values.{StoreValue}
use Rattle.keepers.proofs.Storers.{first_storer}
use Rattle.keepers.proofs.store_keeper.StoreKeeper.new.Goals as goal

pub invariant_of-result : goal.invariant_of-result
invariant_of-result g c =
    subst (λ (n : ℕ). IsStoreKeeper g.D.Disk.honest g.D.Disk.view g.L.Founding.base
    (record { store = c.new.result; entries = c.args.past.entries; stored = n; earlier = 0 }))
    (sym c.requires.none_stored)
    (subst (λ (s : StoreValue g.row.D.Denot). IsStoreKeeper g.D.Disk.honest g.D.Disk.view g.L.Founding.base
    (record { store = s; entries = c.args.past.entries; stored = 0; earlier = 0 })) (sym c.new.ensures)
    (first_storer g.D.Disk.honest g.D.Disk.view g.L.Founding.base c.args.disk c.args.segment c.args.past.entries
    c.requires.none c.requires.base.0 c.requires.base.1 c.requires.kept))
