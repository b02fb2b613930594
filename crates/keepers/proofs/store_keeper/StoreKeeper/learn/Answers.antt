use Rattle.std.proofs.Common.{◌≡◌, ◌∙◌, refl, sym, ap, subst}
use Rattle.std.specs.Prelude.{Result, Ok, Err, OnOk, OnErr, length, List, ◌++◌, drop}
use Rattle.history.specs.Entries.{Begins}
use Rattle.history.specs.Pasts.{PastValue}
use Rattle.history.specs.declared.entry.Entry.{Entry}
use Rattle.history.specs.declared.fault.CatchUpFault.{CatchUpFault}
use Rattle.disk.specs.Moments.{View}
use Rattle.ipc_model.specs.state.State.{State}
use Rattle.keepers.specs.Storing.{IsRecorded, IsStoreKeeper, StoreKeeperValue}
use Rattle.keepers.proofs.Storers.{caught_storer}
use Rattle.keepers.proofs.store_keeper.StoreKeeper.learn.Goals as goal

either_way : {D : Type 0} (honest : Type 0) (view : D → View) (base : State) (old : StoreKeeperValue D)
    (past other new : PastValue) → old.entries ≡ past.entries → (r : Result (Unit {0}) CatchUpFault)
    → OnOk r (new.entries ≡ past.entries ++ drop (length past.entries) other.entries)
    → OnOk r (Begins past.entries new.entries × Begins other.entries new.entries) → OnErr r (new ≡ past)
    → IsStoreKeeper honest view base old → IsRecorded base other.entries
    → IsStoreKeeper honest view base (record old { entries = new.entries })
either_way honest view base old past other new same (Ok done) ok begins err is recorded =
    caught_storer honest view base old other.entries new.entries is recorded
    (subst (λ (l : List Entry). new.entries ≡ l ++ drop (length l) other.entries) (sym same) ok)
    (subst (λ (l : List Entry). Begins l new.entries) (sym same) begins.0) begins.1
either_way honest view base old past other new same (Err fault) ok begins err is recorded =
    subst (λ (l : List Entry). IsStoreKeeper honest view base (record old { entries = l }))
    (same ∙ sym (ap (λ (p : PastValue). p.entries) err)) is

pub invariant_of-self : goal.invariant_of-self
invariant_of-self g c =
    let old : StoreKeeperValue g.row.D.Denot =
    record {
      store = c.self.inside.store;
      entries = c.self.inside.past.entries;
      stored = c.self.inside.stored;
      earlier = c.self.inside.earlier;
    } in
    either_way g.D.Disk.honest g.D.Disk.view g.L.Founding.base old c.self.inside.past c.args.past.now
    c.catch_up.new.self refl c.catch_up.result c.catch_up.ensures.ok c.catch_up.ensures.begins
    c.catch_up.ensures.err c.self.invariant c.requires
