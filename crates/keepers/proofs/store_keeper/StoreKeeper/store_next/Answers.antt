use Rattle.std.proofs.Common.{rules, ◌∙◌, ℕ, ◌+◌, ap, sym, subst}
use Rattle.keepers.specs.Storing.{IsStoreKeeper, LoadValue, StoreKeeperValue}
use Rattle.keepers.proofs.Storers.{appended, begins_here, loses_from, next_here, not_appended, why_not_appended}
use Rattle.keepers.proofs.store_keeper.StoreKeeper.store_next.Goals as goal

pub invariant_of-self : goal.invariant_of-self
invariant_of-self g c =
    let old : StoreKeeperValue g.row.D.Denot =
    record {
      store = c.self.inside.store;
      entries = c.self.inside.past.entries;
      stored = c.self.inside.stored;
      earlier = c.self.inside.earlier;
    } in
    let load : LoadValue =
    record {
      epoch = c.load.inside.taken.epoch;
      batch = c.load.inside.taken.batch;
      entries = c.load.inside.past.entries;
      first = c.load.inside.first;
      number = c.load.inside.number;
    } in
    let next =
    next_here g.D.Disk.honest g.D.Disk.view g.L.Founding.base old c.args.self.now load c.args.load c.self.view_is
    c.load.view_is c.requires.next in
    let begins =
    begins_here g.D.Disk.honest g.D.Disk.view g.L.Founding.base old c.args.self.now load c.args.load c.self.view_is
    c.load.view_is c.requires.begins in
    subst (λ (n : ℕ). IsStoreKeeper g.D.Disk.honest g.D.Disk.view g.L.Founding.base
    (record { store = c.append.new.self; entries = old.entries; stored = n; earlier = old.earlier }))
    (sym (c.stored.ensures.same ∙ c.add.ensures
    ∙ ap (λ (n : ℕ). old.stored + n) (c.from-count.ensures ∙ c.count.ensures)))
    (appended g.D.Disk.honest g.D.Disk.view g.L.Founding.base old load c.append.new.self c.self.invariant
    c.load.invariant begins next c.append.ensures.any_moment c.in-Ok.ensures.open c.in-Ok.ensures.counted.1
    c.in-Ok.ensures.counted.2 c.append.ensures.under_way c.in-Ok.ensures.stored c.in-Ok.ensures.synced).holds

pub invariant_of-self-in-Err : goal.invariant_of-self-in-Err
invariant_of-self-in-Err g c =
    let old : StoreKeeperValue g.row.D.Denot =
    record {
      store = c.self.inside.store;
      entries = c.self.inside.past.entries;
      stored = c.self.inside.stored;
      earlier = c.self.inside.earlier;
    } in
    let load : LoadValue =
    record {
      epoch = c.load.inside.taken.epoch;
      batch = c.load.inside.taken.batch;
      entries = c.load.inside.past.entries;
      first = c.load.inside.first;
      number = c.load.inside.number;
    } in
    let next =
    next_here g.D.Disk.honest g.D.Disk.view g.L.Founding.base old c.args.self.now load c.args.load c.self.view_is
    c.load.view_is c.requires.next in
    let begins =
    begins_here g.D.Disk.honest g.D.Disk.view g.L.Founding.base old c.args.self.now load c.args.load c.self.view_is
    c.load.view_is c.requires.begins in
    (not_appended g.D.Disk.honest g.D.Disk.view g.L.Founding.base old load c.append.new.self c.self.invariant
    c.load.invariant begins next c.append.ensures.any_moment c.in-Err.fault c.in-Err.ensures.failed
    c.in-Err.ensures.full (λ device. (c.in-Err.ensures.device device).0) c.in-Err.ensures.faults).is

pub returns-in-Ok-clause-any_moment : goal.returns-in-Ok-clause-any_moment
returns-in-Ok-clause-any_moment g c =
    let old : StoreKeeperValue g.row.D.Denot =
    record {
      store = c.self.inside.store;
      entries = c.self.inside.past.entries;
      stored = c.self.inside.stored;
      earlier = c.self.inside.earlier;
    } in
    let load : LoadValue =
    record {
      epoch = c.load.inside.taken.epoch;
      batch = c.load.inside.taken.batch;
      entries = c.load.inside.past.entries;
      first = c.load.inside.first;
      number = c.load.inside.number;
    } in
    let next =
    next_here g.D.Disk.honest g.D.Disk.view g.L.Founding.base old c.args.self.now load c.args.load c.self.view_is
    c.load.view_is c.requires.next in
    let begins =
    begins_here g.D.Disk.honest g.D.Disk.view g.L.Founding.base old c.args.self.now load c.args.load c.self.view_is
    c.load.view_is c.requires.begins in
    loses_from g.D.Disk.honest g.D.Disk.view g.L.Founding.base old c.args.self.now c.append.new.self c.self.view_is
    (appended g.D.Disk.honest g.D.Disk.view g.L.Founding.base old load c.append.new.self c.self.invariant
    c.load.invariant begins next c.append.ensures.any_moment c.in-Ok.ensures.open c.in-Ok.ensures.counted.1
    c.in-Ok.ensures.counted.2 c.append.ensures.under_way c.in-Ok.ensures.stored c.in-Ok.ensures.synced).loses

pub returns-in-Err-clause-any_moment : goal.returns-in-Err-clause-any_moment
returns-in-Err-clause-any_moment g c =
    let old : StoreKeeperValue g.row.D.Denot =
    record {
      store = c.self.inside.store;
      entries = c.self.inside.past.entries;
      stored = c.self.inside.stored;
      earlier = c.self.inside.earlier;
    } in
    let load : LoadValue =
    record {
      epoch = c.load.inside.taken.epoch;
      batch = c.load.inside.taken.batch;
      entries = c.load.inside.past.entries;
      first = c.load.inside.first;
      number = c.load.inside.number;
    } in
    let next =
    next_here g.D.Disk.honest g.D.Disk.view g.L.Founding.base old c.args.self.now load c.args.load c.self.view_is
    c.load.view_is c.requires.next in
    let begins =
    begins_here g.D.Disk.honest g.D.Disk.view g.L.Founding.base old c.args.self.now load c.args.load c.self.view_is
    c.load.view_is c.requires.begins in
    loses_from g.D.Disk.honest g.D.Disk.view g.L.Founding.base old c.args.self.now c.append.new.self c.self.view_is
    (not_appended g.D.Disk.honest g.D.Disk.view g.L.Founding.base old load c.append.new.self c.self.invariant
    c.load.invariant begins next c.append.ensures.any_moment c.in-Err.fault c.in-Err.ensures.failed
    c.in-Err.ensures.full (λ device. (c.in-Err.ensures.device device).0) c.in-Err.ensures.faults).loses

pub returns-in-Err-clause-back : goal.returns-in-Err-clause-back
returns-in-Err-clause-back g c = search rules

pub returns-in-Err-clause-faults : goal.returns-in-Err-clause-faults
returns-in-Err-clause-faults g c = why_not_appended c.in-Err.fault c.in-Err.ensures.faults
