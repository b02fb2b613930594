use Rattle.std.proofs.Common.{ap, ◌∙◌}
use Rattle.keepers.specs.Storing.{StoreKeeperValue}
use Rattle.keepers.proofs.Storers.{learned_loses, unwritten_loses}
use Rattle.keepers.proofs.store_keeper.StoreKeeper.begin.Goals as goal

pub returns-then-not-learn-clause-any_moment : goal.returns-then-not-learn-clause-any_moment
returns-then-not-learn-clause-any_moment g c =
    λ is_honest. learned_loses g.D.Disk.honest g.D.Disk.view g.L.Founding.base c.args.self.now c.learn.new.self
    c.learn.ensures.rest

pub returns-then-not-can_begin-clause-any_moment : goal.returns-then-not-can_begin-clause-any_moment
returns-then-not-can_begin-clause-any_moment g c =
    λ is_honest. learned_loses g.D.Disk.honest g.D.Disk.view g.L.Founding.base c.args.self.now c.learn.new.self
    c.learn.ensures.rest

pub returns-clause-any_moment : goal.returns-clause-any_moment
returns-clause-any_moment g c = λ is_honest.
    let disk = λ (v : StoreKeeperValue g.row.D.Denot). g.D.Disk.view v.store.disk in
    unwritten_loses g.D.Disk.honest g.D.Disk.view g.L.Founding.base c.args.self.now c.begin_now.new.self
    (ap disk c.begin_now.ensures ∙ ap disk c.learn.ensures.rest)
