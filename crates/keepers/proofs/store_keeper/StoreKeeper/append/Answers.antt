use Rattle.std.proofs.Common.{refl}
use Rattle.keepers.proofs.Storers.{learned_loses, learned_then}
use Rattle.keepers.proofs.store_keeper.StoreKeeper.append.Goals as goal

pub returns-then-has_failed-clause-any_moment : goal.returns-then-has_failed-clause-any_moment
returns-then-has_failed-clause-any_moment g c =
    λ is_honest. learned_loses g.D.Disk.honest g.D.Disk.view g.L.Founding.base c.args.self.now c.args.self.now refl

pub returns-then-not-learn-clause-any_moment : goal.returns-then-not-learn-clause-any_moment
returns-then-not-learn-clause-any_moment g c =
    λ is_honest. learned_loses g.D.Disk.honest g.D.Disk.view g.L.Founding.base c.args.self.now c.learn.new.self
    c.learn.ensures.rest

pub returns-then-not-is_next-clause-any_moment : goal.returns-then-not-is_next-clause-any_moment
returns-then-not-is_next-clause-any_moment g c =
    λ is_honest. learned_loses g.D.Disk.honest g.D.Disk.view g.L.Founding.base c.args.self.now c.learn.new.self
    c.learn.ensures.rest

pub returns-clause-any_moment : goal.returns-clause-any_moment
returns-clause-any_moment g c =
    λ is_honest. learned_then g.D.Disk.honest g.D.Disk.view g.L.Founding.base c.args.self.now c.learn.new.self
    c.store_next.new.self c.learn.ensures.rest (c.store_next.ensures.any_moment is_honest)
