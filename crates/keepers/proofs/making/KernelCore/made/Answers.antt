use Rattle.std.proofs.Common.{◌≡◌, length, subst}
use Rattle.std.specs.Prelude.{IfSome}
use Rattle.keepers.specs.Keeping.{KernelCoreValue, entries_in}
use Rattle.keepers.proofs.Destroyed.{counted_all, counted_as}
use Rattle.keepers.proofs.making.KernelCore.made.Goals as goal

pub returns-clause-all : goal.returns-clause-all
returns-clause-all g c =
    let s = c.self.inside in
    subst (λ (v : KernelCoreValue). IfSome (entries_in v) (λ entries. c.made.result ≡ length entries)) c.self.view_is
    (counted_as s.half.log.made c.made.result _ c.made.ensures
    (counted_all g.L.Founding.base s.half s.past s.opened s.earlier s.taken s.older c.self.invariant.2))
