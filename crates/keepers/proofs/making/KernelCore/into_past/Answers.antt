use Rattle.std.proofs.Common.{List}
use Rattle.history.specs.declared.entry.Entry.{Entry}
use Rattle.keepers.specs.Keeping.{IsKernelCore}
use Rattle.keepers.proofs.Cores.{core_history, kept_some}
use Rattle.keepers.proofs.making.KernelCore.into_past.Goals as goal

pub returns-clause-history : goal.returns-clause-history
returns-clause-history g c =
    let s = c.self.inside in
    core_history g.L.Founding.base s.half c.in-Some.past.entries s.opened s.earlier s.taken s.older
    (kept_some (λ (l : List Entry). IsKernelCore g.L.Founding.base s.half l s.opened s.earlier s.taken s.older)
    s.past c.in-Some.past c.in-Some.is c.self.invariant.2)
