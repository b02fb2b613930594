use Rattle.std.proofs.Common.{sym, ◌∙◌}
use Rattle.ipc_laws.specs.ListLaws.{some_same}
use Rattle.rights.proofs.arrivals.arrival_needed.Goals as goal

pub returns-in-Some-clause-wanted : goal.returns-in-Some-clause-wanted
returns-in-Some-clause-wanted c = λ shown is may. some_same c.in-Some.name shown (sym c.in-Some.is ∙ is)
