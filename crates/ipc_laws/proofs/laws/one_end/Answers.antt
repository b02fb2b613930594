use Rattle.ipc_laws.specs.StepLaws.{one_end}
use Rattle.ipc_laws.proofs.laws.one_end.Goals as goal

pub returns : goal.returns
returns c = one_end
