use Rattle.ipc_laws.specs.RunsKeep.{one_run}
use Rattle.ipc_laws.proofs.laws.one_run.Goals as goal

pub returns : goal.returns
returns c = one_run
