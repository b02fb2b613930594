use Rattle.ipc_laws.specs.WorldRuns.{logs_fit}
use Rattle.ipc_laws.proofs.laws.logs_fit.Goals as goal

pub returns : goal.returns
returns c = logs_fit
