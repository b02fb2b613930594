use Rattle.ipc_laws.specs.RunsKeep.{runs_keep_lawful}
use Rattle.ipc_laws.proofs.laws.runs_keep_lawful.Goals as goal

pub returns : goal.returns
returns c = runs_keep_lawful
