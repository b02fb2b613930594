use Rattle.ipc_laws.specs.NumberedSteps.{steps_keep_lawful}
use Rattle.ipc_laws.proofs.laws.steps_keep_lawful.Goals as goal

pub returns : goal.returns
returns c = steps_keep_lawful
