use Rattle.ipc_laws.specs.RecoveryLaws.{recovers_lawful}
use Rattle.ipc_laws.proofs.laws.recovers_lawful.Goals as goal

pub returns : goal.returns
returns c = recovers_lawful
