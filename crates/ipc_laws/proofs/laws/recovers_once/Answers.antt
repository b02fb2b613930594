use Rattle.ipc_laws.specs.RecoveryLaws.{recovers_once}
use Rattle.ipc_laws.proofs.laws.recovers_once.Goals as goal

pub returns : goal.returns
returns c = recovers_once
