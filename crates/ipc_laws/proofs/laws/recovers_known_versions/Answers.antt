use Rattle.ipc_laws.specs.RecoveryLaws.{recovers_known_versions}
use Rattle.ipc_laws.proofs.laws.recovers_known_versions.Goals as goal

pub returns : goal.returns
returns c = recovers_known_versions
