use Rattle.ipc_laws.specs.RecoveryLaws.{encodes_once}
use Rattle.ipc_laws.proofs.laws.encodes_once.Goals as goal

pub returns : goal.returns
returns c = encodes_once
