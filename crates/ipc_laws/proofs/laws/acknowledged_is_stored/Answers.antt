use Rattle.ipc_laws.specs.WorldLaws.{acknowledged_is_stored}
use Rattle.ipc_laws.proofs.laws.acknowledged_is_stored.Goals as goal

pub returns : goal.returns
returns c = acknowledged_is_stored
