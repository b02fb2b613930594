use Rattle.ipc_laws.specs.WorldLaws.{acknowledged_within_applied}
use Rattle.ipc_laws.proofs.laws.acknowledged_within_applied.Goals as goal

pub returns : goal.returns
returns c = acknowledged_within_applied
