use Rattle.ipc_laws.specs.OnceLaws.{made_once}
use Rattle.ipc_laws.proofs.laws.calls_are_made_once.Goals as goal

pub returns : goal.returns
returns c = made_once
