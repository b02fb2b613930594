use Rattle.ipc_laws.specs.Settling.{effects_lower}
use Rattle.ipc_laws.proofs.laws.effects_lower.Goals as goal

pub returns : goal.returns
returns c = effects_lower
