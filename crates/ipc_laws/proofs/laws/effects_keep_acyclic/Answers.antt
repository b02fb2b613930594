use Rattle.ipc_laws.specs.EffectRanks.{effects_keep_acyclic}
use Rattle.ipc_laws.proofs.laws.effects_keep_acyclic.Goals as goal

pub returns : goal.returns
returns c = effects_keep_acyclic
