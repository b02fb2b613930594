use Rattle.ipc_laws.specs.EffectsKeep.{effects_keep_lawful}
use Rattle.ipc_laws.proofs.laws.effects_keep_lawful.Goals as goal

pub returns : goal.returns
returns c = effects_keep_lawful
