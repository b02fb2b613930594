use Rattle.ipc_laws.specs.EffectRanks.{settled_is_lawful}
use Rattle.ipc_laws.proofs.laws.settled_is_lawful.Goals as goal

pub returns : goal.returns
returns c = settled_is_lawful
