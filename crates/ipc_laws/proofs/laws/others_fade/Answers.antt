use Rattle.ipc_laws.specs.StepsElsewhere.{others_fade}
use Rattle.ipc_laws.proofs.laws.others_fade.Goals as goal

pub returns : goal.returns
returns c = others_fade
