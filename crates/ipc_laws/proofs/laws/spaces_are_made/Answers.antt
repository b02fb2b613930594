use Rattle.ipc_laws.specs.StepsElsewhere.{spaces_are_made}
use Rattle.ipc_laws.proofs.laws.spaces_are_made.Goals as goal

pub returns : goal.returns
returns c = spaces_are_made
