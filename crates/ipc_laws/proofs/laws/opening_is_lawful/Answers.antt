use Rattle.ipc_laws.specs.OpeningLaws.{opening_is_lawful}
use Rattle.ipc_laws.proofs.laws.opening_is_lawful.Goals as goal

pub returns : goal.returns
returns c = opening_is_lawful
