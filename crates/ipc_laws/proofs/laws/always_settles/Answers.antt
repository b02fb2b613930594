use Rattle.ipc_laws.specs.Settling.{always_settles}
use Rattle.ipc_laws.proofs.laws.always_settles.Goals as goal

pub returns : goal.returns
returns c = always_settles
