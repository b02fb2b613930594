use Rattle.ipc_laws.specs.WorldRuns.{nothing_new_is_acknowledged}
use Rattle.ipc_laws.proofs.laws.nothing_new_is_acknowledged.Goals as goal

pub returns : goal.returns
returns c = nothing_new_is_acknowledged
