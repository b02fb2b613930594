use Rattle.ipc_laws.specs.NumberedSteps.{one_new_state}
use Rattle.ipc_laws.proofs.laws.one_new_state.Goals as goal

pub returns : goal.returns
returns c = one_new_state
