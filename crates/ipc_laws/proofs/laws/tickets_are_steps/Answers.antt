use Rattle.ipc_laws.specs.WorldRuns.{tickets_are_steps}
use Rattle.ipc_laws.proofs.laws.tickets_are_steps.Goals as goal

pub returns : goal.returns
returns c = tickets_are_steps
