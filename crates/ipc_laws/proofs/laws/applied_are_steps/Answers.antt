use Rattle.ipc_laws.specs.WorldRuns.{applied_are_steps}
use Rattle.ipc_laws.proofs.laws.applied_are_steps.Goals as goal

pub returns : goal.returns
returns c = applied_are_steps
