use Rattle.ipc_laws.specs.RecordedSteps.{recorded_steps}
use Rattle.ipc_laws.proofs.laws.recorded_steps_are_records.Goals as goal

pub returns : goal.returns
returns c = recorded_steps
