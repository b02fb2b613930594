use Rattle.ipc_laws.specs.RecordedReceives.{recorded_receives}
use Rattle.ipc_laws.proofs.laws.recorded_receives_are_done.Goals as goal

pub returns : goal.returns
returns c = recorded_receives
