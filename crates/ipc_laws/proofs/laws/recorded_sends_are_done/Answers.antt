use Rattle.ipc_laws.specs.RecordedMessages.{recorded_sends}
use Rattle.ipc_laws.proofs.laws.recorded_sends_are_done.Goals as goal

pub returns : goal.returns
returns c = recorded_sends
