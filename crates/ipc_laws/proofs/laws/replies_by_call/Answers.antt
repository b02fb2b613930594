use Rattle.ipc_laws.specs.RecordedReplies.{replies_by_call}
use Rattle.ipc_laws.proofs.laws.replies_by_call.Goals as goal

pub returns : goal.returns
returns c = replies_by_call
