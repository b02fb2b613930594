use Rattle.ipc_laws.specs.HistoryLaws.{meeting_is_legal}
use Rattle.ipc_laws.proofs.laws.meeting_is_legal.Goals as goal

pub returns : goal.returns
returns c = meeting_is_legal
