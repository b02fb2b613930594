use Rattle.ipc_laws.specs.HistoryLaws.{legal_stays_legal}
use Rattle.ipc_laws.proofs.laws.legal_stays_legal.Goals as goal

pub returns : goal.returns
returns c = legal_stays_legal
