use Rattle.ipc_laws.specs.HistoryLaws.{legal_is_in_order}
use Rattle.ipc_laws.proofs.laws.legal_is_in_order.Goals as goal

pub returns : goal.returns
returns c = legal_is_in_order
