use Rattle.ipc_laws.specs.HistoryLaws.{reads_own_writes}
use Rattle.ipc_laws.proofs.laws.reads_own_writes.Goals as goal

pub returns : goal.returns
returns c = reads_own_writes
