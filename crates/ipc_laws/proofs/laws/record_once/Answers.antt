use Rattle.ipc_laws.specs.RecordEncodings.{record_once}
use Rattle.ipc_laws.proofs.laws.record_once.Goals as goal

pub returns : goal.returns
returns c = record_once
