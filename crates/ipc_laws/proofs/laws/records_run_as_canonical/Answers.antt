use Rattle.ipc_laws.specs.RunLaws.{run_as_canonical}
use Rattle.ipc_laws.proofs.laws.records_run_as_canonical.Goals as goal

pub returns : goal.returns
returns c = run_as_canonical
