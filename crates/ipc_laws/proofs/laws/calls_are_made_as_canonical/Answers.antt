use Rattle.ipc_laws.specs.CanonicalRecords.{made_as_canonical}
use Rattle.ipc_laws.proofs.laws.calls_are_made_as_canonical.Goals as goal

pub returns : goal.returns
returns c = made_as_canonical
