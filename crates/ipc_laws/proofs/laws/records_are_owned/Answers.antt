use Rattle.ipc_laws.specs.OwnedPlaces.{records_are_owned}
use Rattle.ipc_laws.proofs.laws.records_are_owned.Goals as goal

pub returns : goal.returns
returns c = records_are_owned
