use Rattle.ipc_laws.specs.HistoryLaws.{places_hold_calls}
use Rattle.ipc_laws.proofs.laws.places_hold_calls.Goals as goal

pub returns : goal.returns
returns c = places_hold_calls
