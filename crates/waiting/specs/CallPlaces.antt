-- The places where a task's call waits.
use Rattle.std.specs.Prelude.{ℕ, List, []}
use Rattle.ipc_model.specs.declared.call.Call.{Call}
use Rattle.ipc_model.specs.declared.call.Call.TheVariants.{Plain}
use Rattle.ipc_model.specs.state.State.{State}
use Rattle.waiting.specs.Waiting as plain

-- A numbered call never waits.
abbrev pub places_of_call : State → ℕ → Call → List ℕ
places_of_call state space (Plain c) = plain.places_of_call state.ipc space c
places_of_call state space c = []
