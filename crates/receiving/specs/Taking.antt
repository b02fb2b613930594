-- Properties of a port's oldest message.
use Rattle.std.specs.Prelude.{◌≡◌, ℕ, List, ◌∷◌, Some}
use Rattle.std.specs.FinMap as finmap
use Rattle.ipc_model.specs.declared.message.Message.{Message}
use Rattle.ipc_model.specs.declared.port.PortState.{PortState}
use Rattle.ipc_model.specs.state.Ipc.{Ipc}

-- if the port is live and has a message, this holds of the port and its oldest message
abbrev pub OfOldest : Ipc → ℕ → (PortState → Message → Type 0) → Type 0
OfOldest state serial P =
    (port : PortState) (message : Message) (later : List Message) → finmap.get state.ports serial ≡ Some port
    → port.messages ≡ message ∷ later → P port message
