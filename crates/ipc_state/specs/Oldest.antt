-- The oldest message of a port, and the port without it.
use Rattle.std.specs.Prelude.{◌≡◌, ℕ, Bool, List, [], ◌∷◌, drop, Option, None, Some}
use Rattle.std.specs.Borrow.{Bor}
use Rattle.ipc_model.specs.declared.message.Message.{Message}
use Rattle.ipc_model.specs.declared.port.PortState.{PortState}
use Rattle.ipc_model.specs.state.Ipc.{next_count}
use Rattle.ports.specs.Passed.{PortNumbers, seen_message}

-- the oldest of these messages as it was sent, if there is one; with the rights of dead ports replaced it is the
-- message of the model
abbrev pub IsOldest : (ℕ → Bool) → List Message → Option (Bor Message) → Type 0
IsOldest live messages None = messages ≡ []
IsOldest live messages (Some message) = messages ≡ seen_message live message.now ∷ drop 1 messages

-- the port without its oldest message, with the next sequence number
abbrev pub oldest_gone : PortState → PortState
oldest_gone port = record port { messages = drop 1 port.messages; sequence_number = next_count port.sequence_number }

-- the numbers with the next sequence number
abbrev pub counted_on : PortNumbers → PortNumbers
counted_on numbers = record numbers { sequence_number = next_count numbers.sequence_number }
