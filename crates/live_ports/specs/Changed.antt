-- The state of a port besides its queue, and a change of one port among all.
use Rattle.std.specs.Prelude.{◌≡◌, ℕ, ◌<◌, ◌≤◌, List, [], ◌∷◌, ◌++◌, Option, None, Some, MatchOption, drop, length, slice_index_or}
use Rattle.std.specs.Borrow.{Bor}
use Rattle.std.specs.Ordering.{nat_cmp}
use Rattle.std.specs.FinMap as finmap
use Rattle.ipc_model.specs.declared.message.Message.{Message}
use Rattle.ipc_model.specs.declared.port.PortState.{PortState}
use Rattle.live_ports.specs.declared.port.PortNumbers.{PortNumbers}

abbrev pub numbers_of : PortState → PortNumbers
numbers_of port = record {
  limit = port.limit;
  sequence_number = port.sequence_number;
  make_send_count = port.make_send_count;
  set = port.set;
  no_senders_target = port.no_senders_target;
  port_destroyed_target = port.port_destroyed_target;
}

-- a port with these numbers, and these messages in its queue
abbrev pub port_of : PortNumbers → List Message → PortState
port_of numbers messages = record {
  limit = numbers.limit;
  sequence_number = numbers.sequence_number;
  make_send_count = numbers.make_send_count;
  set = numbers.set;
  messages = messages;
  no_senders_target = numbers.no_senders_target;
  port_destroyed_target = numbers.port_destroyed_target;
}

-- the port with other numbers and the same messages
abbrev pub with_numbers : PortNumbers → PortState → PortState
with_numbers numbers port = port_of numbers port.messages

-- the port with one more message at the end of its queue
abbrev pub with_message : Message → PortState → PortState
with_message message port = record port { messages = port.messages ++ message ∷ [] }

-- the port without its oldest message
abbrev pub without_first : PortState → PortState
without_first port = record port { messages = drop 1 port.messages }

-- the messages of a port, or none if it is dead
abbrev pub messages_in : Option PortState → List Message
messages_in None = []
messages_in (Some port) = port.messages

-- the ports after one of them has changed, if it is live
abbrev pub changed : finmap.FinMap nat_cmp PortState → ℕ → (PortState → PortState) → finmap.FinMap nat_cmp PortState
changed ports serial change = elim (finmap.get ports serial) as (λ _. finmap.FinMap nat_cmp PortState) [
  | None ↦ ports
  | Some port ↦ finmap.insert ports serial (change port)
]

abbrev pub messages_at : finmap.FinMap nat_cmp PortState → ℕ → List Message
messages_at ports serial = messages_in (finmap.get ports serial)

-- the message at an index, or None if there is none
abbrev pub IsMessageAt : List Message → ℕ → Option (Bor Message) → Type 0
IsMessageAt messages index found =
    MatchOption found (length messages ≤ index)
    (λ message. (index < length messages) × (message.now ≡ slice_index_or messages index message.now))
