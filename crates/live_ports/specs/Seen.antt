-- Queued messages keep the serials of dead ports, and are shown with MACH_PORT_DEAD instead.
use Rattle.std.specs.Prelude.{◌≡◌, ℕ, ◌<◌, ◌^◌, Bool, true, ◌||◌, map, length, Option, None, Some, is_some, option_map, if◌then◌else◌}
use Rattle.std.specs.List.{list_any}
use Rattle.std.specs.Ordering.{nat_cmp}
use Rattle.std.specs.FinMap as finmap
use Rattle.ipc_model.specs.declared.message.CarriedRight.{CarriedRight}
use Rattle.ipc_model.specs.declared.message.Message.{Message}
use Rattle.ipc_model.specs.declared.message.PortInMessage.{PortInMessage}
use Rattle.ipc_model.specs.declared.message.PortInMessage.TheVariants as in_message
use Rattle.ipc_model.specs.declared.port.PortState.{PortState}
use Rattle.ipc_model.specs.effects.Effects.{map_values, message_after_death}
use Rattle.ipc_model.specs.state.Circular.{is_port}

abbrev pub Ports : Type 0
Ports = finmap.FinMap {K = ℕ} nat_cmp PortState

-- true if a port is among these
abbrev pub lives_in : Ports → ℕ → Bool
lives_in ports serial = is_some (finmap.get ports serial)

-- a port in a message, where these ports are live
abbrev pub seen_port : (ℕ → Bool) → PortInMessage → PortInMessage
seen_port lives in_message.Null = in_message.Null
seen_port lives in_message.Dead = in_message.Dead
seen_port lives (in_message.Live port) = if lives port then in_message.Live port else in_message.Dead

abbrev pub seen_right : (ℕ → Bool) → CarriedRight → CarriedRight
seen_right lives carried = record carried { port = seen_port lives carried.port }

abbrev pub seen_message : (ℕ → Bool) → Message → Message
seen_message lives message = record message {
  reply = option_map (seen_right lives) message.reply;
  rights = map (seen_right lives) message.rights;
}

abbrev pub seen : (ℕ → Bool) → PortState → PortState
seen lives port = record port { messages = map (seen_message lives) port.messages }

-- the ports as they are shown if they and no others are live
unfoldable pub as_seen : Ports → Ports
as_seen raw = map_values (seen (lives_in raw)) raw

-- true if a right is to a port
abbrev pub is_to : ℕ → CarriedRight → Bool
is_to serial carried = is_port carried.port serial

abbrev pub reply_is_to : ℕ → Option CarriedRight → Bool
reply_is_to serial None = is_port in_message.Null serial
reply_is_to serial (Some carried) = is_to serial carried

-- true if a right of a message is to a port
abbrev pub mentions : ℕ → Message → Bool
mentions serial message = reply_is_to serial message.reply || list_any (is_to serial) message.rights

-- each right of a message to a port is to a live one
abbrev pub AreLive : Ports → Message → Type 0
AreLive ports message = (serial : ℕ) → mentions serial message ≡ true → lives_in ports serial ≡ true

-- the state of a port after another port has died, whose serial becomes MACH_PORT_DEAD in its messages
abbrev pub queue_after_death : ℕ → PortState → PortState
queue_after_death serial port = record port { messages = map (message_after_death serial) port.messages }

-- The serials of the port and of the ports in its messages are below `next`, and its queue isn't too long.
pub record IsBelow (next : ℕ) (key : ℕ) (port : PortState) : Type 0 where
  pub within : key < next
  pub mentioned : (serial : ℕ) → list_any (mentions serial) port.messages ≡ true → serial < next
  pub short : length port.messages < 2 ^ 32

abbrev pub AreBelow : ℕ → Ports → Type 0
AreBelow next raw = (key : ℕ) (port : PortState) → finmap.get raw key ≡ Some port → IsBelow next key port
