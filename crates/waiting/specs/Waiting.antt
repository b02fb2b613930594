-- Calls that can't proceed, the places where they wait, and the places that a step must report.
use Rattle.std.specs.Prelude.{◌≡◌, ◌⊎◌, ℕ, Bool, true, false, List, [], ◌∷◌, ◌++◌, length, map, flat_map, Contains, Option, None, Some, option_map, option_and_then, Result, Ok, Err}
use Rattle.std.specs.FinMap as finmap
use Rattle.codes.specs.declared.kern_return.KernReturn.{KernReturn}
use Rattle.codes.specs.declared.kern_return.KernReturn.TheVariants.{SendTimedOut, RcvTimedOut}
use Rattle.codes.specs.declared.name.TheConstants.{MACH_PORT_NULL}
use Rattle.ipc_model.specs.calls.PlainStep.{Answer}
use Rattle.ipc_model.specs.declared.plain_call.PlainCall.{PlainCall}
use Rattle.ipc_model.specs.declared.plain_call.PlainCall.TheVariants as call
use Rattle.ipc_model.specs.declared.entry.Entry.{Entry}
use Rattle.ipc_model.specs.declared.entry.Entry.TheVariants.{Port, SendOnce, Set, Dead}
use Rattle.ipc_model.specs.declared.port.PortState.{PortState}
use Rattle.ipc_model.specs.messages.Items.{Item, names_of_item}
use Rattle.ipc_model.specs.messages.Messages.{UsedParts, used_parts}
use Rattle.ipc_model.specs.messages.Receiving.{without_message}
use Rattle.ipc_model.specs.messages.Sending.{is_full, items_if_complex}
use Rattle.ipc_model.specs.state.Ipc.{Ipc, entry_at, received_port}
use Rattle.waiting.specs.Places.{place_of_name, place_of_port}

-- A call of a task in this space can't proceed: a send finds no room in the queue, a receive no message. Such a reply
-- is possible, and changes nothing.
abbrev pub FindsNothing : Ipc → ℕ → PlainCall → Type 0
FindsNothing state space (call.Send message) =
    Answer state space (call.Send message) (without_message SendTimedOut 0 MACH_PORT_NULL)
FindsNothing state space (call.Receive limit large name waited) =
    Answer state space (call.Receive limit large name waited) (without_message RcvTimedOut 0 MACH_PORT_NULL)
FindsNothing state space c = ⊥

-- the port of the right in an entry
abbrev pub port_of : Entry → Option ℕ
port_of (Port rights) = Some rights.port
port_of (SendOnce port target) = Some port
port_of Set = None
port_of (Dead references) = None

-- the names in a message's body
abbrev pub names_in_items : Result (List Item) KernReturn → List ℕ
names_in_items (Ok items) = flat_map names_of_item items
names_in_items (Err code) = []

-- the names in a message: the destination's, the reply port's, and those in its body
abbrev pub names_cited : UsedParts → List ℕ
names_cited parts = parts.remote ∷ parts.local ∷ names_in_items (items_if_complex parts.complex parts.body)

-- the places of a send: each name in its message, and the port of the destination's name
abbrev pub place_of_destination : Option ℕ → List ℕ
place_of_destination (Some serial) = place_of_port serial ∷ []
place_of_destination None = []

abbrev pub places_of_send : Ipc → ℕ → UsedParts → List ℕ
places_of_send state space parts =
    map (place_of_name space) (names_cited parts)
    ++ place_of_destination (option_and_then port_of (entry_at state space parts.remote))

-- The places where a call waits that can't proceed: a receive at its name, a send as above. No other call waits.
abbrev pub places_of_call : Ipc → ℕ → PlainCall → List ℕ
places_of_call state space (call.Receive limit large name waited) = place_of_name space name ∷ []
places_of_call state space (call.Send message) = places_of_send state space (used_parts message)
places_of_call state space c = []

abbrev pub WaitsAt : Ipc → ℕ → PlainCall → ℕ → Type 0
WaitsAt state space c place = Contains (places_of_call state space c) place

-- No wake-up is lost: a call that can't proceed before a step, and waits at no place that the step reports, can't
-- proceed after it either.
abbrev pub Wakes : Ipc → Ipc → (ℕ → Bool) → Type 0
Wakes old new named =
    (space : ℕ) (call : PlainCall) → FindsNothing old space call
    → ((place : ℕ) → WaitsAt old space call place → named place ≡ false) → FindsNothing new space call

-- the properties of a port on which a waiting call depends: the limit of its queue, the number of its messages, and its
-- set
pub record Occupancy : Type 0 where
  pub limit : ℕ
  pub held : ℕ
  pub set : Option ℕ

abbrev pub occupancy : PortState → Occupancy
occupancy port = record { limit = port.limit; held = length port.messages; set = port.set }

abbrev pub occupancy_at : Ipc → ℕ → Option Occupancy
occupancy_at state serial = option_map occupancy (finmap.get state.ports serial)

-- a port without messages that isn't in a set
abbrev pub IsQuiet : PortState → Type 0
IsQuiet port = (port.set ≡ None) × (port.messages ≡ [])

-- The changes between two states that the places have to report:
pub record Covers (old new : Ipc) (named : ℕ → Bool) : Type 0 where
  -- each name whose entry changed
  pub entries : (space name : ℕ) → named (place_of_name space name) ≡ false
      → entry_at new space name ≡ entry_at old space name
  -- each port whose queue was full and no longer is, or that died
  pub room : (serial : ℕ) → named (place_of_port serial) ≡ false → is_full old serial ≡ true → is_full new serial ≡ true
  -- each name whose port got a message or is in a set now
  pub ports : (space name : ℕ) (entry : Entry) (serial : ℕ) (port : PortState)
      → named (place_of_name space name) ≡ false → entry_at new space name ≡ Some entry
      → received_port entry ≡ Some serial
      → finmap.get new.ports serial ≡ Some port → IsQuiet port ⊎ (occupancy_at old serial ≡ occupancy_at new serial)
  -- each set of which a member got a message, or that got a member with one
  pub sets : (space set name : ℕ) (entry : Entry) (serial : ℕ) (port : PortState)
      → named (place_of_name space set) ≡ false → entry_at new space name ≡ Some entry
      → received_port entry ≡ Some serial
      → finmap.get new.ports serial ≡ Some port → port.set ≡ Some set → (port.messages ≡ [])
      ⊎ ((entry_at old space name ≡ Some entry) × (occupancy_at old serial ≡ occupancy_at new serial))
