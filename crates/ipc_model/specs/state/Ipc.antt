-- The IPC state: what the names of each space stand for, and what each live port keeps.
-- (Kernel Interfaces, "Port Manipulation".)
use Rattle.std.specs.Prelude.{◌≡◌, ℕ, ◌+◌, ◌-◌, ◌^◌, ◌<◌, Bool, false, ◌||◌, ◌&&◌, ◌==◌, not, nat_le, List, [], map, filter, find, Option, None, Some, is_some, option_and_then, option_map, if◌then◌else◌}
use Rattle.std.specs.Ordering.{nat_cmp}
use Rattle.std.specs.FinMap as finmap
use Rattle.codes.specs.declared.limits.TheConstants.{MAX_PORTS, DEFAULT_QUEUE_LIMIT}
use Rattle.codes.specs.declared.name.TheConstants.{MACH_PORT_NULL, MACH_PORT_DEAD, FIRST_SPACE}
use Rattle.codes.specs.Right.{type_bit}
use Rattle.codes.specs.declared.right.Right.TheVariants as right
use Rattle.ipc_model.specs.declared.entry.Entry.{Entry}
use Rattle.ipc_model.specs.declared.entry.Entry.TheVariants.{Port, SendOnce, Set, Dead}
use Rattle.ipc_model.specs.declared.port.PortState.{PortState}

-- what the names of a space stand for
abbrev pub Names : Type 0
Names = finmap.FinMap nat_cmp Entry

-- the spaces by their numbers, the live ports by their serials, and the serial that the next port gets
pub record Ipc : Type 0 where
  pub spaces : finmap.FinMap nat_cmp Names
  pub ports : finmap.FinMap nat_cmp PortState
  pub next : ℕ

-- The state of a new store: space 1 without names, and no port.
abbrev pub opening_ipc : Ipc
opening_ipc = record { spaces = finmap.insert finmap.empty FIRST_SPACE finmap.empty; ports = finmap.empty; next = 1 }

-- what a space holds under a name
abbrev pub entry_at : Ipc → ℕ → ℕ → Option Entry
entry_at state space name = option_and_then (λ names. finmap.get names name) (finmap.get state.spaces space)

-- the state with other names in one space
abbrev pub with_names : Ipc → ℕ → Names → Ipc
with_names state space names = record state { spaces = finmap.insert state.spaces space names }

-- the state with one name of a space changed, where the space is there
abbrev pub with_changed : Ipc → ℕ → (Names → Names) → Ipc
with_changed state space change = elim (finmap.get state.spaces space) as (λ _. Ipc) [
  | None ↦ state
  | Some names ↦ with_names state space (change names)
]

abbrev pub with_entry : Ipc → ℕ → ℕ → Entry → Ipc
with_entry state space name entry = with_changed state space (λ names. finmap.insert names name entry)

abbrev pub without_name : Ipc → ℕ → ℕ → Ipc
without_name state space name = with_changed state space (λ names. finmap.remove names name)

-- the state with what a live port keeps changed
abbrev pub with_port : Ipc → ℕ → (PortState → PortState) → Ipc
with_port state serial change = elim (finmap.get state.ports serial) as (λ _. Ipc) [
  | None ↦ state
  | Some port ↦ record state { ports = finmap.insert state.ports serial (change port) }
]

abbrev pub lives : Ipc → ℕ → Bool
lives state serial = is_some (finmap.get state.ports serial)

-- A name that may be handed out: neither MACH_PORT_NULL nor MACH_PORT_DEAD, and not in use.
pub record IsUnused (names : Names) (name : ℕ) : Type 0 where
  pub least : 0 < name
  pub below_dead : name < MACH_PORT_DEAD
  pub free : finmap.get names name ≡ None

-- MACH_PORT_NULL and MACH_PORT_DEAD, which no space holds as names
abbrev pub is_null_or_dead : ℕ → Bool
is_null_or_dead name = name == MACH_PORT_NULL || name == MACH_PORT_DEAD

-- The bit of a dead-name request in a name's type (MACH_PORT_TYPE_DNREQUEST).
abbrev pub request_bit : Option ℕ → ℕ
request_bit None = 0
request_bit (Some target) = 2 ^ 31

-- The type of a name: the bits of the rights that it holds, and of its dead-name request (mach_port_type).
abbrev pub type_of : Entry → ℕ
type_of (Port rights) =
    (if rights.send == 0 then 0 else type_bit right.Send) +
    (if rights.receive then type_bit right.Receive else 0) + request_bit rights.dead_name_target
type_of (SendOnce port target) = type_bit right.SendOnce + request_bit target
type_of Set = type_bit right.PortSet
type_of (Dead references) = type_bit right.DeadName

-- the port whose send or receive right, or both, a name holds
abbrev pub port_held : Entry → Option ℕ
port_held (Port rights) = Some rights.port
port_held (SendOnce port target) = None
port_held Set = None
port_held (Dead references) = None

-- the port whose receive right a name holds
abbrev pub received_port : Entry → Option ℕ
received_port (Port rights) = if rights.receive then Some rights.port else None
received_port (SendOnce port target) = None
received_port Set = None
received_port (Dead references) = None

-- the target of a name's dead-name request
abbrev pub request_of : Entry → Option ℕ
request_of (Port rights) = rights.dead_name_target
request_of (SendOnce port target) = target
request_of Set = None
request_of (Dead references) = None

-- whether a name no longer stands for anything, and so ceases to be
abbrev pub is_empty_entry : Entry → Bool
is_empty_entry (Port rights) = not rights.receive && rights.send == 0
is_empty_entry (SendOnce port target) = false
is_empty_entry Set = false
is_empty_entry (Dead references) = references == 0

-- A new port: an empty queue with the default limit, in no set, with no requests.
abbrev pub new_port : PortState
new_port =
    record {
      limit = DEFAULT_QUEUE_LIMIT;
      sequence_number = 0;
      make_send_count = 0;
      set = None;
      messages = [];
      no_senders_target = None;
      port_destroyed_target = None;
    }

-- No further port can be made: the greatest number of ports live, or the serials are used up.
abbrev pub ports_are_used_up : Ipc → Bool
ports_are_used_up state = nat_le MAX_PORTS (finmap.len state.ports) || state.next == 2 ^ 64 - 1

-- whether there is a number, and it is this one
abbrev pub is_number : Option ℕ → ℕ → Bool
is_number None n = false
is_number (Some m) n = m == n

-- the name under which a space holds a send or receive right of a port, the least if there were several
abbrev pub name_of_port : Names → ℕ → Option ℕ
name_of_port names serial = option_map (λ e. e.0) (find (λ e. is_number (port_held e.1) serial) (finmap.entries names))

-- the names of a set's members in a space, in ascending order: those that hold the receive right of a port that is in
-- the set
abbrev pub is_member : Ipc → ℕ → Entry → Bool
is_member state set entry =
    elim (option_and_then (λ serial. finmap.get state.ports serial) (received_port entry)) as (λ _. Bool) [
      | None ↦ false
      | Some port ↦ is_number port.set set
    ]

abbrev pub members_of : Ipc → Names → ℕ → List ℕ
members_of state names set = map (λ e. e.0) (filter (λ e. is_member state set e.1) (finmap.entries names))

-- a count of 32 bits plus one, which wraps to 0
abbrev pub next_count : ℕ → ℕ
next_count n = if n == 2 ^ 32 - 1 then 0 else n + 1
