-- Copy in: a name and a disposition become a right that a message or a call takes along.
-- (Kernel Interfaces, mach_msg, "port rights in messages"; mach_port_insert_right.)
use Rattle.std.specs.Prelude.{ℕ, ◌-◌, false, ◌==◌, List, [], Option, None, Some, option_and_then, if◌then◌else◌}
use Rattle.ipc_model.specs.declared.entry.Entry.{Entry}
use Rattle.ipc_model.specs.declared.entry.Entry.TheVariants.{Port, SendOnce, Set, Dead}
use Rattle.ipc_model.specs.declared.entry.PortRights.{PortRights}
use Rattle.ipc_model.specs.declared.message.CarriedRight.{CarriedRight}
use Rattle.ipc_model.specs.declared.message.PortInMessage.TheVariants.{Live}
use Rattle.ipc_model.specs.declared.message.PortInMessage.TheVariants as in_message
use Rattle.ipc_model.specs.declared.message.RightKind.TheVariants as kind
use Rattle.ipc_model.specs.rights.Dispositions.{Disposition, MoveReceive, MoveSend, MoveSendOnce, CopySend, MakeSend, MakeSendOnce}
use Rattle.ipc_model.specs.effects.Effects.{Effect, port_deleted}
use Rattle.ipc_model.specs.state.Ipc.{Ipc, entry_at, with_entry, without_name, with_port, next_count, is_empty_entry, request_of}

-- What copy in took: a right, the state without what it consumed, and the port-deleted notice of a name that
-- ceased to be with a dead-name request.
pub record Taken : Type 0 where
  pub right : CarriedRight
  pub state : Ipc
  pub notices : List Effect

-- the state in which a name stands for this; a name that is left without a right ceases to be
abbrev pub with_left : Ipc → ℕ → ℕ → Entry → Ipc
with_left state space name entry =
    if is_empty_entry entry then without_name state space name else with_entry state space name entry

abbrev pub notices_of_left : ℕ → Entry → List Effect
notices_of_left name entry = if is_empty_entry entry then port_deleted name (request_of entry) else []

-- a right was taken and this is what is left of its name
abbrev pub taken_leaving : Ipc → ℕ → ℕ → CarriedRight → Entry → Taken
taken_leaving state space name right entry =
    record { right = right; state = with_left state space name entry; notices = notices_of_left name entry }

-- a right was taken and its name is as before
abbrev pub taken_keeping : Ipc → CarriedRight → Taken
taken_keeping state right = record { right = right; state = state; notices = [] }

-- a moved receive right leaves its set and loses its sequence number and make-send count; requests stay with the port
abbrev pub moved_port : Ipc → ℕ → Ipc
moved_port state serial =
    with_port state serial (λ port. record port { set = None; sequence_number = 0; make_send_count = 0 })

abbrev pub taken_of_port : Ipc → ℕ → ℕ → Disposition → PortRights → Option Taken
taken_of_port state space name MoveReceive rights =
    if rights.receive then Some (taken_leaving (moved_port state rights.port) space name
    (record { kind = kind.Receive; port = Live rights.port }) (Port (record rights { receive = false }))) else None
taken_of_port state space name MoveSend rights =
    if rights.send == 0 then None else Some
    (taken_leaving state space name (record { kind = kind.Send; port = Live rights.port })
    (Port (record rights { send = rights.send - 1 })))
taken_of_port state space name MoveSendOnce rights = None
taken_of_port state space name CopySend rights =
    if rights.send == 0 then None else Some (taken_keeping state (record { kind = kind.Send; port = Live rights.port }))
taken_of_port state space name MakeSend rights =
    if rights.receive
    then Some (taken_keeping (with_port state rights.port
    (λ port. record port { make_send_count = next_count port.make_send_count }))
    (record { kind = kind.Send; port = Live rights.port }))
    else None
taken_of_port state space name MakeSendOnce rights =
    if rights.receive then Some (taken_keeping state (record { kind = kind.SendOnce; port = Live rights.port }))
    else None

-- a send-once right is moved, and its name goes
abbrev pub taken_of_send_once : Ipc → ℕ → ℕ → Disposition → ℕ → Option ℕ → Option Taken
taken_of_send_once state space name MoveSendOnce port target =
    Some (record {
      right = record { kind = kind.SendOnce; port = Live port };
      state = without_name state space name;
      notices = port_deleted name target;
    })
taken_of_send_once state space name _ port target = None

-- a dead name arrives as MACH_PORT_DEAD, for a disposition that copies or moves a send or send-once right
abbrev pub taken_of_dead : Ipc → ℕ → ℕ → Disposition → ℕ → Option Taken
taken_of_dead state space name CopySend references =
    Some (taken_keeping state (record { kind = kind.Send; port = in_message.Dead }))
taken_of_dead state space name MoveSend references =
    Some (taken_leaving state space name (record { kind = kind.Send; port = in_message.Dead }) (Dead (references - 1)))
taken_of_dead state space name MoveSendOnce references =
    Some (taken_leaving state space name (record { kind = kind.SendOnce; port = in_message.Dead })
    (Dead (references - 1)))
taken_of_dead state space name _ references = None

abbrev pub taken_of_entry : Ipc → ℕ → ℕ → Disposition → Entry → Option Taken
taken_of_entry state space name disposition (Port rights) = taken_of_port state space name disposition rights
taken_of_entry state space name disposition (SendOnce port target) =
    taken_of_send_once state space name disposition port target
taken_of_entry state space name disposition Set = None
taken_of_entry state space name disposition (Dead references) = taken_of_dead state space name disposition references

-- What copy in takes from a name of a space, or nothing where it is refused.
unfoldable pub copy_in : Ipc → ℕ → ℕ → Disposition → Option Taken
copy_in state space name disposition =
    option_and_then (taken_of_entry state space name disposition) (entry_at state space name)
