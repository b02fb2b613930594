-- Every right of a state with its place, and the counts of a port's rights.
-- (Kernel Interfaces, "Ports and Messages": a port has one receive right, and send and send-once rights.)
use Rattle.std.specs.Prelude.{ℕ, Bool, true, false, ◌&&◌, ◌==◌, List, [], ◌∷◌, ◌++◌, flat_map, count_by, Option, None, Some, if◌then◌else◌}
use Rattle.std.specs.FinMap as finmap
use Rattle.ipc_model.specs.declared.entry.Entry.{Entry}
use Rattle.ipc_model.specs.declared.entry.Entry.TheVariants.{Port, SendOnce, Set, Dead}
use Rattle.ipc_model.specs.declared.message.CarriedRight.{CarriedRight}
use Rattle.ipc_model.specs.declared.message.Message.{Message}
use Rattle.ipc_model.specs.declared.message.PortInMessage.{PortInMessage}
use Rattle.ipc_model.specs.declared.message.PortInMessage.TheVariants as in_message
use Rattle.ipc_model.specs.declared.message.RightKind.{RightKind}
use Rattle.ipc_model.specs.declared.message.RightKind.TheVariants as kind
use Rattle.ipc_model.specs.declared.port.PortState.{PortState}
use Rattle.ipc_model.specs.state.Ipc.{Ipc, Names}

-- Where a right stands: held under a name of a space, carried by a message in a port's queue (as its destination, its
-- reply right or a right of its body), or kept as the target of a request: the dead-name request of a name, or one of
-- a port's two. While the effects of a call are drained, a right may also wait among them.
pub data Place : Type 0 where
  held : (space name : ℕ) → Place
  destination : (queue : ℕ) → Place
  reply : (queue : ℕ) → Place
  body : (queue : ℕ) → Place
  dead_name_request : (space name : ℕ) → Place
  no_senders_request : (port : ℕ) → Place
  port_destroyed_request : (port : ℕ) → Place
  waiting : Place

-- a right of a port, with its place
pub record Right : Type 0 where
  pub kind : RightKind
  pub port : ℕ
  pub place : Place

-- MACH_PORT_NULL and MACH_PORT_DEAD in a message are no rights
abbrev pub right_to : Place → RightKind → PortInMessage → List Right
right_to place kind in_message.Null = []
right_to place kind in_message.Dead = []
right_to place kind (in_message.Live serial) = record { kind = kind; port = serial; place = place } ∷ []

-- the right of a carried right, if it is one
abbrev pub right_of_carried : Place → CarriedRight → List Right
right_of_carried place carried = right_to place carried.kind carried.port

abbrev pub right_of_reply : ℕ → Option CarriedRight → List Right
right_of_reply queue None = []
right_of_reply queue (Some carried) = right_of_carried (reply queue) carried

-- the target of a request is a send-once right
abbrev pub right_of_target : Place → Option ℕ → List Right
right_of_target request None = []
right_of_target request (Some serial) = record { kind = kind.SendOnce; port = serial; place = request } ∷ []

-- The rights of a message in a port's queue: its destination, its reply right, and those of its body.
abbrev pub rights_of_message : ℕ → Message → List Right
rights_of_message queue message =
    (record { kind = message.destination; port = queue; place = destination queue }) ∷
    (right_of_reply queue message.reply ++ flat_map (right_of_carried (body queue)) message.rights)

-- The rights that a port keeps: those of its messages, and the targets of its requests.
abbrev pub rights_of_port : ℕ → PortState → List Right
rights_of_port serial port =
    flat_map (rights_of_message serial) port.messages
    ++ (right_of_target (no_senders_request serial) port.no_senders_target
    ++ right_of_target (port_destroyed_request serial) port.port_destroyed_target)

-- The rights that stand under a name, and the target of its request. References of a send right are one right.
abbrev pub rights_of_entry : ℕ → ℕ → Entry → List Right
rights_of_entry space name (Port rights) =
    (if rights.receive then record { kind = kind.Receive; port = rights.port; place = held space name } ∷ [] else [])
    ++ ((if rights.send == 0 then [] else record { kind = kind.Send; port = rights.port; place = held space name } ∷ [])
    ++ right_of_target (dead_name_request space name) rights.dead_name_target)
rights_of_entry space name (SendOnce port target) =
    (record { kind = kind.SendOnce; port = port; place = held space name }) ∷ right_of_target
    (dead_name_request space name) target
rights_of_entry space name Set = []
rights_of_entry space name (Dead references) = []

abbrev pub rights_of_space : ℕ → Names → List Right
rights_of_space space names = flat_map (λ e. rights_of_entry space e.0 e.1) (finmap.entries names)

-- Every right of a state, with its place.
unfoldable pub placed : Ipc → List Right
placed state =
    flat_map (λ e. rights_of_space e.0 e.1) (finmap.entries state.spaces) ++ flat_map
    (λ e. rights_of_port e.0 e.1) (finmap.entries state.ports)

abbrev pub same_kind : RightKind → RightKind → Bool
same_kind kind.Receive kind.Receive = true
same_kind kind.Send kind.Send = true
same_kind kind.SendOnce kind.SendOnce = true
same_kind _ _ = false

-- How many rights of this kind a port has: members of that one list.
abbrev pub count_of : RightKind → Ipc → ℕ → ℕ
count_of wanted state serial = count_by (λ r. same_kind r.kind wanted && r.port == serial) (placed state)

abbrev pub receive_count : Ipc → ℕ → ℕ
receive_count = count_of kind.Receive

abbrev pub send_count : Ipc → ℕ → ℕ
send_count = count_of kind.Send

abbrev pub send_once_count : Ipc → ℕ → ℕ
send_once_count = count_of kind.SendOnce
