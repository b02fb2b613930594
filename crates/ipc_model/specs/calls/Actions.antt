-- What each call on names and ports does once it passes its tests: its answer, the state after it, and the effects that
-- it sets off. (Kernel Interfaces, "Port Manipulation"; the calls on spaces are this server's.)
use Rattle.std.specs.Prelude.{◌≡◌, ℕ, ◌+◌, ◌-◌, ◌^◌, ◌<◌, ◌≤◌, min, Bool, true, false, ◌==◌, ◌&&◌, not, nat_le, List, [], ◌∷◌, ◌++◌, length, map, filter, filter_map, flat_map, Option, None, Some, is_some, option_and_then, if◌then◌else◌}
use Rattle.std.specs.FinMap as finmap
use Rattle.codes.specs.declared.notification.TheConstants.{MACH_NOTIFY_PORT_DESTROYED, MACH_NOTIFY_DEAD_NAME}
use Rattle.codes.specs.declared.call_number.TheConstants.{ATTACH, MACH_PORT_RENAME, MACH_PORT_ALLOCATE_NAME, MACH_PORT_DESTROY, MACH_PORT_DEALLOCATE, MACH_PORT_MOD_REFS, MACH_PORT_SET_QLIMIT, MACH_PORT_SET_MSCOUNT, MACH_PORT_SET_SEQNO, MACH_PORT_GET_RECEIVE_STATUS, MACH_PORT_MOVE_MEMBER, MACH_PORT_INSERT_RIGHT, SPACE_DESTROY}
use Rattle.codes.specs.declared.limits.TheConstants.{MAX_SPACES}
use Rattle.codes.specs.declared.name.TheConstants.{MACH_PORT_NULL}
use Rattle.codes.specs.declared.right.Right.TheVariants as right
use Rattle.ipc_model.specs.declared.plain_call.PlainCall.{PlainCall}
use Rattle.ipc_model.specs.declared.plain_call.PlainCall.TheVariants as call
use Rattle.ipc_model.specs.declared.plain_reply.PlainReply.{PlainReply}
use Rattle.ipc_model.specs.declared.plain_reply.PlainReply.TheVariants as reply
use Rattle.ipc_model.specs.declared.plain_reply.ReceiveStatus.{ReceiveStatus}
use Rattle.ipc_model.specs.declared.entry.Entry.{Entry}
use Rattle.ipc_model.specs.declared.entry.Entry.TheVariants.{Port, SendOnce, Set, Dead}
use Rattle.ipc_model.specs.declared.entry.PortRights.{PortRights}
use Rattle.ipc_model.specs.declared.message.RightKind.TheVariants as kind
use Rattle.ipc_model.specs.declared.port.PortState.{PortState}
use Rattle.ipc_model.specs.rights.CopyIn.{Taken, copy_in, with_left, notices_of_left}
use Rattle.ipc_model.specs.rights.CopyOut.{MayArrive, names_after}
use Rattle.ipc_model.specs.rights.Dispositions.{disposition_of}
use Rattle.ipc_model.specs.effects.Effects.{Effect, Outcome, release, notify, port_deleted, state_after, added}
use Rattle.ipc_model.specs.messages.Notices as notice
use Rattle.ipc_model.specs.state.Placed.{send_count, send_once_count}
use Rattle.ipc_model.specs.calls.PortCalls.{is_right, references_of, sum_of, minus_one, notify_disposition, target_under, names_in}
use Rattle.ipc_model.specs.messages.Sending.{live_port}
use Rattle.ipc_model.specs.state.Ipc.{Ipc, Names, IsUnused, type_of, new_port, with_names, with_entry, without_name, with_port, received_port, is_member, members_of, entry_at}

-- an answer, the state after the call itself, and the effects that it sets off, in their order
pub record Action : Type 0 where
  pub answer : PlainReply
  pub state : Ipc
  pub effects : List Effect

-- nothing changes
abbrev pub only : Ipc → PlainReply → Action
only state answer = record { answer = answer; state = state; effects = [] }

-- the call of this number is done, and has no results
abbrev pub done_with : ℕ → Ipc → List Effect → Action
done_with number state effects = record { answer = reply.Done number; state = state; effects = effects }

-- the ports whose receive rights are members of the set
abbrev pub serials_of_members : Ipc → Names → ℕ → List ℕ
serials_of_members state names set =
    filter_map (λ e. received_port e.1) (filter (λ e. is_member state set e.1) (finmap.entries names))

abbrev pub with_ports : Ipc → List ℕ → (PortState → PortState) → Ipc
with_ports state [] change = state
with_ports state (serial ∷ serials) change = with_ports (with_port state serial change) serials change

-- every member of a set in a space gets this set's name, or none
abbrev pub members_in : Ipc → Names → ℕ → Option ℕ → Ipc
members_in state names set other =
    with_ports state (serials_of_members state names set) (λ port. record port { set = other })

-- when a set goes, its members are in no set any more; when it is renamed, they get its new name
abbrev pub members_moved : Ipc → Names → ℕ → Option ℕ → Entry → Ipc
members_moved state names set other (Port rights) = state
members_moved state names set other (SendOnce port target) = state
members_moved state names set other Set = members_in state names set other
members_moved state names set other (Dead references) = state

abbrev pub renamed : Ipc → ℕ → Names → ℕ → ℕ → Entry → Ipc
renamed state space names from to entry =
    with_names (members_moved state names from (Some to) entry) space
    (finmap.insert (finmap.remove names from) to entry)

-- what a new name of a right's number stands for; a new port gets the next serial
abbrev pub allocated_entry : ℕ → ℕ → Entry
allocated_entry serial wanted =
    if is_right wanted right.Receive
    then Port (record { port = serial; receive = true; send = 0; dead_name_target = None })
    else if is_right wanted right.PortSet then Set
    else Dead 1

abbrev pub allocated : Ipc → ℕ → Names → ℕ → ℕ → Ipc
allocated state space names wanted name =
    let named : Ipc = with_names state space (finmap.insert names name (allocated_entry state.next wanted)) in
    if is_right wanted right.Receive
    then record named { ports = finmap.insert state.ports state.next new_port; next = state.next + 1 } else named

-- an effect, or none
abbrev pub release_if : Bool → Effect → List Effect
release_if b effect = if b then effect ∷ [] else []

-- the releases of all that a name stands for, and its port-deleted notice
abbrev pub effects_of_name : ℕ → Entry → List Effect
effects_of_name name (Port rights) =
    release_if (not (rights.send == 0)) (release kind.Send rights.port)
    ++ (release_if rights.receive (release kind.Receive rights.port) ++ port_deleted name rights.dead_name_target)
effects_of_name name (SendOnce port target) = release kind.SendOnce port ∷ port_deleted name target
effects_of_name name Set = []
effects_of_name name (Dead references) = []

abbrev pub destroyed : Ipc → ℕ → Names → ℕ → Entry → Action
destroyed state space names name entry =
    done_with MACH_PORT_DESTROY (with_names (members_moved state names name None entry) space
    (finmap.remove names name)) (effects_of_name name entry)

-- A right keeps this many references under a name; if none are left, the right goes.
abbrev pub send_left : Ipc → ℕ → ℕ → PortRights → ℕ → ℕ → Action
send_left state space name rights left number =
    let entry : Entry = Port (record rights { send = left }) in
    done_with number (with_left state space name entry)
    (release_if (left == 0) (release kind.Send rights.port) ++ notices_of_left name entry)

abbrev pub dead_left : Ipc → ℕ → ℕ → ℕ → ℕ → Action
dead_left state space name left number = done_with number (with_left state space name (Dead left)) []

abbrev pub receive_gone : Ipc → ℕ → ℕ → PortRights → Action
receive_gone state space name rights =
    let entry : Entry = Port (record rights { receive = false }) in
    done_with MACH_PORT_MOD_REFS (with_left state space name entry)
    (release kind.Receive rights.port ∷ notices_of_left name entry)

abbrev pub send_once_gone : Ipc → ℕ → ℕ → ℕ → Option ℕ → ℕ → Action
send_once_gone state space name port target number =
    done_with number (without_name state space name) (release kind.SendOnce port ∷ port_deleted name target)

-- mach_port_deallocate: takes one reference from a send right, a send-once right or a dead name
abbrev pub deallocated : Ipc → ℕ → Names → ℕ → Entry → Action
deallocated state space names name (Port rights) =
    send_left state space name rights (rights.send - 1) MACH_PORT_DEALLOCATE
deallocated state space names name (SendOnce port target) =
    send_once_gone state space name port target MACH_PORT_DEALLOCATE
deallocated state space names name Set = done_with MACH_PORT_DEALLOCATE state []  -- its tests refuse it
deallocated state space names name (Dead references) = dead_left state space name (references - 1) MACH_PORT_DEALLOCATE

-- mach_port_mod_refs. With a delta of 0 nothing changes.
abbrev pub modified_port : Ipc → ℕ → ℕ → PortRights → ℕ → ℕ → Action
modified_port state space name rights wanted delta =
    if is_right wanted right.Send then send_left state space name rights (sum_of rights.send delta) MACH_PORT_MOD_REFS
    else if delta == minus_one then receive_gone state space name rights
    else done_with MACH_PORT_MOD_REFS state []

abbrev pub modified : Ipc → ℕ → Names → ℕ → Entry → ℕ → ℕ → Action
modified state space names name (Port rights) wanted delta = modified_port state space name rights wanted delta
modified state space names name (SendOnce port target) wanted delta =
    if delta == minus_one then send_once_gone state space name port target MACH_PORT_MOD_REFS
    else done_with MACH_PORT_MOD_REFS state []
modified state space names name Set wanted delta =
    if delta == minus_one then done_with MACH_PORT_MOD_REFS
    (with_names (members_in state names name None) space (finmap.remove names name)) []
    else done_with MACH_PORT_MOD_REFS state []
modified state space names name (Dead references) wanted delta =
    dead_left state space name (sum_of references delta) MACH_PORT_MOD_REFS

-- changes what the port keeps whose receive right this name holds
abbrev pub with_received : Ipc → Entry → (PortState → PortState) → Ipc
with_received state entry change =
    elim (received_port entry) as (λ _. Ipc) [ None ↦ state | Some serial ↦ with_port state serial change ]

-- mach_port_get_receive_status
abbrev pub name_or_null : Option ℕ → ℕ
name_or_null None = MACH_PORT_NULL
name_or_null (Some name) = name

abbrev pub status_of : Ipc → ℕ → PortState → ReceiveStatus
status_of state serial port = record {
  set = name_or_null port.set;
  sequence_number = port.sequence_number;
  make_send_count = port.make_send_count;
  limit = port.limit;
  messages = length port.messages;
  send_once_count = min (2 ^ 32 - 1) (send_once_count state serial);
  has_senders = not (send_count state serial == 0);
  has_port_destroyed_request = is_some port.port_destroyed_target;
  has_no_senders_request = is_some port.no_senders_target;
}

-- mach_port_move_member: into another set, or out of the one that it is in
abbrev pub set_named : ℕ → Option ℕ
set_named name = if name == MACH_PORT_NULL then None else Some name

-- Requests for notifications. The target is a send-once right that was copied in; there is none where a request is
-- cancelled.

-- the port has no send right, and as many were made as the task knows of, or more
abbrev pub lacks_senders : Ipc → ℕ → ℕ → Bool
lacks_senders state sync serial =
    elim (finmap.get state.ports serial) as (λ _. Bool)
    [ None ↦ false | Some port ↦ send_count state serial == 0 && nat_le sync port.make_send_count ]

abbrev pub make_send_count_of : Ipc → ℕ → ℕ
make_send_count_of state serial =
    elim (finmap.get state.ports serial) as (λ _. ℕ) [ None ↦ 0 | Some port ↦ port.make_send_count ]

-- What a request does is the state after it, and its notice if that goes out at once. Most send none.
abbrev pub without_notice : Ipc → Outcome
without_notice state = (state, [])

-- the request of this variant is cancelled: the port keeps no target for it
abbrev pub port_request_cancelled : Ipc → ℕ → ℕ → Outcome
port_request_cancelled state variant serial =
    without_notice (with_port state serial (λ port. if variant == MACH_NOTIFY_PORT_DESTROYED
    then record port { port_destroyed_target = None } else record port { no_senders_target = None }))

-- the port keeps this target, for the notice that it would be destroyed
abbrev pub port_destroyed_kept : Ipc → ℕ → ℕ → Outcome
port_destroyed_kept state serial target =
    without_notice (with_port state serial (λ port. record port { port_destroyed_target = Some target }))

-- the port keeps this target, for the notice that it has no senders
abbrev pub no_senders_kept : Ipc → ℕ → ℕ → Outcome
no_senders_kept state serial target =
    without_notice (with_port state serial (λ port. record port { no_senders_target = Some target }))

-- the port has no senders already: it keeps no target, and the notice goes out at once
abbrev pub no_senders_answered : Ipc → ℕ → ℕ → Outcome
no_senders_answered state serial target = (
  with_port state serial (λ port. record port { no_senders_target = None }),
  notify target (notice.NoSenders (make_send_count_of state serial)) ∷ [],
)

-- A request on a port is cancelled, or kept, or answered at once.
abbrev pub port_request_set : Ipc → ℕ → ℕ → ℕ → Option ℕ → Outcome
port_request_set state variant sync serial None = port_request_cancelled state variant serial
port_request_set state variant sync serial (Some target) =
    if variant == MACH_NOTIFY_PORT_DESTROYED then port_destroyed_kept state serial target
    else if lacks_senders state sync serial then no_senders_answered state serial target
    else no_senders_kept state serial target

-- the name is dead already: it gets one more reference, and the notice goes out at once
abbrev pub dead_name_answered : Ipc → ℕ → ℕ → ℕ → ℕ → Outcome
dead_name_answered state space name target references =
    (with_entry state space name (Dead (references + 1)), notify target (notice.DeadName name) ∷ [])

-- A dead-name request is kept with the name, or its target goes where it is cancelled; or it is answered at once. The
-- tests refuse that of a set.
abbrev pub dead_name_request_set : Ipc → ℕ → ℕ → Option ℕ → Entry → Outcome
dead_name_request_set state space name target (Port rights) =
    without_notice (with_entry state space name (Port (record rights { dead_name_target = target })))
dead_name_request_set state space name target (SendOnce port former) =
    without_notice (with_entry state space name (SendOnce port target))
dead_name_request_set state space name target Set = without_notice state
dead_name_request_set state space name None (Dead references) = without_notice state
dead_name_request_set state space name (Some target) (Dead references) =
    dead_name_answered state space name target references

-- a request on what a name stands for; the tests ensure that it is in use, and a port's request has a receive right
abbrev pub request_set : Ipc → ℕ → ℕ → ℕ → ℕ → Option ℕ → Entry → Outcome
request_set state space name variant sync target entry =
    if variant == MACH_NOTIFY_DEAD_NAME then dead_name_request_set state space name target entry
    else elim (received_port entry) as (λ _. Outcome)
    [ None ↦ without_notice state | Some serial ↦ port_request_set state variant sync serial target ]

abbrev pub request_set_under : Ipc → ℕ → ℕ → ℕ → ℕ → Option ℕ → Outcome
request_set_under state space name variant sync target =
    elim (entry_at state space name) as (λ _. Outcome)
    [ None ↦ without_notice state | Some entry ↦ request_set state space name variant sync target entry ]

-- The former target comes back as a send-once right under a new name. The answer shows the name, or 0 where there was
-- none.
abbrev pub GivesBack : Ipc → ℕ → Option ℕ → ℕ → Ipc → Type 0
GivesBack state space None name new = (name ≡ MACH_PORT_NULL) × (new ≡ state)
GivesBack state space (Some former) name new =
    IsUnused (names_in state space) name × (new ≡ with_entry state space name (SendOnce former None))

-- what was copied in for a request: the target's port, the state after it, and notices
pub record TakenTarget : Type 0 where
  pub target : Option ℕ
  pub state : Ipc
  pub notices : List Effect

abbrev pub taken_target : Ipc → Option Taken → TakenTarget
taken_target state None = record { target = None; state = state; notices = [] }
taken_target state (Some taken) =
    record { target = live_port taken.right.port; state = taken.state; notices = taken.notices }

abbrev pub target_for : Ipc → ℕ → ℕ → ℕ → TakenTarget
target_for state space notify_name disposition =
    if notify_name == MACH_PORT_NULL then taken_target state None
    else taken_target state (option_and_then (copy_in state space notify_name) (notify_disposition disposition))

-- the target that the request of this variant has before
abbrev pub former_target : Ipc → ℕ → ℕ → ℕ → Option ℕ
former_target state space variant name = target_under state (names_in state space) variant name

-- A request is made with the target that was taken: it is cancelled, kept, or answered at once, and the former target
-- comes back. The notices of copy in come first.
abbrev pub Requested : Ipc → ℕ → ℕ → ℕ → ℕ → TakenTarget → PlainReply → Ipc → List Effect → Type 0
Requested old space name variant sync taken answer new effects =
    let request : Outcome = request_set_under taken.state space name variant sync taken.target in
    (given : ℕ) × (answer ≡ reply.PreviousTarget given)
    × GivesBack (state_after request) space (former_target taken.state space variant name) given new
    × (effects ≡ taken.notices ++ added request)

-- A right that was copied in comes out in a space under a name.
abbrev pub ComesOut : Option Taken → ℕ → ℕ → Ipc → List Effect → Type 0
ComesOut None space name new effects = ⊥
ComesOut (Some taken) space name new effects =
    MayArrive (names_in taken.state space) taken.right.kind taken.right.port name
    × (new ≡ with_names taken.state space
    (names_after (names_in taken.state space) taken.right.kind taken.right.port name)) × (effects ≡ taken.notices)

abbrev pub taken_by : Ipc → ℕ → ℕ → ℕ → Option Taken
taken_by state space name disposition = option_and_then (copy_in state space name) (disposition_of disposition)

-- mach_port_insert_right: the task chooses the name
abbrev pub Inserted : Option Taken → ℕ → ℕ → Ipc → List Effect → Type 0
Inserted None space name new effects = ⊥
Inserted (Some taken) space name new effects =
    (new ≡ with_names taken.state space
    (names_after (names_in taken.state space) taken.right.kind taken.right.port name)) × (effects ≡ taken.notices)

-- mach_port_extract_right: the right comes out under its port's name, or a new one
abbrev pub Extracted : Option Taken → ℕ → PlainReply → Ipc → List Effect → Type 0
Extracted None space answer new effects = ⊥
Extracted (Some taken) space answer new effects =
    (name : ℕ) × (answer ≡ reply.Extracted name taken.right.kind) × ComesOut (Some taken) space name new effects

-- a space's number: from 1 to the greatest number of spaces, and not in use
pub record IsUnusedSpace (state : Ipc) (space : ℕ) : Type 0 where
  pub least : 0 < space
  pub greatest : space ≤ MAX_SPACES
  pub free : finmap.get state.spaces space ≡ None

-- A new space, whose one name holds the right.
abbrev pub Created : Option Taken → PlainReply → Ipc → List Effect → Type 0
Created None answer new effects = ⊥
Created (Some taken) answer new effects =
    (number : ℕ) × (name : ℕ) × IsUnusedSpace taken.state number × (answer ≡ reply.SpaceCreated number name)
    × MayArrive finmap.empty taken.right.kind taken.right.port name
    × (new ≡ with_names taken.state number (names_after finmap.empty taken.right.kind taken.right.port name))
    × (effects ≡ taken.notices)

-- A space is destroyed with all its names, in ascending order, and its sets go with it.
abbrev pub received_serials : Names → List ℕ
received_serials names = filter_map (λ e. received_port e.1) (finmap.entries names)

abbrev pub space_destroyed : Ipc → ℕ → Names → Action
space_destroyed state space names =
    let outside : Ipc = with_ports state (received_serials names) (λ port. record port { set = None }) in
    done_with SPACE_DESTROY (record outside { spaces = finmap.remove state.spaces space })
    (flat_map (λ e. effects_of_name e.0 e.1) (finmap.entries names))

-- an action as a relation: the answer, the state that it leaves, and the effects that it sets off
abbrev pub Acts : Action → PlainReply → Ipc → List Effect → Type 0
Acts action answer new effects = (answer ≡ action.answer) × (new ≡ action.state) × (effects ≡ action.effects)

-- the same for an action on what a name stands for; the tests ensure that the name is in use
abbrev pub ActsOn : Option Entry → (Entry → Action) → PlainReply → Ipc → List Effect → Type 0
ActsOn None action answer new effects = ⊥
ActsOn (Some entry) action answer new effects = Acts (action entry) answer new effects

-- the tests ensure that the name holds a receive right, whose port lives
abbrev pub status_action : Ipc → Option PortState → ℕ → Action
status_action state None serial = done_with MACH_PORT_GET_RECEIVE_STATUS state []
status_action state (Some port) serial = only state (reply.ReceiveStatus (status_of state serial port))

abbrev pub status_action_of : Ipc → Option ℕ → Action
status_action_of state None = done_with MACH_PORT_GET_RECEIVE_STATUS state []
status_action_of state (Some serial) = status_action state (finmap.get state.ports serial) serial

-- A call on names and ports that passes its tests: what it may answer, the state after it, and the effects that it sets
-- off.
unfoldable pub Done : Ipc → ℕ → Names → PlainCall → PlainReply → Ipc → List Effect → Type 0
Done old space names (call.Attach other) answer new effects = Acts (done_with ATTACH old []) answer new effects
Done old space names call.Names answer new effects =
    Acts (only old (reply.Names (map (λ e. record { name = e.0; bits = type_of e.1 }) (finmap.entries names)))) answer
    new effects
Done old space names (call.Type name) answer new effects =
    ActsOn (finmap.get names name) (λ entry. only old (reply.Type (type_of entry))) answer new effects
Done old space names (call.Rename from to) answer new effects =
    ActsOn (finmap.get names from)
    (λ entry. done_with MACH_PORT_RENAME (renamed old space names from to entry) []) answer new effects
Done old space names (call.AllocateName wanted name) answer new effects =
    Acts (done_with MACH_PORT_ALLOCATE_NAME (allocated old space names wanted name) []) answer new effects
Done old space names (call.Allocate wanted) answer new effects =
    (name : ℕ) × IsUnused names name × (answer ≡ reply.Allocate name) × (new ≡ allocated old space names wanted name)
    × (effects ≡ [])
Done old space names (call.Destroy name) answer new effects =
    ActsOn (finmap.get names name) (destroyed old space names name) answer new effects
Done old space names (call.Deallocate name) answer new effects =
    ActsOn (finmap.get names name) (deallocated old space names name) answer new effects
Done old space names (call.GetRefs name wanted) answer new effects =
    ActsOn (finmap.get names name)
    (λ entry. only old (reply.References (references_of wanted entry))) answer new effects
Done old space names (call.ModRefs name wanted delta) answer new effects =
    ActsOn (finmap.get names name) (λ entry. modified old space names name entry wanted delta) answer new effects
Done old space names (call.SetQlimit name limit) answer new effects =
    ActsOn (finmap.get names name)
    (λ entry. done_with MACH_PORT_SET_QLIMIT (with_received old entry (λ port. record port { limit = limit })) [])
    answer new effects
Done old space names (call.SetMscount name count) answer new effects =
    ActsOn (finmap.get names name)
    (λ entry. done_with MACH_PORT_SET_MSCOUNT
    (with_received old entry (λ port. record port { make_send_count = count })) []) answer new effects
Done old space names (call.SetSeqno name seqno) answer new effects =
    ActsOn (finmap.get names name)
    (λ entry. done_with MACH_PORT_SET_SEQNO
    (with_received old entry (λ port. record port { sequence_number = seqno })) []) answer new effects
Done old space names (call.GetReceiveStatus name) answer new effects =
    ActsOn (finmap.get names name) (λ entry. status_action_of old (received_port entry)) answer new effects
Done old space names (call.GetSetStatus name) answer new effects =
    Acts (only old (reply.SetStatus (members_of old names name))) answer new effects
Done old space names (call.MoveMember member after) answer new effects =
    ActsOn (finmap.get names member)
    (λ entry. done_with MACH_PORT_MOVE_MEMBER
    (with_received old entry (λ port. record port { set = set_named after })) []) answer new effects
Done old space names (call.RequestNotification name variant sync notify_name disposition) answer new effects =
    Requested old space name variant sync (target_for old space notify_name disposition) answer new effects
Done old space names (call.InsertRight name right_name disposition) answer new effects =
    (answer ≡ reply.Done MACH_PORT_INSERT_RIGHT)
    × Inserted (taken_by old space right_name disposition) space name new effects
Done old space names (call.ExtractRight name disposition) answer new effects =
    Extracted (taken_by old space name disposition) space answer new effects
Done old space names (call.Send message) answer new effects = ⊥
Done old space names (call.Receive limit large name waited) answer new effects = ⊥
Done old space names (call.SpaceCreate name disposition) answer new effects =
    Created (taken_by old space name disposition) answer new effects
Done old space names call.SpaceDestroy answer new effects = Acts (space_destroyed old space names) answer new effects
