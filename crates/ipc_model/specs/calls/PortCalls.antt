-- The calls on names and ports: the tests of each, in order.
-- (Kernel Interfaces, "Port Manipulation"; the calls on spaces are this server's.)
use Rattle.std.specs.Prelude.{ℕ, ◌+◌, ◌-◌, ◌^◌, Bool, true, false, ◌==◌, ◌&&◌, ◌||◌, not, nat_le, nat_lt, [], ◌∷◌, ◌++◌, Option, None, Some, is_some, is_none, option_and_then, if◌then◌else◌}
use Rattle.std.specs.List.{list_any}
use Rattle.std.specs.FinMap as finmap
use Rattle.codes.specs.declared.notification.TheConstants.{MACH_NOTIFY_PORT_DESTROYED, MACH_NOTIFY_NO_SENDERS, MACH_NOTIFY_DEAD_NAME}
use Rattle.codes.specs.declared.kern_return.KernReturn.{KernReturn}
use Rattle.codes.specs.declared.kern_return.KernReturn.TheVariants.{NoSpace, InvalidArgument, Failure, ResourceShortage, NotInSet, NameExists, InvalidName, InvalidTask, InvalidRight, InvalidValue, UrefsOverflow, InvalidCapability, RightExists}
use Rattle.codes.specs.declared.limits.TheConstants.{MAX_NAMES, MAX_SPACES, MAX_SEND_REFERENCES, MAX_DEAD_REFERENCES, MAX_QUEUE_LIMIT}
use Rattle.codes.specs.declared.name.TheConstants.{MACH_PORT_NULL, FIRST_SPACE}
use Rattle.codes.specs.declared.right.Right.{Right}
use Rattle.codes.specs.declared.right.Right.TheVariants as right
use Rattle.codes.specs.Right.{number_of}
use Rattle.ipc_model.specs.declared.plain_call.PlainCall.{PlainCall}
use Rattle.ipc_model.specs.declared.plain_call.PlainCall.TheVariants as call
use Rattle.ipc_model.specs.declared.entry.Entry.{Entry}
use Rattle.ipc_model.specs.declared.entry.Entry.TheVariants.{Port, SendOnce, Set, Dead}
use Rattle.ipc_model.specs.declared.message.RightKind.{RightKind}
use Rattle.ipc_model.specs.declared.message.RightKind.TheVariants as kind
use Rattle.ipc_model.specs.declared.port.PortState.{PortState}
use Rattle.ipc_model.specs.rights.CopyIn.{Taken, copy_in}
use Rattle.ipc_model.specs.rights.CopyOut.{names_needed}
use Rattle.ipc_model.specs.rights.Dispositions.{Disposition, MoveSendOnce, MakeSendOnce, disposition_of, number_of_disposition}
use Rattle.ipc_model.specs.messages.Sending.{live_port}
use Rattle.ipc_model.specs.state.Ipc.{Ipc, Names, is_null_or_dead, ports_are_used_up, port_held, received_port, request_of, is_number}
use Rattle.ipc_model.specs.calls.Tests.{Tests, always_failing}

-- whether a number is this right's
abbrev pub is_right : ℕ → Right → Bool
is_right n wanted = n == number_of wanted

-- the rights that can be allocated: a receive right, a port set, a dead name
abbrev pub is_allocatable : ℕ → Bool
is_allocatable n = is_right n right.Receive || is_right n right.PortSet || is_right n right.DeadName

abbrev pub names_are_used_up : Names → Bool
names_are_used_up names = nat_le MAX_NAMES (finmap.len names)

abbrev pub is_in_use : Names → ℕ → Bool
is_in_use names name = is_some (finmap.get names name)

-- the name is MACH_PORT_NULL or MACH_PORT_DEAD, or not in use
abbrev pub is_no_name : Names → ℕ → Bool
is_no_name names name = is_null_or_dead name || not (is_in_use names name)

-- a predicate on the entry under a name; false for a name that isn't in use
abbrev pub entry_is : (Entry → Bool) → Option Entry → Bool
entry_is test None = false
entry_is test (Some entry) = test entry

abbrev pub name_is : (Entry → Bool) → Names → ℕ → Bool
name_is test names name = entry_is test (finmap.get names name)

abbrev pub has_receive : Entry → Bool
has_receive entry = is_some (received_port entry)

abbrev pub is_set : Entry → Bool
is_set (Port rights) = false
is_set (SendOnce port target) = false
is_set Set = true
is_set (Dead references) = false

abbrev pub is_dead : Entry → Bool
is_dead (Port rights) = false
is_dead (SendOnce port target) = false
is_dead Set = false
is_dead (Dead references) = true

abbrev pub is_send_once : Entry → Bool
is_send_once (Port rights) = false
is_send_once (SendOnce port target) = true
is_send_once Set = false
is_send_once (Dead references) = false

abbrev pub one_if : Bool → ℕ
one_if b = if b then 1 else 0

-- how many send references an entry holds, or how many references a dead name has
abbrev pub send_references : Entry → ℕ
send_references (Port rights) = rights.send
send_references (SendOnce port target) = 0
send_references Set = 0
send_references (Dead references) = 0

abbrev pub dead_references : Entry → ℕ
dead_references (Port rights) = 0
dead_references (SendOnce port target) = 0
dead_references Set = 0
dead_references (Dead references) = references

-- how many references of a right an entry holds; of a receive right, a set and a send-once right it is one
abbrev pub references_of : ℕ → Entry → ℕ
references_of n entry =
    if is_right n right.Send then send_references entry
    else if is_right n right.Receive then one_if (has_receive entry)
    else if is_right n right.SendOnce then one_if (is_send_once entry)
    else if is_right n right.PortSet then one_if (is_set entry)
    else dead_references entry

abbrev pub references_under : Names → ℕ → ℕ → ℕ
references_under names name n =
    elim (finmap.get names name) as (λ _. ℕ) [ None ↦ 0 | Some entry ↦ references_of n entry ]

abbrev pub is_no_right : ℕ → Bool
is_no_right n = nat_lt 4 n

-- whether a delta of 32 bits in two's complement is negative: it is from 2 ^ 31 on; and how far below zero it is then
abbrev pub is_negative : ℕ → Bool
is_negative delta = nat_le (2 ^ 31) delta

abbrev pub falls_by : ℕ → ℕ
falls_by delta = 2 ^ 32 - delta

abbrev pub sum_is_negative : ℕ → ℕ → Bool
sum_is_negative references delta = is_negative delta && nat_lt references (falls_by delta)

abbrev pub sum_of : ℕ → ℕ → ℕ
sum_of references delta = if is_negative delta then references - falls_by delta else references + delta

-- minus one
abbrev pub minus_one : ℕ
minus_one = 2 ^ 32 - 1

abbrev pub is_none_or_minus_one : ℕ → Bool
is_none_or_minus_one delta = delta == 0 || delta == minus_one

-- the greatest number of references
abbrev pub bound_of : ℕ → ℕ
bound_of n = if is_right n right.Send then MAX_SEND_REFERENCES else MAX_DEAD_REFERENCES

-- the tests of a delta: a receive right, a set and a send-once right can only stay or go
abbrev pub tests_of_delta : ℕ → ℕ → ℕ → Tests
tests_of_delta n references delta =
    if is_right n right.Send || is_right n right.DeadName
    then (sum_is_negative references delta, InvalidValue) ∷
    (nat_lt (bound_of n) (sum_of references delta), UrefsOverflow) ∷ []
    else (not (is_none_or_minus_one delta), InvalidValue) ∷ []

-- The tests of a right that is copied in: copy in takes it, and its port lives. Then come the tests `of_taken` of the
-- state after that, by what was taken and the port's serial.
abbrev pub tests_of_taken : KernReturn → Option Taken → (Taken → ℕ → Tests) → Tests
tests_of_taken code None of_taken = always_failing code
tests_of_taken code (Some taken) of_taken =
    elim (live_port taken.right.port) as (λ _. Tests)
    [ None ↦ always_failing code | Some serial ↦ of_taken taken serial ]

abbrev pub tests_of_copy_in : Ipc → ℕ → ℕ → Option Disposition → KernReturn → (Taken → ℕ → Tests) → Tests
tests_of_copy_in state space name None code of_taken = always_failing InvalidValue
tests_of_copy_in state space name (Some disposition) code of_taken =
    tests_of_taken code (copy_in state space name disposition) of_taken

abbrev pub names_in : Ipc → ℕ → Names
names_in state space = elim (finmap.get state.spaces space) as (λ _. Names) [ None ↦ finmap.empty | Some names ↦ names ]

-- the port whose receive right an entry holds is a member of a set
abbrev pub is_in_some_set : Ipc → Entry → Bool
is_in_some_set state entry =
    elim (option_and_then (λ serial. finmap.get state.ports serial) (received_port entry)) as (λ _. Bool)
    [ None ↦ false | Some port ↦ is_some port.set ]

-- the port stands under another name of the space, by a send or receive right
abbrev pub stands_elsewhere : Names → ℕ → ℕ → Bool
stands_elsewhere names name serial =
    list_any (λ e. is_number (port_held e.1) serial && not (e.0 == name)) (finmap.entries names)

-- a name is in use for something that this right can't be merged with: a send-once right merges with nothing, and a
-- send or receive right only with other rights to its own port
abbrev pub is_taken_otherwise : RightKind → ℕ → Option Entry → Bool
is_taken_otherwise kind serial None = false
is_taken_otherwise kind.SendOnce serial (Some entry) = true
is_taken_otherwise kind.Send serial (Some entry) = not (is_number (port_held entry) serial)
is_taken_otherwise kind.Receive serial (Some entry) = not (is_number (port_held entry) serial)

abbrev pub passes_bound : RightKind → Option Entry → Bool
passes_bound kind None = false
passes_bound kind.Send (Some entry) = nat_le MAX_SEND_REFERENCES (send_references entry)
passes_bound kind.SendOnce (Some entry) = false
passes_bound kind.Receive (Some entry) = false

abbrev pub is_send_once_kind : RightKind → Bool
is_send_once_kind kind.Receive = false
is_send_once_kind kind.Send = false
is_send_once_kind kind.SendOnce = true

abbrev pub tests_of_insert : ℕ → ℕ → Taken → ℕ → Tests
tests_of_insert space name taken serial =
    let names : Names = names_in taken.state space in
    (not (is_send_once_kind taken.right.kind) && stands_elsewhere names name serial, RightExists)
    ∷ (is_taken_otherwise taken.right.kind serial (finmap.get names name), NameExists)
    ∷ (passes_bound taken.right.kind (finmap.get names name), UrefsOverflow)
    ∷ (not (is_in_use names name) && names_are_used_up names, NoSpace)
    ∷ []

-- the tests of a right that is extracted, which may need a new name
abbrev pub tests_of_extract : ℕ → Taken → ℕ → Tests
tests_of_extract space taken serial =
    let names : Names = names_in taken.state space in
    (nat_lt MAX_NAMES (finmap.len names + names_needed names [] (taken.right ∷ [])), NoSpace) ∷ []

-- MACH_NOTIFY_PORT_DESTROYED, _NO_SENDERS and _DEAD_NAME can be asked for
abbrev pub is_variant : ℕ → Bool
is_variant variant =
    variant == MACH_NOTIFY_PORT_DESTROYED || variant == MACH_NOTIFY_NO_SENDERS || variant == MACH_NOTIFY_DEAD_NAME

-- the target of the request that a variant asks of an entry, as it stands now
abbrev pub target_of_port : Ipc → ℕ → Option ℕ → Option ℕ
target_of_port state variant None = None
target_of_port state variant (Some serial) =
    option_and_then (λ (port : PortState). if variant == MACH_NOTIFY_PORT_DESTROYED then port.port_destroyed_target
    else port.no_senders_target) (finmap.get state.ports serial)

abbrev pub target_now : Ipc → ℕ → Entry → Option ℕ
target_now state variant entry =
    if variant == MACH_NOTIFY_DEAD_NAME then request_of entry else target_of_port state variant (received_port entry)

abbrev pub target_under : Ipc → Names → ℕ → ℕ → Option ℕ
target_under state names variant name = option_and_then (target_now state variant) (finmap.get names name)

-- the tests of a request of this variant
abbrev pub tests_of_variant : Names → ℕ → ℕ → ℕ → Bool → Tests
tests_of_variant names name variant sync cancels =
    if variant == MACH_NOTIFY_PORT_DESTROYED
    then (not (sync == 0), InvalidValue) ∷ (not (name_is has_receive names name), InvalidRight) ∷ []
    else if variant == MACH_NOTIFY_NO_SENDERS then (not (name_is has_receive names name), InvalidRight) ∷ []
    else (name_is is_set names name, InvalidRight)
    ∷ (name_is is_dead names name && (sync == 0 || cancels), InvalidArgument)
    ∷ (name_is (λ entry. nat_le MAX_DEAD_REFERENCES (dead_references entry)) names name, UrefsOverflow)
    ∷ []

abbrev pub tests_of_request : Ipc → ℕ → ℕ → ℕ → ℕ → Bool → Tests
tests_of_request state space name variant sync cancels =
    let names : Names = names_in state space in
    ((is_no_name names name, InvalidName) ∷ []) ++ (tests_of_variant names name variant sync cancels
    ++ ((is_some (target_under state names variant name) && names_are_used_up names, NoSpace) ∷ []))

-- a notification's disposition makes or moves a send-once right
abbrev pub notify_disposition : ℕ → Option Disposition
notify_disposition n =
    if n == number_of_disposition MoveSendOnce then Some MoveSendOnce else if n == number_of_disposition MakeSendOnce
    then Some MakeSendOnce else None

-- the tests of a request whose target was copied in
abbrev pub tests_of_targeted : ℕ → ℕ → ℕ → ℕ → Taken → ℕ → Tests
tests_of_targeted space name variant sync taken serial = tests_of_request taken.state space name variant sync false

abbrev pub tests_of_notify : Ipc → ℕ → ℕ → ℕ → ℕ → ℕ → ℕ → Tests
tests_of_notify state space name variant sync notify_name disposition =
    if notify_name == MACH_PORT_NULL then tests_of_request state space name variant sync true
    else tests_of_copy_in state space notify_name (notify_disposition disposition) InvalidCapability
    (tests_of_targeted space name variant sync)

-- the tests of a new space, once its right was copied in
abbrev pub tests_of_new_space : Ipc → Taken → ℕ → Tests
tests_of_new_space state taken serial = (nat_le MAX_SPACES (finmap.len state.spaces), ResourceShortage) ∷ []

-- The tests of a call, in the order in which they are made.
unfoldable pub tests_of : Ipc → ℕ → Names → PlainCall → Tests
tests_of state space names (call.Attach other) = (not (is_some (finmap.get state.spaces other)), InvalidTask) ∷ []
tests_of state space names call.Names = []
tests_of state space names (call.Type name) = (is_no_name names name, InvalidName) ∷ []
tests_of state space names (call.Rename from to) =
    (is_no_name names from, InvalidName) ∷ (is_null_or_dead to, InvalidValue) ∷ (is_in_use names to, NameExists) ∷ []
tests_of state space names (call.AllocateName wanted name) =
    (is_null_or_dead name, InvalidValue) ∷ (not (is_allocatable wanted), InvalidValue) ∷
    (is_in_use names name, NameExists)
    ∷ (names_are_used_up names, NoSpace) ∷
    (is_right wanted right.Receive && ports_are_used_up state, ResourceShortage) ∷ []
tests_of state space names (call.Allocate wanted) =
    (not (is_allocatable wanted), InvalidValue) ∷ (names_are_used_up names, NoSpace) ∷
    (is_right wanted right.Receive && ports_are_used_up state, ResourceShortage) ∷ []
tests_of state space names (call.Destroy name) = (is_no_name names name, InvalidName) ∷ []
tests_of state space names (call.Deallocate name) =
    (is_no_name names name, InvalidName)
    ∷ (name_is (λ entry. is_set entry || (has_receive entry && send_references entry == 0)) names name, InvalidRight) ∷
    []
tests_of state space names (call.GetRefs name wanted) =
    (is_no_right wanted, InvalidValue) ∷ (is_no_name names name, InvalidName) ∷ []
tests_of state space names (call.ModRefs name wanted delta) =
    (is_no_right wanted, InvalidValue) ∷ (is_no_name names name, InvalidName) ∷
    (references_under names name wanted == 0, InvalidRight)
    ∷ tests_of_delta wanted (references_under names name wanted) delta
tests_of state space names (call.SetQlimit name limit) =
    (nat_lt MAX_QUEUE_LIMIT limit, InvalidValue) ∷ (is_no_name names name, InvalidName) ∷
    (not (name_is has_receive names name), InvalidRight) ∷ []
tests_of state space names (call.SetMscount name count) =
    (is_no_name names name, InvalidName) ∷ (not (name_is has_receive names name), InvalidRight) ∷ []
tests_of state space names (call.SetSeqno name seqno) =
    (is_no_name names name, InvalidName) ∷ (not (name_is has_receive names name), InvalidRight) ∷ []
tests_of state space names (call.GetReceiveStatus name) =
    (is_no_name names name, InvalidName) ∷ (not (name_is has_receive names name), InvalidRight) ∷ []
tests_of state space names (call.GetSetStatus name) =
    (is_no_name names name, InvalidName) ∷ (not (name_is is_set names name), InvalidRight) ∷ []
tests_of state space names (call.MoveMember member after) =
    (is_no_name names member, InvalidName) ∷ (not (name_is has_receive names member), InvalidRight)
    ∷ (if after == MACH_PORT_NULL
    then (not (name_is (is_in_some_set state) names member), NotInSet) ∷ []
    else (is_no_name names after, InvalidName) ∷ (not (name_is is_set names after), InvalidRight) ∷ [])
tests_of state space names (call.RequestNotification name variant sync notify_name disposition) =
    (not (is_variant variant), InvalidValue)
    ∷ (not (notify_name == MACH_PORT_NULL) && is_none (notify_disposition disposition), InvalidValue)
    ∷ tests_of_notify state space name variant sync notify_name disposition
tests_of state space names (call.InsertRight name right_name disposition) =
    (is_null_or_dead name, InvalidValue) ∷ tests_of_copy_in state space right_name
    (disposition_of disposition) InvalidCapability (tests_of_insert space name)
tests_of state space names (call.ExtractRight name disposition) =
    (is_none (disposition_of disposition), InvalidValue) ∷ (is_no_name names name, InvalidName)
    ∷ tests_of_copy_in state space name (disposition_of disposition) InvalidRight (tests_of_extract space)
tests_of state space names (call.Send message) = []
tests_of state space names (call.Receive limit large name waited) = []
tests_of state space names (call.SpaceCreate name disposition) =
    (is_none (disposition_of disposition), InvalidValue) ∷ (is_no_name names name, InvalidName)
    ∷ tests_of_copy_in state space name (disposition_of disposition) InvalidRight
    (tests_of_new_space state)
tests_of state space names call.SpaceDestroy = (space == FIRST_SPACE, Failure) ∷ []
