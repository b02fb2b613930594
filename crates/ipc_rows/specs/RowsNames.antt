-- Worked examples of names and references: which calls are refused, and what the others leave.
use Rattle.std.specs.Prelude.{◌≡◌, ℕ, ◌-◌, ◌^◌, true, false, List, [], ◌∷◌, Option, None, Some, option_map, refl}
use Rattle.std.specs.FinMap as finmap
use Rattle.codes.specs.declared.kern_return.KernReturn.{KernReturn}
use Rattle.codes.specs.declared.kern_return.KernReturn.TheVariants.{InvalidName, InvalidValue, InvalidRight, NameExists, RightExists, NotInSet, UrefsOverflow, InvalidTask, InvalidArgument, Failure}
use Rattle.ipc_model.specs.declared.plain_call.PlainCall.{PlainCall}
use Rattle.ipc_model.specs.declared.plain_call.PlainCall.TheVariants as call
use Rattle.ipc_model.specs.declared.entry.Entry.{Entry}
use Rattle.ipc_model.specs.declared.entry.Entry.TheVariants.{Port, SendOnce, Set, Dead}
use Rattle.ipc_model.specs.declared.message.RightKind.TheVariants as kind
use Rattle.ipc_model.specs.declared.message.PortInMessage.TheVariants.{Live}
use Rattle.ipc_model.specs.declared.port.PortState.{PortState}
use Rattle.ipc_model.specs.calls.Actions.{modified, destroyed, renamed, Action, request_set_under}
use Rattle.ipc_model.specs.rights.CopyIn.{copy_in, taken_keeping}
use Rattle.ipc_model.specs.rights.CopyOut.{names_after}
use Rattle.ipc_model.specs.rights.Dispositions.{CopySend, MakeSend, MakeSendOnce}
use Rattle.ipc_model.specs.state.Placed.{placed, send_once_count}
use Rattle.ipc_model.specs.calls.PortCalls.{tests_of, references_of, target_under}
use Rattle.ipc_rows.specs.RowRules.{rows}
use Rattle.ipc_rows.specs.RowStates.{rights_to, names_of, in_space_1, live}
use Rattle.ipc_model.specs.state.Ipc.{Ipc, new_port, type_of, entry_at, with_port, members_of}
use Rattle.ipc_model.specs.calls.Tests.{first_failing}

-- the code with which a call from space 1 is refused, if these are its names and ports
abbrev pub refusal : List (ℕ × Entry) → List (ℕ × PortState) → PlainCall → Option KernReturn
refusal entries ports c = first_failing (tests_of (in_space_1 entries ports) 1 (names_of entries) c)

-- Names in use are known, others aren't.
abbrev pub a_port : List (ℕ × Entry)
a_port = (0x100, rights_to 1 true 0) ∷ []

abbrev pub its_port : List (ℕ × PortState)
its_port = (1, new_port) ∷ []

pub type-known : refusal a_port its_port (call.Type 0x100) ≡ None
unfolding tests_of
type-known = simp rows

pub type-unknown : refusal a_port its_port (call.Type 0x1ff) ≡ Some InvalidName
unfolding tests_of
type-unknown = simp rows

pub type-receive : type_of (rights_to 1 true 0) ≡ 0x20000
type-receive = refl

pub type-both : type_of (rights_to 1 true 1) ≡ 0x30000
type-both = refl

pub type-send : type_of (rights_to 1 false 1) ≡ 0x10000
type-send = refl

pub type-set : type_of Set ≡ 0x80000
type-set = refl

pub type-dead : type_of (Dead 1) ≡ 0x100000
type-dead = refl

pub type-once : type_of (SendOnce 1 None) ≡ 0x40000
type-once = refl

-- a new name with only a send right can't be allocated
pub allocate-other : refusal [] [] (call.Allocate 2) ≡ Some InvalidValue
unfolding tests_of
allocate-other = refl

pub allocate-first : refusal [] [] (call.Allocate 1) ≡ None
unfolding tests_of
allocate-first = simp rows

-- a name of the task's choice, once
pub allocate_name-free : refusal [] [] (call.AllocateName 1 0x200) ≡ None
unfolding tests_of
allocate_name-free = simp rows

pub allocate_name-twice : refusal ((0x200, rights_to 1 true 0) ∷ []) its_port (call.AllocateName 1 0x200)
    ≡ Some NameExists
unfolding tests_of
allocate_name-twice = simp rows

pub allocate_name-null : refusal [] [] (call.AllocateName 1 0) ≡ Some InvalidValue
unfolding tests_of
allocate_name-null = refl

-- a name that was changed is free, and the new one stands for the same
pub rename-passes : refusal ((0x200, rights_to 1 true 0) ∷ []) its_port (call.Rename 0x200 0x300) ≡ None
unfolding tests_of
rename-passes = simp rows

abbrev pub renamed_state : Ipc
renamed_state =
    renamed (in_space_1 ((0x200, rights_to 1 true 0) ∷ []) its_port) 1
    (names_of ((0x200, rights_to 1 true 0) ∷ [])) 0x200 0x300 (rights_to 1 true 0)

pub rename-old : entry_at renamed_state 1 0x200 ≡ None
rename-old = simp rows

pub rename-new : entry_at renamed_state 1 0x300 ≡ Some (rights_to 1 true 0)
rename-new = simp rows

-- A send right that is made from the receive right stands under the same name.
pub insert-passes : refusal a_port its_port (call.InsertRight 0x100 0x100 20) ≡ None
unfolding tests_of copy_in
insert-passes = simp rows

pub insert-made : copy_in (in_space_1 a_port its_port) 1 0x100 MakeSend
    ≡ Some (taken_keeping (with_port (in_space_1 a_port its_port) 1 (λ port. record port { make_send_count = 1 }))
    (live kind.Send 1))
unfolding copy_in
insert-made = simp rows

pub insert-named : finmap.get (names_after (names_of a_port) kind.Send (Live 1) 0x100) 0x100 ≡ Some (rights_to 1 true 1)
insert-named = simp rows

-- the same port can't stand under a second name by a send right
pub insert-elsewhere : refusal ((0x300, rights_to 1 true 3) ∷ []) its_port (call.InsertRight 0x301 0x300 20)
    ≡ Some RightExists
unfolding tests_of copy_in
insert-elsewhere = simp rows

-- References change by a delta, and not below zero.
pub references-two_more : refusal ((0x300, rights_to 1 true 1) ∷ []) its_port (call.ModRefs 0x300 0 2) ≡ None
unfolding tests_of
references-two_more = simp rows

pub references-three : references_of 0 (rights_to 1 true 3) ≡ 3
references-three = refl

pub references-four_less : refusal ((0x300, rights_to 1 true 3) ∷ []) its_port (call.ModRefs 0x300 0 (2 ^ 32 - 4))
    ≡ Some InvalidValue
unfolding tests_of
references-four_less = simp rows

abbrev pub two_more : Action
two_more =
    modified (in_space_1 ((0x300, rights_to 1 true 1) ∷ []) its_port) 1
    (names_of ((0x300, rights_to 1 true 1) ∷ [])) 0x300 (rights_to 1 true 1) 0 2

pub references-changed : entry_at two_more.state 1 0x300 ≡ Some (rights_to 1 true 3)
references-changed = simp rows

-- an extracted right comes back under the name of its port, as one reference more
pub extract-passes : refusal ((0x300, rights_to 1 true 3) ∷ []) its_port (call.ExtractRight 0x300 19) ≡ None
unfolding tests_of copy_in
extract-passes = simp rows

pub extract-copied : copy_in (in_space_1 ((0x300, rights_to 1 true 3) ∷ []) its_port) 1 0x300 CopySend
    ≡ Some (taken_keeping (in_space_1 ((0x300, rights_to 1 true 3) ∷ []) its_port) (live kind.Send 1))
unfolding copy_in
extract-copied = simp rows

pub extract-named : finmap.get
    (names_after (names_of ((0x300, rights_to 1 true 3) ∷ [])) kind.Send (Live 1) 0x300) 0x300
    ≡ Some (rights_to 1 true 4)
extract-named = simp rows

-- a send-once right gets a name of its own, and its port a send-once right
pub extract-once : finmap.get (names_after (names_of a_port) kind.SendOnce (Live 1) 0x101) 0x101
    ≡ Some (SendOnce 1 None)
extract-once = simp rows

pub extract-once_counted : send_once_count
    (in_space_1 ((0x100, rights_to 1 true 0) ∷ (0x101, SendOnce 1 None) ∷ []) its_port) 1 ≡ 1
unfolding placed
extract-once_counted = simp rows

-- A dead name has only references as a dead name.
pub dead-references : references_of 4 (Dead 4) ≡ 4
dead-references = refl

pub dead-no_send : references_of 0 (Dead 4) ≡ 0
dead-no_send = refl

pub dead-get_refs : refusal ((0x300, Dead 4) ∷ []) [] (call.GetRefs 0x300 0) ≡ None
unfolding tests_of
dead-get_refs = simp rows

-- one send reference plus 65,533 is the most that there may be
pub references-most : refusal ((0x100, rights_to 1 true 1) ∷ []) its_port (call.ModRefs 0x100 0 65533) ≡ None
unfolding tests_of
references-most = simp rows

pub references-past : refusal ((0x100, rights_to 1 true 65534) ∷ []) its_port (call.ModRefs 0x100 0 1)
    ≡ Some UrefsOverflow
unfolding tests_of
references-past = simp rows

-- a send right that is received then leaves them as they are
pub references-stay : finmap.get
    (names_after (names_of ((0x100, rights_to 1 true 65534) ∷ [])) kind.Send (Live 1) 0x100) 0x100
    ≡ Some (rights_to 1 true 65534)
references-stay = simp rows

-- A port m and a set s: the port becomes the set's member.
abbrev pub with_set : List (ℕ × Entry)
with_set = (0x100, rights_to 1 true 0) ∷ (0x101, Set) ∷ []

abbrev pub member_port : List (ℕ × PortState)
member_port = (1, record new_port { set = Some 0x101 }) ∷ []

pub member-moves : refusal with_set its_port (call.MoveMember 0x100 0x101) ≡ None
unfolding tests_of
member-moves = simp rows

pub member-listed : members_of (in_space_1 with_set member_port) (names_of with_set) 0x101 ≡ 0x100 ∷ []
member-listed = simp rows

pub member-no_set : refusal with_set member_port (call.GetSetStatus 0x100) ≡ Some InvalidRight
unfolding tests_of
member-no_set = simp rows

pub member-left_out : refusal a_port its_port (call.MoveMember 0x100 0) ≡ Some NotInSet
unfolding tests_of
member-left_out = simp rows

pub member-takes_out : refusal with_set member_port (call.MoveMember 0x100 0) ≡ None
unfolding tests_of
member-takes_out = simp rows

-- the set goes, and its member is in none
abbrev pub set_destroyed : Action
set_destroyed = destroyed (in_space_1 with_set member_port) 1 (names_of with_set) 0x101 Set

pub set-name_gone : entry_at set_destroyed.state 1 0x101 ≡ None
set-name_gone = simp rows

pub set-member_out : option_map (λ (port : PortState). port.set) (finmap.get set_destroyed.state.ports 1) ≡ Some None
set-member_out = simp rows

-- A space is made with a send right; there is no space 9; space 1 stays.
pub space-made : refusal a_port its_port (call.SpaceCreate 0x100 20) ≡ None
unfolding tests_of copy_in
space-made = simp rows

pub space-named : finmap.get (names_after finmap.empty kind.Send (Live 1) 0x100) 0x100 ≡ Some (rights_to 1 false 1)
space-named = simp rows

pub space-unknown : refusal a_port its_port (call.Attach 9) ≡ Some InvalidTask
unfolding tests_of
space-unknown = simp rows

pub space-first_stays : refusal a_port its_port call.SpaceDestroy ≡ Some Failure
unfolding tests_of
space-first_stays = refl

-- a queue's limit is 64 at most; a name that isn't in use can't be destroyed
pub limit-too_great : refusal a_port its_port (call.SetQlimit 0x100 65) ≡ Some InvalidValue
unfolding tests_of
limit-too_great = refl

pub limit-greatest : refusal a_port its_port (call.SetQlimit 0x100 64) ≡ None
unfolding tests_of
limit-greatest = simp rows

pub destroy-unknown : refusal a_port its_port (call.Destroy 0x200) ≡ Some InvalidName
unfolding tests_of
destroy-unknown = simp rows

-- Requests for notifications: of three variants, without a sync for the port-destroyed one.
pub request-passes : refusal a_port its_port (call.RequestNotification 0x100 72 0 0x100 21) ≡ None
unfolding tests_of copy_in
request-passes = simp rows

pub request-no_variant : refusal a_port its_port (call.RequestNotification 0x100 71 0 0x100 21) ≡ Some InvalidValue
unfolding tests_of copy_in
request-no_variant = refl

pub request-sync : refusal a_port its_port (call.RequestNotification 0x100 69 1 0x100 21) ≡ Some InvalidValue
unfolding tests_of copy_in
request-sync = simp rows

-- of a dead name a notice is sent at once, which sync 0 refuses
pub request-dead_name : refusal ((0x100, rights_to 1 true 0) ∷ (0x101, Dead 1) ∷ []) its_port
    (call.RequestNotification 0x101 72 0 0x100 21) ≡ Some InvalidArgument
unfolding tests_of copy_in
request-dead_name = simp rows

pub request-dead_name_at_bound : refusal ((0x100, rights_to 1 true 0) ∷ (0x101, Dead 65535) ∷ []) its_port
    (call.RequestNotification 0x101 72 1 0x100 21) ≡ Some UrefsOverflow
unfolding tests_of copy_in
request-dead_name_at_bound = simp rows

-- the request is kept with the name, and shows in its type
abbrev pub requested : Entry
requested = Port (record { port = 1; receive = true; send = 0; dead_name_target = Some 1 })

pub request-kept : entry_at (request_set_under (in_space_1 a_port its_port) 1 0x100 72 0 (Some 1)).0 1 0x100
    ≡ Some requested
request-kept = simp rows

pub request-target : copy_in (in_space_1 a_port its_port) 1 0x100 MakeSendOnce
    ≡ Some (taken_keeping (in_space_1 a_port its_port) (live kind.SendOnce 1))
unfolding copy_in
request-target = simp rows

pub request-type : type_of requested ≡ 0x80020000
request-type = refl

-- a second request finds the first one's target, which comes back under a new name
pub request-former : target_under (in_space_1 ((0x100, requested) ∷ []) its_port)
    (names_of ((0x100, requested) ∷ [])) 72 0x100 ≡ Some 1
request-former = simp rows

pub request-counted : send_once_count (in_space_1 ((0x100, requested) ∷ (0x101, SendOnce 1 None) ∷ []) its_port) 1 ≡ 2
unfolding placed
request-counted = simp rows

-- no request is kept where the target is none
pub request-cancelled : entry_at
    (request_set_under (in_space_1 ((0x100, requested) ∷ []) its_port) 1 0x100 72 0 None).0 1 0x100
    ≡ Some (rights_to 1 true 0)
request-cancelled = simp rows
