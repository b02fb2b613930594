-- Worked examples of rules that are easily misread.
use Rattle.std.specs.Prelude.{◌≡◌, ℕ, true, false, List, [], ◌∷◌, None, Some, refl}
use Rattle.codes.specs.declared.kern_return.KernReturn.TheVariants.{InvalidName, InvalidTask, UrefsOverflow, RcvTooLarge}
use Rattle.ipc_model.specs.declared.plain_call.PlainCall.TheVariants as call
use Rattle.ipc_model.specs.declared.plain_reply.PlainReply.TheVariants as reply
use Rattle.ipc_model.specs.declared.entry.Entry.{Entry}
use Rattle.ipc_model.specs.declared.entry.Entry.TheVariants.{Port, SendOnce, Set, Dead}
use Rattle.ipc_model.specs.declared.message.RightKind.TheVariants as kind
use Rattle.ipc_model.specs.calls.Actions.{space_destroyed, set_named, port_request_set}
use Rattle.ipc_model.specs.rights.CopyIn.{copy_in}
use Rattle.ipc_model.specs.effects.Effects.{release, notify, effect, entry_after_death}
use Rattle.ipc_model.specs.state.Circular.{is_circular}
use Rattle.ipc_model.specs.messages.Notices.{notice_message}
use Rattle.ipc_model.specs.messages.Notices as notice
use Rattle.ipc_model.specs.state.Placed.{placed}
use Rattle.ipc_model.specs.messages.Receiving.{sources}
use Rattle.ipc_model.specs.calls.PortCalls.{tests_of, target_of_port}
use Rattle.ipc_rows.specs.RowRules.{rows}
use Rattle.ipc_rows.specs.RowStates.{rights_to, names_of, in_space_1, plain, queue_of, message_count}
use Rattle.ipc_model.specs.messages.Sending.{Ready, ports_in, sent}
use Rattle.ipc_model.specs.state.Ipc.{Ipc, new_port}
use Rattle.ipc_model.specs.calls.PlainStep.{refused, has_record}
use Rattle.ipc_model.specs.calls.Tests.{first_failing}

-- a caller whose space is gone: a send has its results in the refusal, another call has none
pub gone-send : refused (call.Send []) InvalidTask ≡ reply.Message InvalidTask 0 0 []
gone-send = refl

pub gone-attach : refused (call.Attach 1) InvalidTask ≡ reply.Refused 0 InvalidTask
gone-attach = refl

-- MACH_PORT_NULL and MACH_PORT_DEAD count towards the ports of a body
pub null-counts : ports_in
    ((record {
      type_name = 19;
      bits = 32;
      number = 2;
      is_long = false;
      content = 0 ∷ 0 ∷ 0 ∷ 0 ∷ 255 ∷ 255 ∷ 255 ∷ 255 ∷ [];
    }) ∷ []) ≡ 2
null-counts = refl

-- a space that goes: names in ascending order, and for one name the send right before the receive right, and then its
-- notice
abbrev pub two_names : List (ℕ × Entry)
two_names =
    (0x100, Port (record { port = 1; receive = true; send = 2; dead_name_target = Some 3 })) ∷
    (0x101, SendOnce 2 None) ∷ []

pub destroyed-effects : (space_destroyed (in_space_1 two_names []) 2 (names_of two_names)).effects
    ≡ release kind.Send 1 ∷ release kind.Receive 1 ∷ notify 3 (notice.PortDeleted 0x100) ∷ release kind.SendOnce 2 ∷ []
destroyed-effects = simp rows refl

-- a name that copy in has emptied isn't in use any more: request_notification finds no name, insert_right may use it
-- again
abbrev pub one_send_once : Ipc
one_send_once = in_space_1 ((0x100, SendOnce 1 None) ∷ []) ((1, new_port) ∷ [])

pub emptied-request : first_failing
    (tests_of one_send_once 1 (names_of ((0x100, SendOnce 1 None) ∷ [])) (call.RequestNotification 0x100 72 0 0x100 18))
    ≡ Some InvalidName
unfolding tests_of copy_in
emptied-request = simp rows refl

pub emptied-insert : first_failing
    (tests_of one_send_once 1 (names_of ((0x100, SendOnce 1 None) ∷ [])) (call.InsertRight 0x100 0x100 18)) ≡ None
unfolding tests_of copy_in
emptied-insert = simp rows refl

-- a dead name with 65,535 references takes no notification that is sent at once
abbrev pub crowded_dead : Ipc
crowded_dead = in_space_1 ((0x100, rights_to 1 true 0) ∷ (0x101, Dead 65535) ∷ []) ((1, new_port) ∷ [])

pub crowded-request : first_failing
    (tests_of crowded_dead 1 (names_of ((0x100, rights_to 1 true 0) ∷ (0x101, Dead 65535) ∷ []))
    (call.RequestNotification 0x101 72 1 0x100 21)) ≡ Some UrefsOverflow
unfolding tests_of copy_in
crowded-request = simp rows refl

-- which answered calls have a record: mod_refs by 0 and set_qlimit to the same limit do, reads don't; of receives that
-- report a message that is too large, only those that destroyed it
pub kept-records : (has_record (call.ModRefs 0x100 0 0) (reply.Done 9) ≡ true)
    × (has_record (call.SetQlimit 0x100 5) (reply.Done 10) ≡ true)
    × (has_record (call.GetRefs 0x100 0) (reply.References 1) ≡ false)
    × (has_record (call.Type 0x100) (reply.Type 0x20000) ≡ false) × (has_record (call.Names) (reply.Names []) ≡ false)
    × (has_record (call.Allocate 1) (reply.Refused 5 InvalidName) ≡ false)
    × (has_record (call.Receive 24 false 0x100 false) (reply.Message RcvTooLarge 28 0x100 []) ≡ true)
    × (has_record (call.Receive 24 true 0x100 false) (reply.Message RcvTooLarge 28 0x100 []) ≡ false)
kept-records = (refl, refl, refl, refl, refl, refl, refl, refl)

-- MACH_PORT_NULL as a set takes a member out
pub out-of-set : set_named 0 ≡ None
out-of-set = refl

-- a name whose port dies gets the further reference for its dead-name request, even if the notice would go to that port
-- itself
pub own_target-dead : entry_after_death 1
    (Port (record { port = 1; receive = false; send = 1; dead_name_target = Some 1 })) ≡ Dead 2
own_target-dead = refl

-- or to a port that died before the notice's turn, where the notice is dropped
pub dropped-notice : effect crowded_dead (notify 2 (notice.DeadName 0x100)) ≡ (crowded_dead, [])
unfolding effect
dropped-notice = simp rows

-- but where the target died first, the request has gone, and there is no further reference
pub former_target-dead : entry_after_death 1
    (entry_after_death 2 (Port (record { port = 1; receive = false; send = 1; dead_name_target = Some 2 }))) ≡ Dead 1
former_target-dead = refl

-- a no-senders request is kept where fewer send rights were made than its sync says; the sync itself is forgotten
abbrev pub sendless : Ipc
sendless =
    in_space_1 ((0x100, rights_to 1 true 0) ∷ (0x101, rights_to 2 true 0) ∷ [])
    ((1, record new_port { make_send_count = 3 }) ∷ (2, new_port) ∷ [])

abbrev pub requesting : Ipc
requesting =
    in_space_1 ((0x100, rights_to 1 true 0) ∷ (0x101, rights_to 2 true 0) ∷ [])
    ((1, record new_port { make_send_count = 3; no_senders_target = Some 2 }) ∷ (2, new_port) ∷ [])

pub kept-request : target_of_port (port_request_set sendless 70 9 1 (Some 2)).0 70 (Some 1) ≡ Some 2
unfolding placed
kept-request = simp rows

-- and the first release that leaves no send right sets it off, with the count as it is then
pub first-release : queue_of (effect requesting (release kind.Send 1)).0 2
    ≡ Some (notice_message (notice.NoSenders 3) ∷ [])
unfolding effect placed
first-release = simp rows

-- a message is queued, and only then the notices of its copy in go out
abbrev pub with_notice : Ready
with_notice =
    record {
      message = plain kind.Send 7 [];
      port = 1;
      state = sendless;
      notices = notify 2 (notice.PortDeleted 0x102) ∷ [];
    }

pub queued-first : (message_count (sent with_notice).0 1 ≡ Some 1)
    × ((sent with_notice).1 ≡ notify 2 (notice.PortDeleted 0x102) ∷ [])
unfolding sent is_circular
queued-first = (simp rows, refl)

-- a receive from a set may take the oldest message of any member: every member is a source
abbrev pub two_members : Ipc
two_members =
    in_space_1 ((0x100, rights_to 1 true 0) ∷ (0x101, rights_to 2 true 0) ∷ (0x102, Set) ∷ [])
    ((1, record new_port { set = Some 0x102 }) ∷ (2, record new_port { set = Some 0x102 }) ∷ [])

pub each-member : sources two_members
    (names_of ((0x100, rights_to 1 true 0) ∷ (0x101, rights_to 2 true 0) ∷ (0x102, Set) ∷ [])) 0x102 (Some Set)
    ≡ Some (0x100 ∷ 0x101 ∷ [])
each-member = simp rows
