-- What each plain call may answer, and the state of names and ports that it leaves.
-- (Kernel Interfaces, mach_msg and "Port Manipulation".)
use Rattle.std.specs.Prelude.{◌≡◌, ℕ, Bool, true, false, ◌&&◌, ◌||◌, not, List, Option, None, Some, Result, IfOk, MatchResult}
use Rattle.std.specs.FinMap as finmap
use Rattle.codes.specs.declared.call_number.TheConstants.{ATTACH, MACH_PORT_NAMES, MACH_PORT_TYPE, MACH_PORT_RENAME, MACH_PORT_ALLOCATE_NAME, MACH_PORT_ALLOCATE, MACH_PORT_DESTROY, MACH_PORT_DEALLOCATE, MACH_PORT_GET_REFS, MACH_PORT_MOD_REFS, MACH_PORT_SET_QLIMIT, MACH_PORT_SET_MSCOUNT, MACH_PORT_SET_SEQNO, MACH_PORT_GET_RECEIVE_STATUS, MACH_PORT_GET_SET_STATUS, MACH_PORT_MOVE_MEMBER, MACH_PORT_REQUEST_NOTIFICATION, MACH_PORT_INSERT_RIGHT, MACH_PORT_EXTRACT_RIGHT, MACH_MSG, SPACE_CREATE, SPACE_DESTROY}
use Rattle.codes.specs.declared.kern_return.KernReturn.{KernReturn}
use Rattle.codes.specs.declared.kern_return.KernReturn.TheVariants.{Success, InvalidTask, RcvTooLarge}
use Rattle.codes.specs.declared.name.TheConstants.{MACH_PORT_NULL}
use Rattle.ipc_model.specs.declared.plain_call.PlainCall.{PlainCall}
use Rattle.ipc_model.specs.declared.plain_call.PlainCall.TheVariants as call
use Rattle.ipc_model.specs.declared.plain_reply.PlainReply.{PlainReply}
use Rattle.ipc_model.specs.declared.plain_reply.PlainReply.TheVariants as reply
use Rattle.ipc_model.specs.calls.Actions.{Done}
use Rattle.ipc_model.specs.effects.Effects.{Effect, Settles, state_after, added}
use Rattle.ipc_model.specs.calls.PortCalls.{names_in, tests_of}
use Rattle.ipc_model.specs.messages.Receiving.{Receives, without_message}
use Rattle.ipc_model.specs.messages.Sending.{Ready, ready_to_send, sent}
use Rattle.ipc_model.specs.state.Ipc.{Ipc, Names}
use Rattle.ipc_model.specs.calls.Tests.{RefusedOrDone, first_failing}
pub use Rattle.ipc_model.specs.calls.Tests.{IsRefusedWith}

-- the number of a call in its frame
abbrev pub number_of_call : PlainCall → ℕ
number_of_call (call.Attach space) = ATTACH
number_of_call call.Names = MACH_PORT_NAMES
number_of_call (call.Type name) = MACH_PORT_TYPE
number_of_call (call.Rename from to) = MACH_PORT_RENAME
number_of_call (call.AllocateName kind name) = MACH_PORT_ALLOCATE_NAME
number_of_call (call.Allocate kind) = MACH_PORT_ALLOCATE
number_of_call (call.Destroy name) = MACH_PORT_DESTROY
number_of_call (call.Deallocate name) = MACH_PORT_DEALLOCATE
number_of_call (call.GetRefs name kind) = MACH_PORT_GET_REFS
number_of_call (call.ModRefs name kind delta) = MACH_PORT_MOD_REFS
number_of_call (call.SetQlimit name limit) = MACH_PORT_SET_QLIMIT
number_of_call (call.SetMscount name count) = MACH_PORT_SET_MSCOUNT
number_of_call (call.SetSeqno name seqno) = MACH_PORT_SET_SEQNO
number_of_call (call.GetReceiveStatus name) = MACH_PORT_GET_RECEIVE_STATUS
number_of_call (call.GetSetStatus name) = MACH_PORT_GET_SET_STATUS
number_of_call (call.MoveMember member after) = MACH_PORT_MOVE_MEMBER
number_of_call (call.RequestNotification name variant sync notify_name disposition) = MACH_PORT_REQUEST_NOTIFICATION
number_of_call (call.InsertRight name right_name disposition) = MACH_PORT_INSERT_RIGHT
number_of_call (call.ExtractRight name disposition) = MACH_PORT_EXTRACT_RIGHT
number_of_call (call.Send message) = MACH_MSG
number_of_call (call.Receive limit large name waited) = MACH_MSG
number_of_call (call.SpaceCreate name disposition) = SPACE_CREATE
number_of_call call.SpaceDestroy = SPACE_DESTROY

-- how a call is refused; mach_msg shows its results in any case
abbrev pub refused : PlainCall → KernReturn → PlainReply
refused (call.Send message) code = without_message code 0 MACH_PORT_NULL
refused (call.Receive limit large name waited) code = without_message code 0 MACH_PORT_NULL
refused c code = reply.Refused (number_of_call c) code

-- the message of a send is queued or destroyed, as `sent` says
abbrev pub IsSent : Ready → PlainReply → Ipc → List Effect → Type 0
IsSent ready answer new effects =
    (answer ≡ without_message Success 0 MACH_PORT_NULL) × (new ≡ state_after (sent ready))
    × (effects ≡ added (sent ready))

-- A send is refused with the code of the first test that fails, or its message is sent.
abbrev pub Sends : Ipc → ℕ → List ℕ → PlainReply → Ipc → List Effect → Type 0
Sends old space message answer new effects =
    MatchResult (ready_to_send old space message) (λ (ready : Ready). IsSent ready answer new effects)
    (λ code. IsRefusedWith (without_message code 0 MACH_PORT_NULL) old answer new effects)

-- A call's own action, without the effects that it sets off: it is refused, or done.
abbrev pub ActsIn : Ipc → ℕ → Names → PlainCall → PlainReply → Ipc → List Effect → Type 0
ActsIn old space names (call.Send message) answer new effects = Sends old space message answer new effects
ActsIn old space names (call.Receive limit large name waited) answer new effects =
    Receives old space names (record { limit = limit; large = large; name = name; waited = waited }) answer new effects
ActsIn old space names c answer new effects =
    RefusedOrDone (first_failing (tests_of old space names c))
    (λ code. IsRefusedWith (reply.Refused (number_of_call c) code) old answer new effects)
    (Done old space names c answer new effects)

-- A call of a task of this space is answered as its own action says, and leaves this state with these effects. An error
-- says nothing: its caller rolls back what was changed.
abbrev pub Acts : {E : Type 0} → Ipc → ℕ → PlainCall → Result PlainReply E → Ipc → List Effect → Type 0
Acts old space c result new effects = IfOk result (λ answer. ActsIn old space (names_in old space) c answer new effects)

-- A caller whose space is gone is refused before any test.
abbrev pub ActsFrom : Ipc → ℕ → Option Names → PlainCall → PlainReply → Ipc → List Effect → Type 0
ActsFrom old space None c answer new effects = IsRefusedWith (refused c InvalidTask) old answer new effects
ActsFrom old space (Some names) c answer new effects = ActsIn old space names c answer new effects

-- A step of the machine: this call of a task of this space may give this reply, and leaves this state once its effects
-- have settled.
unfoldable pub PlainStep : Ipc → ℕ → PlainCall → PlainReply → Ipc → Type 0
PlainStep old space c answer new =
    (acted : Ipc) × (effects : List Effect) × ActsFrom old space (finmap.get old.spaces space) c answer acted effects
    × Settles acted effects new

-- a step that leaves the state as it is
abbrev pub Answer : Ipc → ℕ → PlainCall → PlainReply → Type 0
Answer state space c answer = PlainStep state space c answer state

-- Whether a call of this number can have a record: it may change the state.
abbrev pub is_recorded : PlainCall → Bool
is_recorded (call.Attach space) = false
is_recorded call.Names = false
is_recorded (call.Type name) = false
is_recorded (call.Rename from to) = true
is_recorded (call.AllocateName kind name) = true
is_recorded (call.Allocate kind) = true
is_recorded (call.Destroy name) = true
is_recorded (call.Deallocate name) = true
is_recorded (call.GetRefs name kind) = false
is_recorded (call.ModRefs name kind delta) = true
is_recorded (call.SetQlimit name limit) = true
is_recorded (call.SetMscount name count) = true
is_recorded (call.SetSeqno name seqno) = true
is_recorded (call.GetReceiveStatus name) = false
is_recorded (call.GetSetStatus name) = false
is_recorded (call.MoveMember member after) = true
is_recorded (call.RequestNotification name variant sync notify_name disposition) = true
is_recorded (call.InsertRight name right_name disposition) = true
is_recorded (call.ExtractRight name disposition) = true
is_recorded (call.Send message) = true
is_recorded (call.Receive limit large name waited) = true
is_recorded (call.SpaceCreate name disposition) = true
is_recorded call.SpaceDestroy = true

-- Whether a call may be numbered: those that may have a record, but for the removal of the task's space. A receive that
-- followed a wait is none that a task asks for.
abbrev pub may_be_numbered : PlainCall → Bool
may_be_numbered call.SpaceDestroy = false
may_be_numbered (call.Receive limit large name waited) = not waited
may_be_numbered c = is_recorded c

abbrev pub is_success : KernReturn → Bool
is_success Success = true
is_success _ = false

-- a receive without MACH_RCV_LARGE destroyed a message that was too large
abbrev pub has_destroyed : PlainCall → KernReturn → Bool
has_destroyed (call.Receive limit false name waited) RcvTooLarge = true
has_destroyed _ _ = false

abbrev pub succeeded : PlainReply → Bool
succeeded (reply.Refused number code) = false
succeeded (reply.Message code size member message) = is_success code
succeeded answer = true

abbrev pub destroyed_message : PlainCall → PlainReply → Bool
destroyed_message c (reply.Message code size member message) = has_destroyed c code
destroyed_message c answer = false

-- Whether an answered call has a record: it may change the state, and has code 0 or is a receive that destroyed a
-- message.
abbrev pub has_record : PlainCall → PlainReply → Bool
has_record c answer = is_recorded c && (succeeded answer || destroyed_message c answer)
