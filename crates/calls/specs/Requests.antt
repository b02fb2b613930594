-- The requests of frames.
use Rattle.std.specs.Prelude.{◌≡◌, ◌≢◌, ◌⊎◌, ℕ, ◌<◌, ◌≤◌, ◌^◌, Bool, true, false, IsTrue, ◌==◌, ◌||◌, List, ◌++◌, length, Option, None, Some, bit_and, if◌then◌else◌}
use Rattle.codes.specs.declared.call_number.TheConstants.{CONFINE, MACH_MSG, NUMBERED}
use Rattle.codes.specs.declared.kern_return.KernReturn.TheVariants.{Success, InvalidArgument}
use Rattle.ipc_model.specs.declared.call.Call.{Call}
use Rattle.ipc_model.specs.declared.call.Call.TheVariants.{Plain, Numbered, Unnumberable}
use Rattle.ipc_model.specs.declared.plain_call.PlainCall.{PlainCall}
use Rattle.ipc_model.specs.declared.plain_call.PlainCall.TheVariants as call
use Rattle.ipc_model.specs.calls.PlainStep.{number_of_call, may_be_numbered}
use Rattle.ipc_model.specs.encodings.PlainCalls.{call_encoding, FitsCall}
use Rattle.words.specs.Words.{AreBytes, word}
use Rattle.calls.specs.declared.request.MessageRequest.{MessageRequest}
use Rattle.calls.specs.declared.request.Request.{Request}
use Rattle.calls.specs.declared.request.Request.TheVariants as request

-- The known options of mach_msg, each one bit: MACH_SEND_MSG, MACH_RCV_MSG, MACH_SEND_TIMEOUT, MACH_RCV_TIMEOUT and
-- MACH_RCV_LARGE. (Kernel Interfaces, mach_msg.)
abbrev pub send_msg : ℕ
send_msg = 0x1

abbrev pub rcv_msg : ℕ
rcv_msg = 0x2

abbrev pub send_timeout : ℕ
send_timeout = 0x10

abbrev pub rcv_timeout : ℕ
rcv_timeout = 0x100

abbrev pub rcv_large : ℕ
rcv_large = 0x800

abbrev pub known_options : ℕ
known_options = 0x913

-- all bits of this option are set
abbrev pub has_option : ℕ → ℕ → Bool
has_option option bit = bit_and option bit == bit

-- the arguments of mach_msg: four words, followed by the message
pub record MachMsg : Type 0 where
  pub option : ℕ
  pub limit : ℕ
  pub name : ℕ
  pub timeout : ℕ
  pub message : List ℕ

pub record FitsMachMsg (m : MachMsg) : Type 0 where
  pub option : m.option < 2 ^ 32
  pub limit : m.limit < 2 ^ 32
  pub name : m.name < 2 ^ 32
  pub timeout : m.timeout < 2 ^ 32
  pub message : AreBytes m.message

abbrev pub mach_msg_arguments : MachMsg → List ℕ
mach_msg_arguments m = word m.option ++ (word m.limit ++ (word m.name ++ (word m.timeout ++ m.message)))

-- The send and the receive that a mach_msg asks for, in this order, and their timeouts.
abbrev pub asked_send : ℕ → List ℕ → Option Call
asked_send option message = if has_option option send_msg then Some (Plain (call.Send message)) else None

abbrev pub asked_receive : ℕ → ℕ → ℕ → Option Call
asked_receive option limit name =
    if has_option option rcv_msg then Some (Plain (call.Receive limit (has_option option rcv_large) name false))
    else None

abbrev pub asked_timeout : ℕ → ℕ → ℕ → Option ℕ
asked_timeout option bit timeout = if has_option option bit then Some timeout else None

abbrev pub message_request : MachMsg → MessageRequest
message_request m = record {
  send = asked_send m.option m.message;
  receive = asked_receive m.option m.limit m.name;
  send_timeout = asked_timeout m.option send_timeout m.timeout;
  receive_timeout = asked_timeout m.option rcv_timeout m.timeout;
}

-- The answer to an unknown option is KERN_INVALID_ARGUMENT. The answer to a request that neither sends nor receives is
-- KERN_SUCCESS.
unfoldable pub asked : MachMsg → Request
asked m =
    if bit_and m.option known_options == m.option
    then (if has_option m.option send_msg || has_option m.option rcv_msg then request.Message (message_request m)
    else request.Answered Success)
    else request.Answered InvalidArgument

-- these arguments of mach_msg ask for this request
abbrev pub AsksMachMsg : List ℕ → Request → Type 0
AsksMachMsg arguments asks = (m : MachMsg) × FitsMachMsg m × (arguments ≡ mach_msg_arguments m) × (asks ≡ asked m)

-- The options of a mach_msg that may be numbered, each for one attempt: to send, to receive, and to receive with
-- MACH_RCV_LARGE. Each includes its timeout, which must be 0.
abbrev pub send_attempt : ℕ
send_attempt = 0x11

abbrev pub receive_attempt : ℕ
receive_attempt = 0x102

abbrev pub large_attempt : ℕ
large_attempt = 0x902

-- the one attempt that a mach_msg asks for, or None if it may not be numbered
abbrev pub attempt_of : ℕ → ℕ → ℕ → List ℕ → Option PlainCall
attempt_of option limit name message =
    if option == send_attempt then Some (call.Send message)
    else if option == receive_attempt then Some (call.Receive limit false name false)
    else if option == large_attempt then Some (call.Receive limit true name false)
    else None

abbrev pub one_attempt : MachMsg → Option PlainCall
one_attempt m = if m.timeout == 0 then attempt_of m.option m.limit m.name m.message else None

-- these arguments of mach_msg ask for this one attempt
abbrev pub AsksAttempt : List ℕ → PlainCall → Type 0
AsksAttempt arguments c =
    (m : MachMsg) × FitsMachMsg m × (arguments ≡ mach_msg_arguments m) × (one_attempt m ≡ Some c)

-- The content of a frame that asks for this call, which may be numbered: a mach_msg that is one attempt, or another
-- call.
abbrev pub Numbers : List ℕ → PlainCall → Type 0
Numbers content c =
    ((arguments : List ℕ) × (content ≡ word MACH_MSG ++ arguments) × AsksAttempt arguments c)
    ⊎ ((number_of_call c ≢ MACH_MSG) × (may_be_numbered c ≡ true) × FitsCall c × (content ≡ call_encoding c))

-- The arguments of number 22 ask for this call: a request is followed by the content of the numbered call's frame. A
-- call that may not be numbered can have any content of four bytes or more.
abbrev pub AsksNumbered : List ℕ → Call → Type 0
AsksNumbered arguments (Plain c) = ⊥
AsksNumbered arguments (Numbered numbered) =
    (content : List ℕ) × (numbered.request < 2 ^ 32) × (arguments ≡ word numbered.request ++ content)
    × Numbers content numbered.call
AsksNumbered arguments Unnumberable =
    (request : ℕ) × (content : List ℕ) × (request < 2 ^ 32) × (arguments ≡ word request ++ content)
    × (4 ≤ length content) × ((c : PlainCall) → Numbers content c → ⊥)

-- A frame with this content asks for this request. The request to confine a connection has no arguments.
abbrev pub Asks : List ℕ → Request → Type 0
Asks content (request.One (Plain c)) = (number_of_call c ≢ MACH_MSG) × FitsCall c × (content ≡ call_encoding c)
Asks content (request.One c) =
    (arguments : List ℕ) × (content ≡ word NUMBERED ++ arguments) × AsksNumbered arguments c
Asks content request.Confine = content ≡ word CONFINE
Asks content asks = (arguments : List ℕ) × (content ≡ word MACH_MSG ++ arguments) × AsksMachMsg arguments asks

-- arguments of a mach_msg that sends
abbrev pub IsSend : List ℕ → Type 0
IsSend arguments = (m : MachMsg) × (arguments ≡ mach_msg_arguments m) × IsTrue (has_option m.option send_msg)

-- a frame with this content asks for a numbered send
abbrev pub IsNumberedSend : List ℕ → Type 0
IsNumberedSend content =
    (numbered : ℕ) × (message : List ℕ)
    × Asks content (request.One (Numbered (record { request = numbered; call = call.Send message })))
