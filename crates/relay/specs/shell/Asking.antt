-- The requests of lines, and the frames that are sent to the server.
use Rattle.std.specs.Prelude.{ℕ, nat_le, ◌&&◌, Bool, true, false, List, [], ◌++◌, Option, None, Some, Result, Ok, Err}
use Rattle.calls.specs.Requests.{mach_msg_arguments}
use Rattle.codes.specs.declared.call_number.TheConstants.{MACH_MSG, NUMBERED}
use Rattle.codes.specs.declared.limits.TheConstants.{MIN_FRAME_CONTENT, MAX_FRAME_CONTENT}
use Rattle.ipc_model.specs.declared.call.Call.{Call}
use Rattle.ipc_model.specs.declared.call.Call.TheVariants.{Plain, Numbered, Unnumberable}
use Rattle.ipc_model.specs.declared.plain_call.PlainCall.{PlainCall}
use Rattle.ipc_model.specs.declared.plain_call.PlainCall.TheVariants as call
use Rattle.ipc_model.specs.encodings.PlainCalls.{call_encoding}
use Rattle.script.specs.Lines.{line_read, request_read}
use Rattle.script.specs.declared.fault.LineFault.{LineFault}
use Rattle.script.specs.declared.printing.line.Exchange.{Exchange}
use Rattle.words.specs.Words.{word}
use Rattle.relay.specs.declared.shell.asked.Asked.{Asked}
use Rattle.relay.specs.declared.shell.asked.Asked.TheVariants as asked

-- a line of a script
abbrev pub of_line : Result (Option Exchange) LineFault → Result Asked LineFault
of_line (Ok (Some x)) = Ok (asked.Exchange x)
of_line (Ok None) = Ok asked.Nothing
of_line (Err fault) = Err fault

abbrev pub answered_read : List ℕ → Result Asked LineFault
answered_read line = of_line (line_read line)

abbrev pub unless_alone : Result Call LineFault → Result Asked LineFault → Result Asked LineFault
unless_alone (Ok c) other = Ok (asked.Call c)
unless_alone (Err fault) other = other

-- the request of a line: a call alone, or a line of a script with the expected reply
abbrev pub asked_read : List ℕ → Result Asked LineFault
asked_read line = unless_alone (request_read line) (answered_read line)

-- MACH_RCV_MSG, with MACH_RCV_TIMEOUT unless it may wait, and with MACH_RCV_LARGE
abbrev pub receive_options : Bool → Bool → ℕ
receive_options false false = 0x102
receive_options false true = 0x2
receive_options true false = 0x902
receive_options true true = 0x802

abbrev pub message_encoding : ℕ → ℕ → ℕ → List ℕ → List ℕ
message_encoding option limit name message = word MACH_MSG ++ mach_msg_arguments (record {
  option = option;
  limit = limit;
  name = name;
  timeout = 0;
  message = message;
})

-- The content of the frame of a call: a send has MACH_SEND_MSG and MACH_SEND_TIMEOUT, and every timeout is 0.
abbrev pub plain_attempt_text : PlainCall → List ℕ
plain_attempt_text (call.Send message) = message_encoding 0x11 0 0 message
plain_attempt_text (call.Receive limit large name waited) =
    message_encoding (receive_options large waited) limit name []
plain_attempt_text c = call_encoding c

-- A numbered call follows its request.
abbrev pub attempt_text : Call → List ℕ
attempt_text (Plain c) = plain_attempt_text c
attempt_text (Numbered numbered) =
    word NUMBERED ++ (word numbered.request ++ plain_attempt_text numbered.call)
attempt_text Unnumberable = word NUMBERED

-- the call of a request
abbrev pub call_of : Asked → Option Call
call_of asked.Nothing = None
call_of (asked.Call c) = Some c
call_of (asked.Exchange x) = Some x.call

-- a frame's content may have this length
abbrev pub is_content_length : ℕ → Bool
is_content_length n = nat_le MIN_FRAME_CONTENT n && nat_le n MAX_FRAME_CONTENT
