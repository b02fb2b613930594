-- Plain replies and the frames in which they answer calls.
use Rattle.std.specs.Prelude.{◌≡◌, ◌≢◌, ℕ, Bool, true, false, ◌==◌, ◌||◌, not, IsTrue, List}
use Rattle.codes.specs.declared.call_number.TheConstants.{MACH_PORT_NAMES, MACH_PORT_TYPE, MACH_PORT_ALLOCATE, MACH_PORT_GET_REFS, MACH_PORT_GET_RECEIVE_STATUS, MACH_PORT_GET_SET_STATUS, MACH_PORT_REQUEST_NOTIFICATION, MACH_PORT_EXTRACT_RIGHT, MACH_MSG, SPACE_CREATE, NUMBERED}
use Rattle.codes.specs.declared.kern_return.KernReturn.TheVariants.{Success}
use Rattle.ipc_model.specs.declared.plain_reply.PlainReply.{PlainReply}
use Rattle.ipc_model.specs.declared.plain_reply.PlainReply.TheVariants as reply
use Rattle.ipc_model.specs.encodings.PlainCalls.{reply_encoding, done_encoding, number_of_reply, FitsReply}

-- calls of this number have results when they are done
abbrev pub has_results : ℕ → Bool
has_results n =
    n == MACH_PORT_NAMES || n == MACH_PORT_TYPE || n == MACH_PORT_ALLOCATE || n == MACH_PORT_GET_REFS ||
    n == MACH_PORT_GET_RECEIVE_STATUS || n == MACH_PORT_GET_SET_STATUS || n == MACH_PORT_REQUEST_NOTIFICATION ||
    n == MACH_PORT_EXTRACT_RIGHT || n == SPACE_CREATE || n == NUMBERED ||
    n == MACH_MSG

-- A refusal has a code other than success and isn't of mach_msg, whose replies always have results. A reply without
-- results isn't to a call that has results when it is done.
abbrev pub IsWellFormed : PlainReply → Type 0
IsWellFormed (reply.Refused number code) = (number ≢ MACH_MSG) × (code ≢ Success)
IsWellFormed (reply.Done number) = IsTrue (not (has_results number))
IsWellFormed answer = Unit {0}

-- A frame with this content answers a call of this number with this reply.
pub record Answers (number : ℕ) (content : List ℕ) (answer : PlainReply) : Type 0 where
  pub text : content ≡ reply_encoding answer
  pub fits : FitsReply answer
  pub of_call : number_of_reply answer ≡ number
  pub well_formed : IsWellFormed answer

-- a call other than mach_msg was done
abbrev pub is_done : PlainReply → Bool
is_done (reply.Refused number code) = false
is_done (reply.Message code size member message) = false
is_done answer = true

-- The call of this number was done, and the reply has these results.
pub record HasResults (number : ℕ) (results : List ℕ) (answer : PlainReply) : Type 0 where
  pub text : done_encoding number results ≡ reply_encoding answer
  pub fits : FitsReply answer
  pub of_call : number_of_reply answer ≡ number
  pub done : IsTrue (is_done answer)
