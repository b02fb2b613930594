-- Replies and the frames in which they answer calls, including replies to numbered calls.
use Rattle.std.specs.Prelude.{◌≡◌, ℕ, List}
use Rattle.ipc_model.specs.declared.reply.Reply.{Reply}
use Rattle.ipc_model.specs.declared.reply.Reply.TheVariants as reply
use Rattle.ipc_model.specs.encodings.Encodings.{reply_encoding, number_of_reply, FitsReply}
use Rattle.calls.specs.PlainReplies as plain

-- The reply to the call that is numbered is well-formed as a plain reply. A repeated reply has the same bytes as the
-- first one, so it is never decoded as repeated.
abbrev pub IsWellFormed : Reply → Type 0
IsWellFormed (reply.Plain answer) = plain.IsWellFormed answer
IsWellFormed (reply.Numbered answer) = plain.IsWellFormed answer.reply
IsWellFormed (reply.Repeated answer) = ⊥

-- A frame with this content answers a call of this number with this reply.
pub record Answers (number : ℕ) (content : List ℕ) (answer : Reply) : Type 0 where
  pub text : content ≡ reply_encoding answer
  pub fits : FitsReply answer
  pub of_call : number_of_reply answer ≡ number
  pub well_formed : IsWellFormed answer
