-- Frames of replies, and their expected values.
use Rattle.std.specs.Prelude.{◌≡◌, ℕ, List, ◌++◌, length}
use Rattle.ipc_model.specs.declared.plain_reply.PlainReply.{PlainReply}
use Rattle.ipc_model.specs.declared.plain_reply.PlainReply.TheVariants as plain
use Rattle.ipc_model.specs.declared.reply.Reply.{Reply}
use Rattle.ipc_model.specs.declared.reply.Reply.TheVariants as reply
use Rattle.script_runner.specs.declared.row.Wanted.{Wanted}
use Rattle.script_runner.specs.declared.row.Wanted.TheVariants as wanted
use Rattle.words.specs.Words.{word}

-- a reply's frame: its length, the call's number, the return code, and the results
pub record HasCode (frame : List ℕ) (code : ℕ) : Type 0 where
  pub content_length : ℕ
  pub number : ℕ
  pub results : List ℕ
  pub is : frame ≡ word content_length ++ (word number ++ (word code ++ results))

-- the frame is as expected
abbrev pub Meets : Wanted → List ℕ → Type 0
Meets (wanted.Frame frame) answer = answer ≡ frame.items
Meets (wanted.Code code) answer = HasCode answer code

-- the frame is the expected one, byte for byte
abbrev pub IsSame : Wanted → List ℕ → Type 0
IsSame (wanted.Frame frame) answer = answer ≡ frame.items
IsSame (wanted.Code code) answer = ⊥

-- the number of names, members or bytes of a message in a reply
abbrev pub plain_item_count : PlainReply → ℕ
plain_item_count (plain.Names names) = length names
plain_item_count (plain.SetStatus members) = length members
plain_item_count (plain.Message code size member message) = length message
plain_item_count _ = 0

-- the number of items in any reply; for a numbered call that of the inner reply
abbrev pub item_count : Reply → ℕ
item_count (reply.Plain answer) = plain_item_count answer
item_count (reply.Numbered answer) = plain_item_count answer.reply
item_count (reply.Repeated answer) = plain_item_count answer.reply
