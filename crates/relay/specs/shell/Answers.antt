-- Replies, read from the content of their frames.
use Rattle.std.specs.Prelude.{ℕ, List}
use Rattle.calls.specs.Replies.{Answers}
use Rattle.ipc_model.specs.declared.reply.Reply.{Reply}
use Rattle.script.specs.Replies.{IsOwn}

-- A frame's content is this reply to a call with this number, and the reply can be written after the call on a line.
pub record IsReplyTo (number : ℕ) (content : List ℕ) (answer : Reply) : Type 0 where
  pub answers : Answers number content answer
  pub own : IsOwn answer
