-- The lines of calls and replies.
use Rattle.std.specs.Prelude.{ℕ, List, ◌++◌}
use Rattle.ipc_model.specs.declared.reply.Reply.{Reply}
use Rattle.script.specs.vocabulary.Spaced.{line_of, spaced}
use Rattle.script.specs.declared.printing.line.Exchange.{Exchange}
use Rattle.script.specs.printing.Calls.{call_words}
use Rattle.script.specs.printing.Replies.{reply_words}

-- the words of a call and its reply
abbrev pub exchange_words : Exchange → List (List ℕ)
exchange_words x = call_words x.call ++ reply_words x.reply

-- the line of a call and its reply
unfoldable pub exchange_line : Exchange → List ℕ
exchange_line x = line_of (exchange_words x)

-- the part of a line after the call
abbrev pub reply_line : Reply → List ℕ
reply_line r = spaced (reply_words r)
