use Rattle.std.proofs.Common.{◌≡◌, length}
use Rattle.script.specs.vocabulary.Spaced.{words_of}
use Rattle.script.specs.Replies.{members_at}
use Rattle.script.proofs.Rows.{after_all}
use Rattle.script.proofs.reply.read_members.Given as goal

abbrev pub invariant-loop-members : goal.invariant-loop-members
invariant-loop-members l = after_all l.members.items (members_at (words_of l.rest)) ≡ members_at (words_of l.fn.text)

abbrev pub decreases-loop-members : goal.decreases-loop-members
decreases-loop-members l = length (words_of l.rest)
