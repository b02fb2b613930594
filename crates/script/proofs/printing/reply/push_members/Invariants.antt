use Rattle.std.proofs.Common.{◌≡◌, ◌++◌, length}
use Rattle.script.specs.vocabulary.Spaced.{spaced}
use Rattle.script.specs.printing.Replies.{members_words}
use Rattle.script.proofs.printing.reply.push_members.Given as goal

abbrev pub invariant-loop-member : goal.invariant-loop-member
invariant-loop-member l =
    l.line.items ++ spaced (members_words l.rest) ≡ l.fn.line.items ++ spaced (members_words l.fn.members)

abbrev pub decreases-loop-member : goal.decreases-loop-member
decreases-loop-member l = length l.rest
