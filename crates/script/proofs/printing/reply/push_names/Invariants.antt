use Rattle.std.proofs.Common.{◌≡◌, ◌++◌, length}
use Rattle.script.specs.vocabulary.Spaced.{spaced}
use Rattle.script.specs.printing.Replies.{names_words}
use Rattle.script.proofs.printing.reply.push_names.Given as goal

abbrev pub invariant-loop-named : goal.invariant-loop-named
invariant-loop-named l =
    l.line.items ++ spaced (names_words l.rest) ≡ l.fn.line.items ++ spaced (names_words l.fn.names)

abbrev pub decreases-loop-named : goal.decreases-loop-named
decreases-loop-named l = length l.rest
