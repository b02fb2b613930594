use Rattle.std.proofs.Common.{◌≡◌, length}
use Rattle.script.specs.vocabulary.Spaced.{words_of}
use Rattle.script.specs.Replies.{names_at}
use Rattle.script.proofs.Rows.{after_all}
use Rattle.script.proofs.reply.read_names.Given as goal

abbrev pub invariant-loop-names : goal.invariant-loop-names
invariant-loop-names l = after_all l.names.items (names_at (words_of l.rest)) ≡ names_at (words_of l.fn.text)

abbrev pub decreases-loop-names : goal.decreases-loop-names
decreases-loop-names l = length (words_of l.rest)
