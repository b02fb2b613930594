use Rattle.std.proofs.Common.{◌≡◌, ◌+◌, length}
use Rattle.script.specs.vocabulary.Spaced.{words_of}
use Rattle.script.proofs.vocabulary.spaced.count_words.Given as goal

abbrev pub invariant-loop-beyond : goal.invariant-loop-beyond
invariant-loop-beyond l = l.count + length (words_of l.rest) ≡ length (words_of l.fn.text)

abbrev pub decreases-loop-beyond : goal.decreases-loop-beyond
decreases-loop-beyond l = length (words_of l.rest)
