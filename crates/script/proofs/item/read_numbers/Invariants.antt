use Rattle.std.proofs.Common.{◌≡◌, ◌++◌, length}
use Rattle.script.specs.vocabulary.Spaced.{words_of}
use Rattle.script.specs.Items.{numbers_at}
use Rattle.script.proofs.item.read_numbers.Given as goal

abbrev pub invariant-loop-number : goal.invariant-loop-number
invariant-loop-number l =
    (l.numbers.items ++ (numbers_at (words_of l.rest)).0, (numbers_at (words_of l.rest)).1)
    ≡ numbers_at (words_of l.fn.text)

abbrev pub decreases-loop-number : goal.decreases-loop-number
decreases-loop-number l = length (words_of l.rest)
