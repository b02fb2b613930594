use Rattle.std.proofs.Common.{◌≡◌, ◌++◌, map, length}
use Rattle.script.specs.vocabulary.Kinds.{value_word}
use Rattle.script.specs.vocabulary.Spaced.{spaced}
use Rattle.script.specs.printing.Items.{numbers_in}
use Rattle.script.proofs.printing.item.push_numbers.Given as goal

abbrev pub invariant-loop-number : goal.invariant-loop-number
invariant-loop-number l =
    l.line.items ++ spaced (map (value_word l.fn.kind) (numbers_in l.rest)) ≡ l.fn.line.items
    ++ spaced (map (value_word l.fn.kind) (numbers_in l.fn.bytes))

abbrev pub decreases-loop-number : goal.decreases-loop-number
decreases-loop-number l = length l.rest
