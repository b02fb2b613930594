use Rattle.std.proofs.Common.{◌≡◌, ◌++◌, flat_map, length}
use Rattle.type_desc.specs.Adding.{Keeps}
use Rattle.words.specs.Words.{word}
use Rattle.type_desc.proofs.adding.add_words.Given as goal

abbrev pub invariant-loop-number : goal.invariant-loop-number
invariant-loop-number l =
    record {
      added : l.out.items ++ flat_map word l.rest ≡ l.fn.out.items ++ flat_map word l.fn.numbers;
      kept : Keeps l.fn.out.items l.out.items;
    }

abbrev pub decreases-loop-number : goal.decreases-loop-number
decreases-loop-number l = length l.rest
