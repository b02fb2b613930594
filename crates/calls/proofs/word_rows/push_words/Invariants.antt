use Rattle.std.proofs.Common.{◌≡◌, ◌≤◌, ◌++◌, flat_map, take}
use Rattle.std.specs.Vec.{vec_capacity}
use Rattle.words.specs.Words.{word}
use Rattle.calls.proofs.word_rows.push_words.Given as goal

abbrev pub invariant-loop-number : goal.invariant-loop-number
invariant-loop-number l = record {
  added : l.out.items ≡ l.fn.out.items ++ flat_map word (take l.number-index l.numbers);
  room : vec_capacity l.fn.out ≤ vec_capacity l.out;
}
