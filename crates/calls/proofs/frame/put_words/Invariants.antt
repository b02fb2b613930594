use Rattle.std.proofs.Common.{◌≡◌, ◌++◌, flat_map, take}
use Rattle.words.specs.Words.{word}
use Rattle.calls.proofs.frame.put_words.Given as goal

abbrev pub invariant-loop-number : goal.invariant-loop-number
invariant-loop-number l = record {
  content : l.frame.content ≡ l.fn.frame.content ++ flat_map word (take l.number-index l.numbers);
  room : l.frame.room ≡ l.fn.frame.room;
}
