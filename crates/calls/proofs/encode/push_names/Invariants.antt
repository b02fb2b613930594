use Rattle.std.proofs.Common.{◌≡◌, ◌≤◌, ◌++◌, length, take}
use Rattle.std.specs.Vec.{vec_capacity}
use Rattle.words.specs.Words.{word}
use Rattle.calls.specs.Rows.{names_encoding}
use Rattle.calls.proofs.encode.push_names.Given as goal

abbrev pub invariant-loop-named : goal.invariant-loop-named
invariant-loop-named l = record {
  added : l.out.items ≡ l.fn.out.items ++ (word (length l.names) ++ names_encoding (take l.named-index l.names));
  room : vec_capacity l.fn.out ≤ vec_capacity l.out;
}
