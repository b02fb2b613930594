use Rattle.std.proofs.Common.{◌≡◌, ◌++◌, take}
use Rattle.calls.specs.Rows.{names_encoding}
use Rattle.calls.proofs.frame.put_names.Given as goal

abbrev pub invariant-loop-named : goal.invariant-loop-named
invariant-loop-named l = record {
  content : l.frame.content ≡ l.fn.frame.content ++ names_encoding (take l.named-index l.names);
  room : l.frame.room ≡ l.fn.frame.room;
}
