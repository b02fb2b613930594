use Rattle.std.proofs.Common.{◌≡◌, ◌++◌, drop}
use Rattle.inspect.specs.text.Rows.{names_rows}
use Rattle.inspect.proofs.text.listing.push_names.Given as goal

-- the lines so far, followed by the rest, are all lines
abbrev pub invariant-loop-named : goal.invariant-loop-named
invariant-loop-named l =
    l.out.items ++ names_rows (drop l.named-index l.names) ≡ l.fn.out.items ++ names_rows l.fn.names
