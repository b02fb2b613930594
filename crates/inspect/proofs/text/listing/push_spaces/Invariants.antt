use Rattle.std.proofs.Common.{◌≡◌, ◌++◌, drop}
use Rattle.inspect.specs.text.Rows.{spaces_rows}
use Rattle.inspect.proofs.text.listing.push_spaces.Given as goal

-- the lines so far, followed by the rest, are all lines
abbrev pub invariant-loop-space : goal.invariant-loop-space
invariant-loop-space l =
    l.out.items ++ spaces_rows (drop l.space-index l.spaces) ≡ l.fn.out.items ++ spaces_rows l.fn.spaces
