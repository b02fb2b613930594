use Rattle.std.proofs.Common.{◌≡◌, ◌++◌, flat_map, length}
use Rattle.codes.specs.StoreVersion.{current}
use Rattle.image.proofs.encoded.push_rows.Given as goal

abbrev pub invariant-loop-row : goal.invariant-loop-row
invariant-loop-row g l =
    l.out.items ++ flat_map (g.T.Encoded.encoding current) l.rest ≡ l.fn.out.items ++ flat_map (g.T.Encoded.encoding current) l.fn.rows

abbrev pub decreases-loop-row : goal.decreases-loop-row
decreases-loop-row g l = length l.rest
