use Rattle.std.proofs.Common.{◌≡◌, ◌++◌, flat_map, length}
use Rattle.codes.specs.StoreVersion.{current}
use Rattle.image.specs.Rows.{row_encoding_of, rows_of}
use Rattle.image.proofs.spaces.push_all.Given as goal

abbrev pub invariant-loop-space : goal.invariant-loop-space
invariant-loop-space l =
    l.out.items ++ flat_map (row_encoding_of current) (rows_of l.spaces_left l.kept_left)
    ≡ l.fn.out.items ++ flat_map (row_encoding_of current) (rows_of l.fn.spaces l.fn.kept)

abbrev pub decreases-loop-space : goal.decreases-loop-space
decreases-loop-space l = length l.spaces_left
