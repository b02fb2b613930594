use Rattle.std.proofs.Common.{◌≡◌, length}
use Rattle.image.specs.Fitting.{FitsRow}
use Rattle.image.specs.Rows.{row_encoding_of, rows_of}
use Rattle.image.specs.Taking.{TakenSoFar}
use Rattle.image.proofs.spaces.take_all.Given as goal

abbrev pub invariant-loop : goal.invariant-loop
invariant-loop l =
    TakenSoFar (row_encoding_of l.fn.version) (FitsRow l.fn.version) l.fn.bytes l.fn.count
    (rows_of l.spaces.items l.all_kept.items) l.rest l.counter
    × (length l.all_kept.items ≡ length l.spaces.items)
