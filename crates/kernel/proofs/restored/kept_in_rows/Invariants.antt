use Rattle.std.proofs.Common.{◌≡◌, length}
use Rattle.std.specs.Vec.Iter.{into_iter_items, into_iter_len}
use Rattle.kernel.specs.Restoring.{put_rows}
use Rattle.kernel.proofs.restored.kept_in_rows.Given as goal

-- inserting the remaining rows into the table so far gives the whole table
abbrev pub invariant-loop-row : goal.invariant-loop-row
invariant-loop-row l = record {
  put : put_rows l.kept l.rest (into_iter_items l.row-iterator)
      ≡ put_rows l.initial.kept l.initial.rest (into_iter_items l.initial.row-iterator);
  long : length (into_iter_items l.row-iterator) ≡ into_iter_len l.row-iterator;
}
