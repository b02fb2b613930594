use Rattle.std.proofs.Common.{◌≡◌, ◌≤◌, ◌-◌, ◌+◌, length}
use Rattle.number_table.specs.Rows.{rows_from}
use Rattle.number_table.proofs.grow.Given as goal

abbrev pub invariant-loop-rows : goal.invariant-loop-rows
invariant-loop-rows g l = record {
  same : rows_from 0 l.rows.items ≡ rows_from 0 l.initial.rows.items;
  grows : length l.initial.rows.items ≤ length l.rows.items;
}

abbrev pub decreases-loop-rows : goal.decreases-loop-rows
decreases-loop-rows g l = l.at + 1 - length l.rows.items
