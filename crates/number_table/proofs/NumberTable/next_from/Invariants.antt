use Rattle.std.proofs.Common.{◌≡◌, ◌≤◌, ◌<◌, ◌-◌, ℕ, None, length, slice_index_or}
use Rattle.number_table.proofs.NumberTable.next_from.Given as goal

abbrev pub invariant-loop-row : goal.invariant-loop-row
invariant-loop-row g l = record {
  from_on : l.fn.from ≤ l.at;
  passed : (number : ℕ) → l.fn.from ≤ number → number < l.at
      → slice_index_or l.self-inside.rows.items number None ≡ None;
}

abbrev pub decreases-loop-row : goal.decreases-loop-row
decreases-loop-row g l = length l.self-inside.rows.items - l.at
