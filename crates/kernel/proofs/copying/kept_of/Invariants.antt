use Rattle.std.proofs.Common.{◌≤◌, ◌-◌, ◌^◌}
use Rattle.kernel.specs.Copying.{AreGathered, kept_row}
use Rattle.kernel.proofs.copying.kept_of.Given as goal

-- the rows so far, followed by those of the remaining spaces, are all rows
abbrev pub invariant-loop-number : goal.invariant-loop-number
invariant-loop-number l = record {
  gathered : AreGathered (kept_row l.kept) l.state.current.spaces l.rows.items l.at;
  fits : l.at ≤ 2 ^ 32;
}

abbrev pub decreases-loop-number : goal.decreases-loop-number
decreases-loop-number l = 2 ^ 33 - l.at
