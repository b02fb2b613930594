use Rattle.std.proofs.Common.{◌≤◌, ◌-◌, ◌^◌}
use Rattle.ipc_model.specs.calls.PortCalls.{names_in}
use Rattle.kernel.specs.Copying.{AreGathered}
use Rattle.snapshot.specs.Rows.{named_row}
use Rattle.kernel.proofs.copying.names_of.Given as goal

-- the rows so far, followed by those of the remaining names, are all rows
abbrev pub invariant-loop-name : goal.invariant-loop-name
invariant-loop-name l = record {
  gathered : AreGathered named_row (names_in l.state.current l.space) l.names.items l.at;
  fits : l.at ≤ 2 ^ 32;
}

abbrev pub decreases-loop-name : goal.decreases-loop-name
decreases-loop-name l = 2 ^ 33 - l.at
