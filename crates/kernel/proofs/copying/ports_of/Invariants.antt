use Rattle.std.proofs.Common.{◌-◌, ◌^◌}
use Rattle.kernel.specs.Copying.{AreGathered}
use Rattle.snapshot.specs.Rows.{port_row}
use Rattle.kernel.proofs.copying.ports_of.Given as goal

-- the rows so far, followed by those of the remaining ports, are all rows
abbrev pub invariant-loop-serial : goal.invariant-loop-serial
invariant-loop-serial l = AreGathered port_row l.state.current.ports l.ports.items l.at

abbrev pub decreases-loop-serial : goal.decreases-loop-serial
decreases-loop-serial l = 2 ^ 64 - l.at
