use Rattle.std.proofs.Common.{◌≤◌, ◌-◌, ◌^◌}
use Rattle.live_ports.specs.NextPort.{ArePassed}
use Rattle.live_ports.specs.Tables.{present_ports}
use Rattle.live_ports.proofs.tables.Tables.next_port.Given as goal

abbrev pub invariant-loop-serial : goal.invariant-loop-serial
invariant-loop-serial l = record {
  passed : ArePassed (present_ports l.self.slots) l.fn.from l.at;
  from_on : l.fn.from ≤ l.at;
  fits : l.at ≤ 2 ^ 64;
}

abbrev pub decreases-loop-serial : goal.decreases-loop-serial
decreases-loop-serial l = 2 ^ 65 - l.at
