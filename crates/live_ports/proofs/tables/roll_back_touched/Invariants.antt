use Rattle.std.proofs.Common.{◌≡◌, length}
use Rattle.live_ports.specs.Tables.{former_ports, AreMarked}
use Rattle.live_ports.proofs.tables.roll_back_touched.Given as goal

abbrev pub invariant-loop-serial : goal.invariant-loop-serial
invariant-loop-serial l = record {
  seen : former_ports l.slots ≡ former_ports l.fn.slots;
  touched : AreMarked l.slots l.rest;
}

abbrev pub decreases-loop-serial : goal.decreases-loop-serial
decreases-loop-serial l = length l.rest
