use Rattle.std.proofs.Common.{◌≡◌, length}
use Rattle.live_ports.specs.Tables.{present_ports, AreMarked}
use Rattle.live_ports.proofs.tables.commit_touched.Given as goal

abbrev pub invariant-loop-serial : goal.invariant-loop-serial
invariant-loop-serial l = record {
  seen : present_ports l.slots ≡ present_ports l.fn.slots;
  touched : AreMarked l.slots l.rest;
}

abbrev pub decreases-loop-serial : goal.decreases-loop-serial
decreases-loop-serial l = length l.rest
