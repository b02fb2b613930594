use Rattle.std.proofs.Common.{ap, arith}
use Rattle.live_ports.specs.PortTable.{TrackedPorts}
use Rattle.ports.specs.IndexLaws.{none_indexed, rest_indexed}
use Rattle.ports.proofs.ports.Ports.new.Goals as goal

pub invariant_of-result : goal.invariant_of-result
invariant_of-result c =
    rest_indexed _ c.new.result.before c.new.result.current c.new-2.result _
    (ap (λ (t : TrackedPorts). t.before) c.new.ensures)
    (ap (λ (t : TrackedPorts). t.current) c.new.ensures) c.new-2.ensures (none_indexed 1 (omega arith))
