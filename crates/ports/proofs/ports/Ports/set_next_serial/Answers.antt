use Rattle.std.proofs.Common.{ap, sym, subst, arith}
use Rattle.live_ports.specs.PortTable.{PortTable, TrackedPorts}
use Rattle.ports.specs.Indexes.{AreIndexed, former_parts, present_parts}
use Rattle.ports.specs.IndexLaws.{later_indexed}
use Rattle.ports.proofs.ports.Ports.set_next_serial.Goals as goal

pub invariant_of-self : goal.invariant_of-self
invariant_of-self c =
    let inside = c.self.inside in
    let done = c.set_next_serial.ensures in (
      subst (λ (t : PortTable). AreIndexed t (former_parts inside.indexes))
          (sym (ap (λ (t : TrackedPorts). t.before) done)) c.self.invariant.0,
      later_indexed inside.ports.current c.set_next_serial.new.self.current (present_parts inside.indexes) c.args.serial
          (omega (arith, ap (λ (t : TrackedPorts). t.current.next) c.self.view_is, c.requires))
          (omega (arith, c.ranges.serial.fits)) (ap (λ (t : TrackedPorts). t.current) done) c.self.invariant.1,
    )
