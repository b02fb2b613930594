use Rattle.std.proofs.Common.{ap, sym, subst, arith}
use Rattle.live_ports.specs.PortTable.{PortTable, TrackedPorts}
use Rattle.ports.specs.Indexes.{AreIndexed, former_parts, present_parts}
use Rattle.ports.specs.IndexLaws.{added_indexed}
use Rattle.ports.proofs.ports.Ports.add.Goals as goal

pub invariant_of-self : goal.invariant_of-self
invariant_of-self c =
    let inside = c.self.inside in
    let done = c.in-Ok.ensures.ok in (
      subst (λ (t : PortTable). AreIndexed t (former_parts inside.indexes))
          (sym (ap (λ (t : TrackedPorts). t.before) done)) c.self.invariant.0,
      added_indexed inside.ports.current c.add.new.self.current (present_parts inside.indexes)
          (omega (arith, c.requires.serials, ap (λ (t : TrackedPorts). t.current.next) c.self.view_is))
          (ap (λ (t : TrackedPorts). t.current) done) c.self.invariant.1,
    )
