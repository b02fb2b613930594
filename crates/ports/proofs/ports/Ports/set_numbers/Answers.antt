use Rattle.std.proofs.Common.{ap}
use Rattle.live_ports.specs.PortTable.{TrackedPorts}
use Rattle.ports.specs.IndexLaws.{indexed_before, retargeted_indexed}
use Rattle.ports.proofs.ports.Ports.set_numbers.Goals as goal

pub invariant_of-self : goal.invariant_of-self
invariant_of-self c =
    let old = c.self.inside in
    let new = c.set_in_both.new in (
      indexed_before old.ports.before new.ports.before old.indexes new.indexes c.in-Ok.ensures.before
          c.in-Ok.ensures.indexes_before c.self.invariant.0,
      retargeted_indexed old.ports.current new.ports.current old.indexes new.indexes c.args.serial c.in-Some.former
          c.args.numbers c.in-Some.ensures c.ranges.serial.fits c.targets_fit.ensures c.targets_fit-2.ensures
          (ap (λ (t : TrackedPorts). t.current) c.in-Ok.ensures.ports) c.in-Ok.ensures.indexes c.self.invariant.1,
    )
