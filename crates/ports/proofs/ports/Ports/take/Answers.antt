use Rattle.std.proofs.Common.{ap, sym, ◌∙◌}
use Rattle.live_ports.specs.PortTable.{TrackedPorts}
use Rattle.ports.specs.IndexLaws.{indexed_before}
use Rattle.ports.specs.Taken.{taken_indexed}
use Rattle.ports.proofs.ports.Ports.take.Goals as goal

pub invariant_of-self : goal.invariant_of-self
invariant_of-self c =
    let old = c.self.inside in
    let new = c.take_in_both.new in (
      indexed_before old.ports.before new.ports.before old.indexes new.indexes c.in-Ok.ensures.before
          c.in-Ok.ensures.indexes_before c.self.invariant.0,
      taken_indexed old.ports.current new.ports.current old.indexes new.indexes c.args.serial
          (sym c.contains.ensures ∙ c.if-not-contains.false) c.ranges.serial.fits
          (ap (λ (t : TrackedPorts). t.current) c.in-Ok.ensures.ports) c.in-Ok.ensures.indexes c.self.invariant.1,
    )
