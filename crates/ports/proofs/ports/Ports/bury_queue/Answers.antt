use Rattle.std.proofs.Common.{ap, sym, subst}
use Rattle.live_ports.specs.PortTable.{TrackedPorts}
use Rattle.ports.specs.Burials.{buried_indexed}
use Rattle.ports.specs.IndexLaws.{indexed_before}
use Rattle.ports.specs.Requests.{IsUntargeted}
use Rattle.ports.proofs.ports.Ports.bury_queue.Goals as goal

pub invariant_of-self : goal.invariant_of-self
invariant_of-self c =
    let old = c.self.inside in
    let new = c.bury_in_both.new in (
      indexed_before old.ports.before new.ports.before old.indexes new.indexes c.in-Ok.ensures.before
          c.in-Ok.ensures.indexes_before c.self.invariant.0,
      buried_indexed old.ports.current new.ports.current old.indexes new.indexes c.args.serial c.ranges.serial.fits
          (subst (λ (t : TrackedPorts). IsUntargeted c.args.serial t.current.ports) (sym c.self.view_is) c.requires)
          (ap (λ (t : TrackedPorts). t.current) c.in-Ok.ensures.ports) c.in-Ok.ensures.indexes c.self.invariant.1,
    )
