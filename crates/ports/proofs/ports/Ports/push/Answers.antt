use Rattle.std.proofs.Common.{ap, sym, subst, ◌∙◌}
use Rattle.live_ports.specs.PortTable.{TrackedPorts}
use Rattle.live_ports.specs.Seen.{AreLive}
use Rattle.ports.specs.IndexLaws.{indexed_before, pushed_indexed}
use Rattle.ports.proofs.ports.Ports.push.Goals as goal

pub invariant_of-self : goal.invariant_of-self
invariant_of-self c =
    let old = c.self.inside in
    let new = c.push_in_both.new in (
      indexed_before old.ports.before new.ports.before old.indexes new.indexes c.in-Ok.ensures.before
          c.in-Ok.ensures.indexes_before c.self.invariant.0,
      pushed_indexed old.ports.current new.ports.current old.indexes new.indexes c.args.serial c.args.message
          (sym c.contains.ensures ∙ c.if-not-contains.false) c.ranges.serial.fits
          (subst (λ (t : TrackedPorts). AreLive t.current.ports c.args.message) (sym c.self.view_is) c.requires)
          (ap (λ (t : TrackedPorts). t.current) c.in-Ok.ensures.ports) c.in-Ok.ensures.indexes c.self.invariant.1,
    )
