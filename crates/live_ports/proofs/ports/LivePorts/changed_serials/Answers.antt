use Rattle.std.proofs.Common.{sym, subst}
use Rattle.live_ports.specs.Noted.{AreNoted, marked_noted}
use Rattle.live_ports.specs.PortTable.{TrackedPorts}
use Rattle.live_ports.specs.Seen.{as_seen}
use Rattle.live_ports.specs.Tables.{former_ports, present_ports}
use Rattle.live_ports.proofs.ports.LivePorts.changed_serials.Goals as goal

pub returns : goal.returns
returns c =
    let slots = c.self.inside.tables.slots in
    subst (λ (t : TrackedPorts). AreNoted t.before.ports t.current.ports c.as_slice.result.now) c.self.view_is
    (subst (AreNoted (as_seen (former_ports slots)) (as_seen (present_ports slots))) (sym c.as_slice.ensures.value)
    (marked_noted slots c.self.inside.tables.touched.items c.self.invariant.touched))
