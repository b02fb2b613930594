use Rattle.std.proofs.Common.{subst}
use Rattle.ipc_model.specs.state.Lawful.{AreShort}
use Rattle.live_ports.specs.PortTable.{TrackedPorts}
use Rattle.live_ports.specs.Tables.{present_ports}
use Rattle.live_ports.proofs.Standing.{seen_short}
use Rattle.live_ports.proofs.ports.LivePorts.show_queues_short.Goals as goal

pub returns : goal.returns
returns c =
    subst (λ (t : TrackedPorts). AreShort t.current.ports) c.self.view_is
    (seen_short (present_ports c.self.inside.tables.slots) c.self.inside.tables.count c.self.inside.tables.next
    c.self.invariant.current)
