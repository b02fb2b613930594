use Rattle.std.proofs.Common.{subst}
use Rattle.live_ports.specs.PortTable.{TrackedPorts}
use Rattle.live_ports.specs.SeenLaws.{IsSeenAt, seen_message_at}
use Rattle.live_ports.specs.Tables.{present_ports}
use Rattle.live_ports.proofs.ports.LivePorts.message_as_sent.Goals as goal

pub returns : goal.returns
returns c =
    subst (λ (t : TrackedPorts). IsSeenAt t.current.ports c.args.serial c.args.index c.message.result) c.self.view_is
    (seen_message_at (present_ports c.self.inside.tables.slots) c.args.serial c.args.index c.message.result
    c.message.ensures)
