use Rattle.std.proofs.Common.{length, ◌∙◌, ap}
use Rattle.live_ports.specs.Changed.{messages_at}
use Rattle.live_ports.specs.PortTable.{TrackedPorts}
use Rattle.live_ports.specs.SeenLaws.{seen_count}
use Rattle.live_ports.specs.Tables.{present_ports}
use Rattle.live_ports.proofs.ports.LivePorts.message_count.Goals as goal

pub returns : goal.returns
returns c =
    c.message_count.ensures ∙ seen_count (present_ports c.self.inside.tables.slots) c.args.serial ∙ ap
    (λ (t : TrackedPorts). length (messages_at t.current.ports c.args.serial)) c.self.view_is
