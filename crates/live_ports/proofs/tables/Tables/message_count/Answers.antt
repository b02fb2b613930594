use Rattle.std.proofs.Common.{Option, None, Some, length, ap, ◌∙◌}
use Rattle.ipc_model.specs.declared.port.PortState.{PortState}
use Rattle.live_ports.specs.Changed.{messages_in}
use Rattle.std.specs.FinMap as map
use Rattle.live_ports.proofs.Slotted.{present_at}
use Rattle.live_ports.proofs.tables.Tables.message_count.Goals as goal

pub returns-in-Some : goal.returns-in-Some
returns-in-Some c =
    c.message_count.ensures ∙ ap (λ (o : Option PortState). length (messages_in o))
    (present_at c.args.self.now.slots c.args.serial (Some c.in-Some.port.now)
    (c.in-Some.ensures ∙ ap (map.get c.args.self.now.slots) c.from.ensures))

pub returns-in-None : goal.returns-in-None
returns-in-None c =
    ap (λ (o : Option PortState). length (messages_in o))
    (present_at c.args.self.now.slots c.args.serial None
    (c.in-None.ensures ∙ ap (map.get c.args.self.now.slots) c.from.ensures))
