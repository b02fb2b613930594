use Rattle.std.proofs.Common.{◌∙◌, Option, None, Some, ap, sym, subst}
use Rattle.std.specs.FinMap as map
use Rattle.ipc_model.specs.declared.port.PortState.{PortState}
use Rattle.live_ports.specs.Changed.{IsMessageAt, messages_in}
use Rattle.live_ports.proofs.Slotted.{nothing_at, present_at}
use Rattle.live_ports.proofs.tables.Tables.message.Goals as goal

pub returns-in-Some : goal.returns-in-Some
returns-in-Some c =
    subst (λ (o : Option PortState). IsMessageAt (messages_in o) c.args.index c.message_at.result)
    (present_at c.args.self.now.slots c.args.serial (Some c.in-Some.port.now)
    (c.in-Some.ensures ∙ ap (map.get c.args.self.now.slots) c.from.ensures)) c.message_at.ensures

pub returns-in-None : goal.returns-in-None
returns-in-None c =
    nothing_at _ c.args.index (sym
    (present_at c.args.self.now.slots c.args.serial None
    (c.in-None.ensures ∙ ap (map.get c.args.self.now.slots) c.from.ensures)))
