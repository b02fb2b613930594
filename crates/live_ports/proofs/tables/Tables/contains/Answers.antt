use Rattle.std.proofs.Common.{None, Some, is_some, ap, ◌∙◌}
use Rattle.std.specs.FinMap as map
use Rattle.live_ports.proofs.Slotted.{present_at}
use Rattle.live_ports.proofs.tables.Tables.contains.Goals as goal

pub returns-in-Some : goal.returns-in-Some
returns-in-Some c =
    c.is_there.ensures ∙ ap is_some
    (present_at c.args.self.now.slots c.args.serial (Some c.in-Some.port.now)
    (c.in-Some.ensures ∙ ap (map.get c.args.self.now.slots) c.from.ensures))

pub returns-in-None : goal.returns-in-None
returns-in-None c =
    ap is_some (present_at c.args.self.now.slots c.args.serial None
    (c.in-None.ensures ∙ ap (map.get c.args.self.now.slots) c.from.ensures))
