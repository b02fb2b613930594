use Rattle.std.proofs.Common.{None, Some, option_map, ap, ◌∙◌}
use Rattle.live_ports.specs.Changed.{numbers_of}
use Rattle.std.specs.FinMap as map
use Rattle.live_ports.proofs.Slotted.{present_at}
use Rattle.live_ports.proofs.tables.Tables.numbers.Goals as goal

pub returns-in-Some : goal.returns-in-Some
returns-in-Some c =
    c.numbers.ensures ∙ ap (option_map numbers_of)
    (present_at c.args.self.now.slots c.args.serial (Some c.in-Some.port.now)
    (c.in-Some.ensures ∙ ap (map.get c.args.self.now.slots) c.from.ensures))

pub returns-in-None : goal.returns-in-None
returns-in-None c =
    ap (option_map numbers_of) (present_at c.args.self.now.slots c.args.serial None
    (c.in-None.ensures ∙ ap (map.get c.args.self.now.slots) c.from.ensures))
