use Rattle.std.proofs.Common.{option_map, ◌∙◌, ap}
use Rattle.std.specs.FinMap as map
use Rattle.live_ports.specs.Changed.{numbers_of}
use Rattle.live_ports.specs.PortTable.{TrackedPorts}
use Rattle.live_ports.specs.SeenLaws.{seen_numbers}
use Rattle.live_ports.specs.Tables.{present_ports}
use Rattle.live_ports.proofs.ports.LivePorts.numbers.Goals as goal

pub returns : goal.returns
returns c =
    c.numbers.ensures ∙ seen_numbers (present_ports c.self.inside.tables.slots) c.args.serial ∙ ap
    (λ (t : TrackedPorts). option_map numbers_of (map.get t.current.ports c.args.serial)) c.self.view_is
