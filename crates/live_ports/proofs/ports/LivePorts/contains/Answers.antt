use Rattle.std.proofs.Common.{is_some, sym, ◌∙◌, ap}
use Rattle.std.specs.FinMap as map
use Rattle.live_ports.specs.PortTable.{TrackedPorts}
use Rattle.live_ports.specs.SeenLaws.{lives_seen}
use Rattle.live_ports.specs.Tables.{present_ports}
use Rattle.live_ports.proofs.ports.LivePorts.contains.Goals as goal

pub returns : goal.returns
returns c =
    c.contains.ensures ∙ sym (lives_seen (present_ports c.self.inside.tables.slots) c.args.serial) ∙ ap
    (λ (t : TrackedPorts). is_some (map.get t.current.ports c.args.serial)) c.self.view_is
