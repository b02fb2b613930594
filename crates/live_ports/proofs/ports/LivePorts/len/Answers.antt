use Rattle.std.proofs.Common.{sym, ◌∙◌, ap}
use Rattle.std.specs.FinMap as map
use Rattle.live_ports.specs.PortTable.{TrackedPorts}
use Rattle.live_ports.specs.SeenLaws.{len_seen}
use Rattle.live_ports.specs.Tables.{present_ports}
use Rattle.live_ports.proofs.ports.LivePorts.len.Goals as goal

pub returns : goal.returns
returns c =
    c.self.invariant.current.counted ∙ sym (len_seen (present_ports c.self.inside.tables.slots)) ∙ ap
    (λ (t : TrackedPorts). map.len t.current.ports) c.self.view_is
