use Rattle.std.proofs.Common.{◌∙◌, ap}
use Rattle.std.specs.FinMap as map
use Rattle.live_ports.specs.PortTable.{ports_at_rest}
use Rattle.live_ports.specs.Seen.{Ports}
use Rattle.live_ports.specs.SeenLaws.{seen_empty}
use Rattle.live_ports.proofs.Standing.{empty_sound, rest_stands, rest_view}
use Rattle.live_ports.proofs.ports.LivePorts.new.Goals as goal

pub invariant_of-result : goal.invariant_of-result
invariant_of-result c = rest_stands c.new.result map.empty 0 1 c.new.ensures (empty_sound 1)

pub returns : goal.returns
returns c =
    rest_view c.new.result map.empty 0 1 c.new.ensures ∙ ap
    (λ (m : Ports). ports_at_rest (record { ports = m; next = 1 })) seen_empty
