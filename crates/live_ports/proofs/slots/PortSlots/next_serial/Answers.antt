use Rattle.std.proofs.Common.{None, ap, sym, ◌∙◌}
use Rattle.std.specs.FinMap as map
use Rattle.live_ports.specs.Tables.{Slots}
use Rattle.live_ports.proofs.Slabbed.{stands}
use Rattle.live_ports.proofs.slots.PortSlots.next_serial.Goals as goal

pub returns : goal.returns
returns c =
    let inside = c.self.inside in (
      c.in-Some.ensures.0,
      λ serial le below. ap (λ (m : Slots). map.get m serial) (sym c.self.view_is)
          ∙ stands inside.ports inside.keys serial None (c.in-Some.ensures.2 serial le below),
    )

pub returns-in_default : goal.returns-in_default
returns-in_default c = λ serial le.
    let inside = c.self.inside in
    ap (λ (m : Slots). map.get m serial) (sym c.self.view_is)
    ∙ stands inside.ports inside.keys serial None (c.in_default.ensures serial le)
