use Rattle.std.proofs.Common.{None, Some, sym, ap, ◌∙◌}
use Rattle.std.specs.FinMap as map
use Rattle.live_ports.specs.Tables.{Slots}
use Rattle.live_ports.proofs.Slabbed.{stands}
use Rattle.live_ports.proofs.slots.PortSlots.get.Goals as goal

pub returns-in-Some : goal.returns-in-Some
returns-in-Some c =
    let inside = c.self.inside in
    c.get-in-Some.ensures ∙ sym (stands inside.ports inside.keys c.args.serial (Some c.in-Some.key)
    (sym c.in-Some.ensures)) ∙ ap (λ (m : Slots). map.get m c.args.serial) c.self.view_is

pub returns-in-None : goal.returns-in-None
returns-in-None c =
    let inside = c.self.inside in
    sym (stands inside.ports inside.keys c.args.serial None (sym c.in-None.ensures)) ∙ ap
    (λ (m : Slots). map.get m c.args.serial) c.self.view_is
