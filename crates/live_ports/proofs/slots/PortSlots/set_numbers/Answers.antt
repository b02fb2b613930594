use Rattle.std.proofs.Common.{sym, ap, ◌∙◌}
use Rattle.live_ports.specs.Changed.{with_numbers}
use Rattle.live_ports.specs.Tables.{Slots, slot_changed, present_changed}
use Rattle.live_ports.proofs.Slabbed.{absent_changed, slot_is_changed}
use Rattle.live_ports.proofs.slots.PortSlots.set_numbers.Goals as goal

pub returns-in-Some : goal.returns-in-Some
returns-in-Some c =
    let inside = c.self.inside in
    slot_is_changed (present_changed (with_numbers c.args.numbers)) inside.ports c.set_numbers_at.new.ports inside.keys
    c.args.serial c.in-Some.key c.self.invariant (sym c.in-Some.ensures) c.set_numbers_at.ensures ∙ ap
    (λ (m : Slots). slot_changed m c.args.serial (present_changed (with_numbers c.args.numbers))) c.self.view_is

pub returns-in_default : goal.returns-in_default
returns-in_default c =
    let inside = c.self.inside in
    sym c.self.view_is ∙ absent_changed
    (present_changed (with_numbers c.args.numbers)) inside.ports inside.keys c.args.serial
    (sym c.in_default.ensures) ∙ ap
    (λ (m : Slots). slot_changed m c.args.serial (present_changed (with_numbers c.args.numbers)))
    c.self.view_is
