use Rattle.std.proofs.Common.{◌<◌, ◌-◌, ◌^◌, Option, None, Some, IfSome, length, option_and_then, sym, ap, subst, ◌∙◌}
use Rattle.std.specs.FinMap as map
use Rattle.live_ports.specs.Changed.{with_message}
use Rattle.live_ports.specs.PortSlot.{PortSlot}
use Rattle.live_ports.specs.Tables.{Slots, current_of, slot_changed, present_changed}
use Rattle.live_ports.proofs.Slabbed.{absent_changed, slot_is_changed, stands}
use Rattle.live_ports.proofs.Slotted.{pushed_ok}
use Rattle.live_ports.proofs.slots.PortSlots.push.Goals as goal

pub returns-in-Some-clause-ok : goal.returns-in-Some-clause-ok
returns-in-Some-clause-ok c =
    let inside = c.self.inside in
    pushed_ok c.push_at.result c.push_at.ensures.ok
    (λ done. slot_is_changed (present_changed (with_message c.args.message)) inside.ports c.push_at.new.ports
    inside.keys c.args.serial c.in-Some.key c.self.invariant (sym c.in-Some.ensures) done
    ∙ ap (λ (m : Slots). slot_changed m c.args.serial (present_changed (with_message c.args.message))) c.self.view_is)

pub returns-in-Some-clause-room : goal.returns-in-Some-clause-room
returns-in-Some-clause-room c =
    let inside = c.self.inside in
    pushed_ok c.push_at.result c.push_at.ensures.room
    (λ room. subst (λ (o : Option PortSlot). IfSome (option_and_then current_of o)
    (λ port. length port.messages < 2 ^ 32 - 1))
    (sym (stands inside.ports inside.keys c.args.serial (Some c.in-Some.key) (sym c.in-Some.ensures)) ∙ ap
    (λ (m : Slots). map.get m c.args.serial) c.self.view_is) room)

pub returns-in-None-clause-ok : goal.returns-in-None-clause-ok
returns-in-None-clause-ok c =
    let inside = c.self.inside in
    sym c.self.view_is ∙ absent_changed
    (present_changed (with_message c.args.message)) inside.ports inside.keys c.args.serial (sym c.in-None.ensures)
    ∙ ap (λ (m : Slots). slot_changed m c.args.serial (present_changed (with_message c.args.message)))
    c.self.view_is

pub returns-in-None-clause-room : goal.returns-in-None-clause-room
returns-in-None-clause-room c =
    let inside = c.self.inside in
    subst (λ (o : Option PortSlot). IfSome (option_and_then current_of o) (λ port. length port.messages < 2 ^ 32 - 1))
    (sym (stands inside.ports inside.keys c.args.serial None (sym c.in-None.ensures)) ∙ ap
    (λ (m : Slots). map.get m c.args.serial) c.self.view_is) tt
