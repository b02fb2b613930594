use Rattle.std.proofs.Common.{sym, ap, subst, ◌∙◌}
use Rattle.std.specs.FinMap as map
use Rattle.live_ports.specs.Slabbed.{Keys, by_serial, AreKeyed}
use Rattle.live_ports.specs.Tables.{Slots}
use Rattle.live_ports.proofs.Slabbed.{absent_removed, fewer_keyed, removed_is, removed_keyed}
use Rattle.live_ports.proofs.slots.PortSlots.remove.Goals as goal

pub invariant_of-self : goal.invariant_of-self
invariant_of-self c =
    let inside = c.self.inside in
    subst (λ (k : Keys). AreKeyed c.remove_at.new.ports k) (sym c.in-Some.ensures.removed)
    (removed_keyed inside.ports c.remove_at.new.ports inside.keys c.args.serial c.in-Some.key c.self.invariant
    (sym c.in-Some.ensures.before) c.remove_at.ensures)

pub invariant_of-self-in_default : goal.invariant_of-self-in_default
invariant_of-self-in_default c =
    let inside = c.self.inside in
    subst (λ (k : Keys). AreKeyed inside.ports k) (sym c.in_default.ensures.removed)
    (fewer_keyed inside.ports inside.keys c.args.serial (sym c.in_default.ensures.before) c.self.invariant)

pub returns-in-Some : goal.returns-in-Some
returns-in-Some c =
    let inside = c.self.inside in
    ap (λ (k : Keys). by_serial c.remove_at.new.ports k) c.in-Some.ensures.removed
    ∙ removed_is inside.ports c.remove_at.new.ports inside.keys c.args.serial c.in-Some.key c.self.invariant
    (sym c.in-Some.ensures.before) c.remove_at.ensures
    ∙ ap (λ (m : Slots). map.remove m c.args.serial) c.self.view_is

pub returns-in_default : goal.returns-in_default
returns-in_default c =
    let inside = c.self.inside in
    ap (λ (k : Keys). by_serial inside.ports k) c.in_default.ensures.removed
    ∙ absent_removed inside.ports inside.keys c.args.serial ∙ ap
    (λ (m : Slots). map.remove m c.args.serial) c.self.view_is
