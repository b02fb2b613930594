use Rattle.std.proofs.Common.{sym, ap, ◌∙◌}
use Rattle.live_ports.specs.Slabbed.{Keys, by_serial}
use Rattle.live_ports.specs.Tables.{Slots, slot_changed, committed_slot}
use Rattle.live_ports.proofs.Slabbed.{absent_changed, slot_is_changed}
use Rattle.live_ports.proofs.slots.PortSlots.commit.Goals as goal

pub returns-in-Some : goal.returns-in-Some
returns-in-Some c =
    let inside = c.self.inside in
    ap (λ (keys : Keys). by_serial c.commit_at.new.ports keys) c.in-Some.ensures.same
    ∙ slot_is_changed (committed_slot) inside.ports c.commit_at.new.ports inside.keys c.args.serial c.in-Some.key
    c.self.invariant (sym c.in-Some.ensures.found) c.commit_at.ensures ∙ ap
    (λ (m : Slots). slot_changed m c.args.serial (committed_slot)) c.self.view_is

pub returns-in_default : goal.returns-in_default
returns-in_default c =
    let inside = c.self.inside in
    ap (λ (keys : Keys). by_serial inside.ports keys) c.in_default.ensures.same
    ∙ absent_changed (committed_slot) inside.ports inside.keys c.args.serial (sym c.in_default.ensures.found) ∙ ap
    (λ (m : Slots). slot_changed m c.args.serial (committed_slot)) c.self.view_is
