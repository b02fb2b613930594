use Rattle.std.proofs.Common.{Some, is_some, sym, ap, ◌∙◌}
use Rattle.std.specs.FinMap as map
use Rattle.live_ports.specs.PortSlot.{PortSlot}
use Rattle.live_ports.specs.Slabbed.{by_serial}
use Rattle.live_ports.specs.Tables.{Slots}
use Rattle.live_ports.proofs.Slabbed.{replaced_is, slot_is_changed, stands}
use Rattle.live_ports.proofs.slots.PortSlots.insert.Goals as goal

pub returns-in-Some-clause-ok : goal.returns-in-Some-clause-ok
returns-in-Some-clause-ok c =
    let inside = c.self.inside in
    let at = sym c.in-Some.ensures in
    slot_is_changed (λ (_ : PortSlot). c.args.port) inside.ports c.replace_at.new.ports inside.keys c.args.serial
    c.in-Some.key c.self.invariant at c.replace_at.ensures
    ∙ replaced_is c.args.port (by_serial inside.ports inside.keys) c.args.serial
    (ap is_some (stands inside.ports inside.keys c.args.serial (Some c.in-Some.key) at)
    ∙ c.self.invariant.there c.args.serial c.in-Some.key at)
    ∙ ap (λ (m : Slots). map.insert m c.args.serial c.args.port) c.self.view_is
