use Rattle.std.proofs.Common.{sym, ◌∙◌}
use Rattle.live_ports.specs.Tables.{before_of, rolled_back_slot}
use Rattle.live_ports.proofs.Slabbed.{slot_goes, slot_settled}
use Rattle.live_ports.proofs.tables.roll_back_slot.Goals as goal

pub returns-then-was_there : goal.returns-then-was_there
returns-then-was_there c =
    c.roll_back.ensures ∙ slot_settled before_of rolled_back_slot c.args.slots.now c.args.serial c.in-Some.port.now
    c.in-Some.ensures (sym c.was_there.ensures ∙ c.if-was_there.true)

pub returns-else-was_there : goal.returns-else-was_there
returns-else-was_there c =
    c.remove.ensures ∙ slot_goes before_of rolled_back_slot c.args.slots.now c.args.serial c.in-Some.port.now
    c.in-Some.ensures (sym c.was_there.ensures ∙ c.if-was_there.false)
