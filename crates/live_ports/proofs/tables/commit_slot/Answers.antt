use Rattle.std.proofs.Common.{sym, ◌∙◌}
use Rattle.live_ports.specs.Tables.{current_of, committed_slot}
use Rattle.live_ports.proofs.Slabbed.{slot_goes, slot_settled}
use Rattle.live_ports.proofs.tables.commit_slot.Goals as goal

pub returns-then-is_there : goal.returns-then-is_there
returns-then-is_there c =
    c.commit.ensures ∙ slot_settled current_of committed_slot c.args.slots.now c.args.serial c.in-Some.port.now
    c.in-Some.ensures (sym c.is_there.ensures ∙ c.if-is_there.true)

pub returns-else-is_there : goal.returns-else-is_there
returns-else-is_there c =
    c.remove.ensures ∙ slot_goes current_of committed_slot c.args.slots.now c.args.serial c.in-Some.port.now
    c.in-Some.ensures (sym c.is_there.ensures ∙ c.if-is_there.false)
