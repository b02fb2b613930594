use Rattle.std.proofs.Common.{sym, ◌∙◌}
use Rattle.spaces.specs.Slots.{was, rolled_back_slot}
use Rattle.spaces.proofs.Turning.{slot_gone}
use Rattle.spaces.proofs.slots.roll_slot_back.Goals as goal

pub returns : goal.returns
returns c =
    slot_gone was rolled_back_slot c.args.slots.now c.remove.new.self c.args.key c.in-Some.slot.now
    (sym c.in-Some.ensures.value) (sym c.was_there.ensures ∙ c.if-was_there.false) c.remove.ensures.removed
