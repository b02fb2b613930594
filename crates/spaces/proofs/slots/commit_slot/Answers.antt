use Rattle.std.proofs.Common.{sym, ◌∙◌}
use Rattle.spaces.specs.Slots.{is, committed_slot}
use Rattle.spaces.proofs.Turning.{slot_gone}
use Rattle.spaces.proofs.slots.commit_slot.Goals as goal

pub returns : goal.returns
returns c =
    slot_gone is committed_slot c.args.slots.now c.remove.new.self c.args.key c.in-Some.slot.now
    (sym c.in-Some.ensures.value) (sym c.is_there.ensures ∙ c.if-is_there.false) c.remove.ensures.removed
