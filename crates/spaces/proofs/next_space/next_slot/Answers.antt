use Rattle.std.proofs.Common.{Option, is_some, option_and_then, sym, ap, ◌∙◌, arith}
use Rattle.std.specs.FinMap as map
use Rattle.spaces.specs.Slots.{SpaceSlot, is}
use Rattle.spaces.proofs.next_space.next_slot.Goals as goal

pub returns-clause-slot : goal.returns-clause-slot
returns-clause-slot c =
    let same = c.in-Ok.ensures.1 in
    let there = ap (map.get c.args.slots.now) same ∙ c.in-Some.ensures.1 in (
      omega (arith, same, c.in-Some.ensures.0),
      c.is_there.ensures ∙ sym (ap (λ (slot : Option SpaceSlot). is_some (option_and_then is slot)) there),
      λ number after before. c.in-Some.ensures.2 number after (omega (arith, before, same)),
    )
