use Rattle.std.proofs.Common.{ap}
use Rattle.spaces.specs.Slots.{SpaceSlot, slot_at_rest}
use Rattle.spaces.proofs.slot.Space.roll_back.Goals as goal

pub invariant_of-self : goal.invariant_of-self
invariant_of-self c = rw c.roll_back.ensures (c.self.invariant.0, c.self.invariant.0)

pub returns : goal.returns
returns c = rw c.roll_back.ensures (ap (λ (s : SpaceSlot). slot_at_rest s.before) c.self.view_is)
