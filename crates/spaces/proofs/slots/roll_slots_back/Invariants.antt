use Rattle.std.proofs.Common.{◌≡◌, length}
use Rattle.spaces.specs.Slots.{was, is}
use Rattle.tracked_map.specs.Slots.{picked}
use Rattle.tracked_map.specs.Touched.{AreTouched}
use Rattle.spaces.proofs.slots.roll_slots_back.Given as goal

abbrev pub invariant-loop-key : goal.invariant-loop-key
invariant-loop-key l = record {
  shown : picked was l.slots ≡ picked was l.fn.slots;
  rest : AreTouched is was l.slots l.rest;
}

abbrev pub decreases-loop-key : goal.decreases-loop-key
decreases-loop-key l = length l.rest
