use Rattle.std.proofs.Common.{◌≡◌, ℕ, true, length}
use Rattle.tracked_map.specs.Tracked.{over, shown, is_among, AreMarked, HasSlots}
use Rattle.tracked_map.proofs.put_back.Given as goal

abbrev pub invariant-loop-key : goal.invariant-loop-key
invariant-loop-key g l = record {
  shows : over (shown l.slots) l.rest ≡ over (shown l.fn.slots) l.fn.former;
  kept : HasSlots l.slots l.rest;
  marked : AreMarked l.slots l.fn.former;
  within : (key : ℕ) → is_among key l.rest ≡ true → is_among key l.fn.former ≡ true;
}

abbrev pub decreases-loop-key : goal.decreases-loop-key
decreases-loop-key g l = length l.rest
