use Rattle.std.proofs.Common.{◌≡◌, length}
use Rattle.tracked_map.specs.Tracked.{shown}
use Rattle.tracked_map.proofs.Laws.{AreLeft}
use Rattle.tracked_map.proofs.forget_removed.Given as goal

abbrev pub invariant-loop-key : goal.invariant-loop-key
invariant-loop-key g l = record {
  shows : shown l.slots ≡ shown l.fn.slots;
  left : AreLeft l.slots l.rest;
}

abbrev pub decreases-loop-key : goal.decreases-loop-key
decreases-loop-key g l = length l.rest
