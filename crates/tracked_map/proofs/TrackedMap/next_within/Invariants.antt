use Rattle.std.proofs.Common.{length}
use Rattle.tracked_map.proofs.Laws.{Goes}
use Rattle.tracked_map.proofs.TrackedMap.next_within.Given as goal

abbrev pub invariant-loop-key : goal.invariant-loop-key
invariant-loop-key g l = Goes l.self.current l.fn.from l.rest

abbrev pub decreases-loop-key : goal.decreases-loop-key
decreases-loop-key g l = length l.rest
