use Rattle.std.proofs.Common.{◌≡◌, length}
use Rattle.snapshot_loading.specs.Filling.{spaced_all}
use Rattle.snapshot_loading.specs.FillLaws.{MaySpace}
use Rattle.snapshot_loading.proofs.filling.fill_spaces.Given as goal

-- filling the rest from here gives the same as filling all from the start
abbrev pub invariant-loop-row : goal.invariant-loop-row
invariant-loop-row l =
    record {
      left : spaced_all l.rest l.state.current ≡ spaced_all l.fn.rows l.fn.state.current;
      may : MaySpace l.rest l.state.current;
    }

abbrev pub decreases-loop-row : goal.decreases-loop-row
decreases-loop-row l = length l.rest
