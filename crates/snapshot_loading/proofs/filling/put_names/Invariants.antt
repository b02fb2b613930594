use Rattle.std.proofs.Common.{◌≡◌, length}
use Rattle.snapshot_loading.specs.Filling.{named_all}
use Rattle.snapshot_loading.specs.FillLaws.{MayName}
use Rattle.snapshot_loading.proofs.filling.put_names.Given as goal

-- adding the rest from here gives the same as adding all from the start
abbrev pub invariant-loop-row : goal.invariant-loop-row
invariant-loop-row l =
    record {
      left : named_all l.space l.rest l.state.current ≡ named_all l.space l.fn.rows l.fn.state.current;
      may : MayName l.space l.rest l.state.current;
    }

abbrev pub decreases-loop-row : goal.decreases-loop-row
decreases-loop-row l = length l.rest
