use Rattle.std.proofs.Common.{◌≡◌, length}
use Rattle.snapshot_loading.specs.Filling.{opened_all}
use Rattle.snapshot_loading.specs.FillLaws.{MayOpen}
use Rattle.snapshot_loading.proofs.filling.open_ports.Given as goal

-- adding the rest from here gives the same as adding all from the start
abbrev pub invariant-loop-row : goal.invariant-loop-row
invariant-loop-row l =
    record {
      left : opened_all l.rest l.state.current ≡ opened_all l.fn.rows l.fn.state.current;
      may : MayOpen l.rest l.state.current;
    }

abbrev pub decreases-loop-row : goal.decreases-loop-row
decreases-loop-row l = length l.rest
