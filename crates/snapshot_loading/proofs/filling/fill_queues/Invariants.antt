use Rattle.std.proofs.Common.{◌≡◌, All, true, length}
use Rattle.snapshot_loading.specs.Filling.{filled_all}
use Rattle.snapshot_loading.specs.FillLaws.{AreAlike}
use Rattle.snapshot_loading.specs.Linked.{is_linked_row, looks_of}
use Rattle.snapshot_loading.proofs.filling.fill_queues.Given as goal

-- filling the rest from here gives the same as filling all from the start
abbrev pub invariant-loop-row : goal.invariant-loop-row
invariant-loop-row l = record {
  left : filled_all l.rest l.state.current ≡ filled_all l.fn.rows l.fn.state.current;
  alike : AreAlike l.fn.state.current l.state.current;
  linked : All (λ row. is_linked_row (looks_of l.fn.state.current) row ≡ true) l.rest;
}

abbrev pub decreases-loop-row : goal.decreases-loop-row
decreases-loop-row l = length l.rest
