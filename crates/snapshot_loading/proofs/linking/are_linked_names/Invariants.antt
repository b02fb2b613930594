use Rattle.std.proofs.Common.{◌≡◌, length}
use Rattle.std.specs.List.{list_all}
use Rattle.snapshot_loading.specs.Linked.{is_linked_name, looks_of}
use Rattle.snapshot_loading.proofs.linking.are_linked_names.Given as goal

-- the rest passes exactly if the whole does
abbrev pub invariant-loop-row : goal.invariant-loop-row
invariant-loop-row l =
    list_all (is_linked_name (looks_of l.state.current) l.space) l.rest
    ≡ list_all (is_linked_name (looks_of l.state.current) l.space) l.fn.rows

abbrev pub decreases-loop-row : goal.decreases-loop-row
decreases-loop-row l = length l.rest
