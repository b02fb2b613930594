use Rattle.std.proofs.Common.{◌≡◌, length}
use Rattle.std.specs.List.{list_all}
use Rattle.snapshot_loading.specs.Linked.{looks_of, travels_well}
use Rattle.snapshot_loading.proofs.linking.travel_well.Given as goal

-- the rest passes exactly if the whole does
abbrev pub invariant-loop-right : goal.invariant-loop-right
invariant-loop-right l =
    list_all (travels_well (looks_of l.state.current)) l.rest
    ≡ list_all (travels_well (looks_of l.state.current)) l.fn.rights

abbrev pub decreases-loop-right : goal.decreases-loop-right
decreases-loop-right l = length l.rest
