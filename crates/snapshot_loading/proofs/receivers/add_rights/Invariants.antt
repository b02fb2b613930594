use Rattle.std.proofs.Common.{◌≡◌, ◌++◌, flat_map, length}
use Rattle.snapshot_loading.specs.Receivers.{received_by}
use Rattle.snapshot_loading.proofs.receivers.add_rights.Given as goal

-- the ports so far, followed by those of the rest, are all ports
abbrev pub invariant-loop-right : goal.invariant-loop-right
invariant-loop-right l =
    l.found.items ++ flat_map received_by l.rest ≡ l.fn.found.items ++ flat_map received_by l.fn.rights

abbrev pub decreases-loop-right : goal.decreases-loop-right
decreases-loop-right l = length l.rest
