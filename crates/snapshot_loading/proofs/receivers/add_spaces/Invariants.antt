use Rattle.std.proofs.Common.{◌≡◌, ◌++◌, flat_map, length}
use Rattle.snapshot_loading.specs.Receivers.{received_in}
use Rattle.snapshot_loading.proofs.receivers.add_spaces.Given as goal

-- the ports so far, followed by those of the rest, are all ports
abbrev pub invariant-loop-row : goal.invariant-loop-row
invariant-loop-row l = l.found.items ++ flat_map received_in l.rest ≡ l.fn.found.items ++ flat_map received_in l.fn.rows

abbrev pub decreases-loop-row : goal.decreases-loop-row
decreases-loop-row l = length l.rest
