use Rattle.std.proofs.Common.{◌≡◌, ◌++◌, flat_map, length}
use Rattle.snapshot_loading.specs.Receivers.{received_with}
use Rattle.snapshot_loading.proofs.receivers.add_messages.Given as goal

-- the ports so far, followed by those of the rest, are all ports
abbrev pub invariant-loop-message : goal.invariant-loop-message
invariant-loop-message l =
    l.found.items ++ flat_map received_with l.rest ≡ l.fn.found.items ++ flat_map received_with l.fn.messages

abbrev pub decreases-loop-message : goal.decreases-loop-message
decreases-loop-message l = length l.rest
