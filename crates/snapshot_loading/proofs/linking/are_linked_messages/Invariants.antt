use Rattle.std.proofs.Common.{◌≡◌, length}
use Rattle.std.specs.List.{list_all}
use Rattle.snapshot_loading.specs.Linked.{is_linked_message, looks_of}
use Rattle.snapshot_loading.proofs.linking.are_linked_messages.Given as goal

-- the rest passes exactly if the whole does
abbrev pub invariant-loop-message : goal.invariant-loop-message
invariant-loop-message l =
    list_all (is_linked_message (looks_of l.state.current)) l.rest
    ≡ list_all (is_linked_message (looks_of l.state.current)) l.fn.messages

abbrev pub decreases-loop-message : goal.decreases-loop-message
decreases-loop-message l = length l.rest
