use Rattle.std.proofs.Common.{◌≡◌, All, true, length}
use Rattle.ipc_model.specs.state.Ipc.{Ipc}
use Rattle.snapshot_loading.specs.Filling.{queued_all}
use Rattle.snapshot_loading.specs.FillLaws.{AreAlike}
use Rattle.snapshot_loading.specs.Linked.{is_linked_message, looks_of}
use Rattle.snapshot_loading.proofs.filling.queue_messages.Given as goal

-- appending the rest from here gives the same as appending all from the start
abbrev pub invariant-loop-message : goal.invariant-loop-message
invariant-loop-message l = record {
  left : queued_all l.serial l.rest l.state.current ≡ queued_all l.serial l.fn.messages l.fn.state.current;
  linked : (first : Ipc) × (AreAlike first l.state.current)
      × All (λ message. is_linked_message (looks_of first) message ≡ true) l.rest;
}

abbrev pub decreases-loop-message : goal.decreases-loop-message
decreases-loop-message l = length l.rest
