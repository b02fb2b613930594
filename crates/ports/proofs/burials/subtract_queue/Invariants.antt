use Rattle.std.proofs.Common.{◌≡◌, drop}
use Rattle.live_ports.specs.Changed.{messages_at}
use Rattle.ports.specs.Counting.{messages_fewer, queue_fewer}
use Rattle.ports.proofs.burials.subtract_queue.Given as goal

abbrev pub invariant-loop-index : goal.invariant-loop-index
invariant-loop-index l = record {
  counts : messages_fewer l.counts.current l.queue (drop l.index (messages_at l.ports.current.ports l.queue))
      ≡ messages_fewer l.fn.counts.current l.queue (messages_at l.ports.current.ports l.queue);
  carriers : queue_fewer l.carriers.current l.queue (drop l.index (messages_at l.ports.current.ports l.queue))
      ≡ queue_fewer l.fn.carriers.current l.queue (messages_at l.ports.current.ports l.queue);
  before : l.counts.before ≡ l.fn.counts.before;
  carriers_before : l.carriers.before ≡ l.fn.carriers.before;
}
