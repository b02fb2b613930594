use Rattle.std.proofs.Common.{◌≡◌, drop}
use Rattle.queue.proofs.queue.drop_front.Given as goal

abbrev pub invariant-loop : goal.invariant-loop
invariant-loop l = l.messages.items ≡ drop l.counter l.fn.messages.items
