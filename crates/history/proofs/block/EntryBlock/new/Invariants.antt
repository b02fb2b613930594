use Rattle.std.proofs.Common.{◌≡◌, vec_len, vec_capacity}
use Rattle.history.proofs.block.EntryBlock.new.Given as goal

abbrev pub invariant-loop : goal.invariant-loop
invariant-loop l = (vec_len l.cells ≡ l.counter) × (vec_capacity l.cells ≡ l.capacity)
