use Rattle.std.proofs.Common.{◌≡◌, length}
use Rattle.disk.proofs.crash.torn_range.Given as goal

abbrev pub invariant-loop-index : goal.invariant-loop-index
invariant-loop-index l = length l.new.items ≡ l.index
