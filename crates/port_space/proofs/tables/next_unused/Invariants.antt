use Rattle.std.proofs.Common.{◌≡◌, ◌+◌, ◌≤◌, ◌<◌, ◌-◌, ◌^◌, ℕ, true, is_some}
use Rattle.std.specs.FinMap as map
use Rattle.port_space.proofs.tables.next_unused.Given as goal

abbrev pub invariant-loop-next : goal.invariant-loop-next
invariant-loop-next l = record {
  from_on : l.fn.low + 1 ≤ l.next;
  used : (name : ℕ) → l.fn.low + 1 ≤ name → name < l.next → is_some (map.get l.names.current name) ≡ true;
}

abbrev pub decreases-loop-next : goal.decreases-loop-next
decreases-loop-next l = 2 ^ 32 - l.next
