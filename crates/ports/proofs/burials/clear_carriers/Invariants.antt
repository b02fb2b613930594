use Rattle.std.proofs.Common.{◌≡◌, ℕ, ◌<◌, ◌^◌, ◌==◌, false}
use Rattle.std.specs.FinMap.{len}
use Rattle.port_indexes.specs.Counts.{count_at}
use Rattle.ports.proofs.burials.clear_carriers.Given as goal

abbrev pub invariant-loop-outer : goal.invariant-loop-outer
invariant-loop-outer l = record {
  others : (a b : ℕ) → b < 2 ^ 64 → (a == l.inner) ≡ false
      → count_at l.carriers.current a b ≡ count_at l.fn.carriers.current a b;
  before : l.carriers.before ≡ l.fn.carriers.before;
}

abbrev pub decreases-loop-outer : goal.decreases-loop-outer
decreases-loop-outer l = len l.carriers.current
