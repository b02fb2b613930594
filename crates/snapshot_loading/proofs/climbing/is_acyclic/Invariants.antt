use Rattle.std.proofs.Common.{◌≡◌, ℕ}
use Rattle.std.specs.FinMap.{get}
use Rattle.snapshot_loading.specs.Climbing.{doubled, up_of}
use Rattle.snapshot_loading.proofs.climbing.is_acyclic.Given as goal

abbrev pub invariant-loop-round : goal.invariant-loop-round
invariant-loop-round l = (q : ℕ) → get l.up q ≡ doubled l._round (up_of l.state.current) q
