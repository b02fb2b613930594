use Rattle.std.proofs.Common.{◌≡◌, ℕ, ◌-◌, ◌^◌, None, cond, nat_lt}
use Rattle.std.specs.FinMap.{get}
use Rattle.snapshot_loading.specs.Climbing.{up_of}
use Rattle.snapshot_loading.proofs.climbing.hops.Given as goal

-- the hops of the ports below
abbrev pub invariant-loop-serial : goal.invariant-loop-serial
invariant-loop-serial l = (q : ℕ) → get l.up q ≡ cond (nat_lt q l.at) (up_of l.state.current q) None

abbrev pub decreases-loop-serial : goal.decreases-loop-serial
decreases-loop-serial l = 2 ^ 64 - l.at
