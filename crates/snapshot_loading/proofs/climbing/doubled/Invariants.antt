use Rattle.std.proofs.Common.{◌≡◌, ℕ, ◌-◌, ◌^◌, None, cond, nat_lt}
use Rattle.std.specs.FinMap.{get}
use Rattle.snapshot_loading.specs.Climbing.{twice}
use Rattle.snapshot_loading.proofs.climbing.doubled.Given as goal

-- the doubled hops of the ports below
abbrev pub invariant-loop-serial : goal.invariant-loop-serial
invariant-loop-serial l = (q : ℕ) → get l.farther q ≡ cond (nat_lt q l.at) (twice (get l.up) q) None

abbrev pub decreases-loop-serial : goal.decreases-loop-serial
decreases-loop-serial l = 2 ^ 64 - l.at
