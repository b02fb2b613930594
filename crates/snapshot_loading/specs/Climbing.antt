-- Hops from ports to the ports that carry their receive rights, doubled repeatedly.
use Rattle.std.specs.Prelude.{◌≡◌, ℕ, zero, suc, cond, Option, None, Some, option_and_then}
use Rattle.std.specs.Ordering.{nat_cmp}
use Rattle.std.specs.FinMap.{FinMap, insert}
use Rattle.ipc_model.specs.state.Circular.{carrier_of}
use Rattle.ipc_model.specs.state.Ipc.{Ipc, lives}

-- a hop: from a live port to the one that carries its receive right
abbrev pub up_of : Ipc → ℕ → Option ℕ
up_of state q = cond (lives state q) (carrier_of state q) None

abbrev pub twice : (ℕ → Option ℕ) → ℕ → Option ℕ
twice f q = option_and_then f (f q)

-- hops that are doubled k times
abbrev pub doubled : ℕ → (ℕ → Option ℕ) → ℕ → Option ℕ
doubled zero f = f
doubled (suc k) f = twice (doubled k f)

-- hops lead nowhere if they are doubled often enough
abbrev pub EndsSomewhere : Ipc → Type 0
EndsSomewhere state = (k : ℕ) × ((q : ℕ) → doubled k (up_of state) q ≡ None)

-- the hops with one more, if there is one
abbrev pub with_hop : FinMap {K = ℕ} nat_cmp ℕ → ℕ → Option ℕ → FinMap {K = ℕ} nat_cmp ℕ
with_hop up serial None = up
with_hop up serial (Some to) = insert up serial to
