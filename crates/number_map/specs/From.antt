-- The entries of a map from a key on.
use Rattle.std.specs.Prelude.{◌≡◌, ℕ, ◌+◌, ◌≤◌, ◌<◌, List, [], ◌∷◌, None, Some}
use Rattle.std.specs.Ordering.{nat_cmp}
use Rattle.std.specs.FinMap as map

-- the list of a map's entries from a key on, in ascending order of keys
abbrev pub IsFrom : {X : Type 0} → map.FinMap {K = ℕ} nat_cmp X → ℕ → List (ℕ × X) → Type 0
IsFrom m from [] = (key : ℕ) → from ≤ key → map.get m key ≡ None
IsFrom m from (e ∷ rest) =
    (from ≤ e.0) × ((key : ℕ) → from ≤ key → key < e.0 → map.get m key ≡ None) × (map.get m e.0 ≡ Some e.1)
    × IsFrom m (e.0 + 1) rest
