-- Rows by number, as a finite map.
use Rattle.std.specs.Prelude.{ℕ, ◌+◌, List, [], ◌∷◌, Option, None, Some}
use Rattle.std.specs.Ordering.{nat_cmp}
use Rattle.std.specs.FinMap as map

-- the map of the rows with a value, where the first row has this number
abbrev pub rows_from : {X : Type 0} → ℕ → List (Option X) → map.FinMap {K = ℕ} nat_cmp X
rows_from first [] = map.empty
rows_from first (None ∷ rows) = rows_from (first + 1) rows
rows_from first (Some value ∷ rows) = map.insert (rows_from (first + 1) rows) first value
