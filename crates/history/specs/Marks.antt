-- How many records are stored, and what passes of a mark's cell know of it.
use Rattle.std.specs.Prelude.{◌≡◌, ℕ, ◌≤◌, List, [], slice_index, true, false}
use mathlib.Core.Option.{some}
use lib.ListN.{get_elem?}
use Rattle.atomic_table.specs.Seated.{TableId}
use Rattle.history.specs.declared.mark.View.{View}

-- the name of no cell
abbrev pub no_table : TableId
no_table = record { words = 0; slots = 0; views_name = 0; atom = 0; block = 0; offset = 0; slot_names = [] }

-- the counting pass, where so many are stored
abbrev pub counting : ℕ → View
counting stored = record { counts = true; stored = stored; known = 0 }

-- a pass that knows that so many are stored
abbrev pub knowing : ℕ → View
knowing known = record { counts = false; stored = 0; known = known }

-- a pass, with what another one knows
abbrev pub alongside : View → View → View
alongside v w = record { counts = v.counts; stored = v.stored; known = w.known }

-- One pass at most counts, and it knows how many are stored. No pass knows of more.
abbrev pub IsKept : List ℕ → List View → Type 0
IsKept words views =
    (seat stored : ℕ)
    × ((by : ℕ) (v : View) → get_elem? views by ≡ some v
    → (v.counts ≡ true → (by ≡ seat) × (v.stored ≡ stored)) × (v.known ≤ stored))

-- the counting pass counts as many as it writes
abbrev pub Counted : View → List ℕ → List ℕ → View → Type 0
Counted v before after w = w ≡ record { counts = v.counts; stored = slice_index after 0; known = v.known }

-- the counting pass compares what it was told, and forgets it
abbrev pub Compared : View → List ℕ → List ℕ → View → Type 0
Compared v before after w = (w ≡ counting v.stored) × (v.known ≤ v.stored)
