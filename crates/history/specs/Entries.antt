-- Entries of the history, and how they lie in their cells.
use Rattle.std.specs.Prelude.{◌≡◌, ℕ, List, [], ◌∷◌, ◌++◌, length, map, take, refl}
use Rattle.std.specs.Coded.{Coded, code_by, coded×, coded_ℕ, coded_list}
use base.Stored.{Gv, gnil, gnum, gcons}
use Rattle.history.specs.declared.entry.Entry.{Entry}
use Rattle.history.specs.contracts.entry.Entry as entry
use Rattle.ipc_model.specs.declared.record.Record.{Record}

-- a tree of numbers as a list of numbers
unfoldable pub numbers_of_tree : Gv → List ℕ
numbers_of_tree gnil = 0 ∷ []
numbers_of_tree (gnum n) = 1 ∷ n ∷ []
numbers_of_tree (gcons left right) = 2 ∷ (numbers_of_tree left ++ numbers_of_tree right)

-- entries as numbers: different entries have different numbers
unfoldable pub numbers_of : List Entry → List ℕ
numbers_of entries = numbers_of_tree ((coded_list entry.the_row.coded).code entries)

-- an entry in its cell: the entry, and all entries before it, as numbers
pub record PlacedValue : Type 0 where
  pub entry : Entry
  pub before : List ℕ

abbrev pub placed_code : Coded PlacedValue
placed_code =
    code_by (Entry × List ℕ) (coded× entry.the_row.coded (coded_list coded_ℕ)) (λ p. (p.entry, p.before))
    (λ p. record { entry = p.0; before = p.1 }) (λ _. refl)

-- the entry that comes after these
abbrev pub place_after : List Entry → Entry → PlacedValue
place_after before e = record { entry = e; before = numbers_of before }

-- entries as they lie in their cells, after the ones before them
abbrev pub placed_from : List Entry → List Entry → List PlacedValue
placed_from before [] = []
placed_from before (e ∷ entries) = place_after before e ∷ placed_from (before ++ e ∷ []) entries

abbrev pub placed : List Entry → List PlacedValue
placed entries = placed_from [] entries

-- one list is a prefix of the other
abbrev pub Begins : List Entry → List Entry → Type 0
Begins short long = take (length short) long ≡ short

-- the records of entries
abbrev pub records_of : List Entry → List Record
records_of entries = map (λ e. e.«record») entries
