-- Prefixes of the history, as notes of cells show them.
use Rattle.std.specs.Prelude.{◌≡◌, ℕ, ◌≤◌, Option, Some, None, List, [], ◌∷◌, length, map, take, refl}
use Rattle.std.specs.Coded.{Coded, code_by, coded×, coded_ℕ, coded_list, coded_option}
use Rattle.history.specs.declared.entry.Entry.{Entry}
use Rattle.history.specs.contracts.entry.Entry as entry
use Rattle.history.specs.Entries.{PlacedValue, placed}
use Rattle.history.specs.Blocks.{BlockNames, PlaceValue, names_code, names_after, Leads}

-- A prefix of the history: its entries, how many entry blocks came before its block, where that block begins, and the
-- names of its cells.
pub record PastValue : Type 0 where
  pub entries : List Entry
  pub blocks : ℕ
  pub start : ℕ
  pub block : BlockNames

abbrev pub past_code : Coded PastValue
past_code =
    code_by (List Entry × (ℕ × (ℕ × BlockNames)))
    (coded× (coded_list entry.the_row.coded) (coded× coded_ℕ (coded× coded_ℕ names_code)))
    (λ p. (p.entries, (p.blocks, (p.start, p.block))))
    (λ p. record { entries = p.0; blocks = p.1.0; start = p.1.1.0; block = p.1.1.1 }) (λ _. refl)

-- What a prefix knows of a cell of its block: the cell's name, and its entry.
pub record NoteValue : Type 0 where
  pub cell : ℕ
  pub known : Option Entry

abbrev pub note_code : Coded NoteValue
note_code =
    code_by (ℕ × Option Entry) (coded× coded_ℕ (coded_option entry.the_row.coded)) (λ n. (n.cell, n.known))
    (λ p. record { cell = p.0; known = p.1 }) (λ _. refl)

-- the entries that notes know
abbrev pub known_entries : List (Option PlacedValue) → List Entry
known_entries [] = []
known_entries (None ∷ known) = known_entries known
known_entries (Some p ∷ known) = p.entry ∷ known_entries known

-- each note knows the entry at its place, with all entries before it
abbrev pub AreKnown : List (Option PlacedValue) → Type 0
AreKnown known = known ≡ map Some (placed (known_entries known))

-- there is a note for each of the first cells
pub record AreNotes (cells noted : List ℕ) (known : List (Option PlacedValue)) : Type 0 where
  pub names : noted ≡ take (length noted) cells
  pub entries : AreKnown known

-- Of a prefix of the history: its notes are of the cells of all entry blocks that led there.
pub record IsPast (first : BlockNames) (place : PlaceValue) (noted : List ℕ)
    (known : List (Option PlacedValue)) : Type 0 where
  pub notes : AreNotes (names_after first place.links).cells noted known
  pub leads : Leads first place.links (names_after first place.links).cells (length noted)
  pub begun : place.start ≤ length noted
