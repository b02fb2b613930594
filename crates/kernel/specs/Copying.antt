-- The rows of a snapshot, copied one by one.
use Rattle.std.proofs.Common.{◌≡◌, ℕ, ◌+◌, ◌^◌, ◌<◌, ◌≤◌, true, List, [], ◌∷◌, ◌++◌, map, Option, None, Some, is_some, append_assoc, append-nil, refl, sym, ◌∙◌, ap, arith}
use Rattle.std.specs.Ordering.{nat_cmp}
use Rattle.std.specs.FinMap as finmap
use Rattle.std.specs.FinMap.{FinMap, entries, get}
use Rattle.ipc_model.specs.calls.PortCalls.{names_in}
use Rattle.ipc_model.specs.declared.entry.Entry.{Entry}
use Rattle.ipc_model.specs.declared.port.PortState.{PortState}
use Rattle.ipc_model.specs.declared.reply.NumberedReply.{NumberedReply}
use Rattle.ipc_model.specs.state.Lawful.{Lawful}
use Rattle.ipc_model.specs.state.Ipc.{Names, Ipc}
use Rattle.ipc_model.specs.state.State.{KeptReplies}
use Rattle.port_calls.specs.Passed.{entries_from, from_end, from_first, from_next, IsNextEntry}
use Rattle.snapshot.specs.Rows.{named_row, port_row}
use Rattle.snapshot.specs.declared.rows.LivePort.{LivePort}
use Rattle.snapshot.specs.declared.rows.NamedEntry.{NamedEntry}

-- the row of a port, or no row if it is dead
abbrev pub port_rows : ℕ → Option PortState → List LivePort
port_rows serial None = []
port_rows serial (Some port) = port_row (serial, port) ∷ []

-- the reply that a space keeps
abbrev pub kept_row : KeptReplies → ℕ × Names → Option NumberedReply
kept_row kept e = get kept e.0

module _ {X R : Type 0} (row : ℕ × X → R) (m : FinMap {K = ℕ} nat_cmp X) where
  -- the rows so far, followed by the rows of the entries from key `at` on, are the rows of the whole map
  abbrev pub AreGathered : List R → ℕ → Type 0
  AreGathered rows at = rows ++ map row (entries_from m at) ≡ map row (entries m)

  pub gathered_none : (rows : List R) → rows ≡ [] → AreGathered rows 0
  gathered_none rows none = ap (λ (xs : List R). xs ++ map row (entries_from m 0)) none ∙ ap (map row) (from_first m)

  pub gathered_more : (rows next : List R) (at key : ℕ) (value : X) → at ≤ key → get m key ≡ Some value
      → ((q : ℕ) → at ≤ q → q < key → get m q ≡ None) → next ≡ rows ++ row (key, value) ∷ [] → AreGathered rows at
      → AreGathered next (key + 1)
  gathered_more rows next at key value from there between is gathered =
      ap (λ (xs : List R). xs ++ map row (entries_from m (key + 1))) is
      ∙ append_assoc rows (row (key, value) ∷ []) (map row (entries_from m (key + 1)))
      ∙ ap (λ (es : List (ℕ × X)). rows ++ map row es) (sym (from_next m at key value from there between))
      ∙ gathered

  pub gathered_all : (rows : List R) (at : ℕ) → ((q : ℕ) → at ≤ q → get m q ≡ None) → AreGathered rows at
      → rows ≡ map row (entries m)
  gathered_all rows at none gathered =
      sym (append-nil rows) ∙ ap (λ (es : List (ℕ × X)). rows ++ map row es) (sym (from_end m at none)) ∙ gathered

-- one more name
pub name_more : (names : Names) (rows next : List NamedEntry) (at name : ℕ) (entry : Entry)
    → IsNextEntry names at (Some (name, entry)) → next ≡ rows ++ record { name = name; entry = entry } ∷ []
    → AreGathered named_row names rows at → AreGathered named_row names next (name + 1)
name_more names rows next at name entry is more gathered =
    gathered_more named_row names rows next at name entry is.0 is.1 is.2 more gathered

module _ {R : Type 0} (row : ℕ × Names → R) (state : Ipc) where
  -- one more space
  pub space_more : (rows next : List R) (at number : ℕ) → at ≤ number
      → is_some (get state.spaces number) ≡ true → ((q : ℕ) → at ≤ q → q < number → get state.spaces q ≡ None)
      → next ≡ rows ++ row (number, names_in state number) ∷ []
      → AreGathered row state.spaces rows at → AreGathered row state.spaces next (number + 1)
  space_more rows next at number from some between more gathered =
      gathered_more row state.spaces rows next at number (names_in state number) from
      (there (get state.spaces number) some) between more gathered
    where
      there : (o : Option Names) → is_some o ≡ true
          → o ≡ Some (elim o as (λ _. Names) [ None ↦ finmap.empty | Some names ↦ names ])
      there None none = absurd (cc none)
      there (Some names) _ = refl

  -- no space is left, since each has a number of 32 bits
  pub spaces_all : (rows : List R) (at : ℕ) → Lawful state
      → ((q : ℕ) → at ≤ q → q < 2 ^ 32 → get state.spaces q ≡ None) → AreGathered row state.spaces rows at
      → rows ≡ map row (entries state.spaces)
  spaces_all rows at lawful none gathered =
      gathered_all row state.spaces rows at (λ q le. by q le (get state.spaces q) refl) gathered
    where
      by : (q : ℕ) → at ≤ q → (o : Option Names) → get state.spaces q ≡ o → get state.spaces q ≡ None
      by q le None is = is
      by q le (Some names) is = none q le (omega (arith, (lawful.spaces q names is).1))

-- one more port
pub port_more : (state : Ipc) (rows next : List LivePort) (at serial : ℕ) → at ≤ serial
    → is_some (get state.ports serial) ≡ true → ((q : ℕ) → at ≤ q → q < serial → get state.ports q ≡ None)
    → next ≡ rows ++ port_rows serial (get state.ports serial) → AreGathered port_row state.ports rows at
    → AreGathered port_row state.ports next (serial + 1)
port_more state rows next at serial from some between more gathered = by (get state.ports serial) refl
  where
    by : (o : Option PortState) → get state.ports serial ≡ o → AreGathered port_row state.ports next (serial + 1)
    by None none = absurd (cc (sym some ∙ ap is_some none))
    by (Some port) there =
        gathered_more port_row state.ports rows next at serial port from there between
        (more ∙ ap (λ (o : Option PortState). rows ++ port_rows serial o) there) gathered
