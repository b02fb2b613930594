-- Rows of a snapshot as finite maps.
use Rattle.std.proofs.Common.{◌≡◌, ℕ, ◌+◌, ◌<◌, ◌≤◌, ◌==◌, nat_lt, slice_index_or, Bool, true, false, cond, T, All, List, [], ◌∷◌, ◌++◌, map, Some, append_assoc, append-nil, refl, sym, ◌∙◌, ap, subst, arith}
use Rattle.std.proofs.lemmas.Bool.{le-ltb, ltb-true}
use Rattle.std.proofs.lemmas.List.Elements.{All-nil, All-cons, All-head, All-tail}
use Rattle.std.specs.Cmp.{nat_cmp_total}
use Rattle.std.specs.Ordering.{nat_cmp, eq_by_cmp, is_lt}
use Rattle.std.specs.declared.cmp.Ordering.TheVariants.{Less, Equal, Greater}
use Rattle.std.specs.declared.cmp.Ordering.{Ordering}
use Rattle.std.specs.FinMap.{FinMap, empty, entries, get, insert, put, find, from_sorted, is_sorted, entries_sorted, same_entries_map, entries-insert, entries-from_sorted, get-entries}
use Rattle.std.specs.FinMap.Entries.{below_all, by_order}
use Rattle.ipc_laws.specs.Dangling.{not_equal, front_of, back_of, later_found}
use Rattle.ipc_laws.specs.MapLaws.{entries_none}
use Rattle.ipc_laws.specs.ListLaws.{some_same}
use Rattle.ipc_laws.specs.MapSums.{key_is, same_key}
use Rattle.ipc_model.specs.declared.entry.Entry.{Entry}
use Rattle.ipc_model.specs.declared.port.PortState.{PortState}
use Rattle.ipc_model.specs.state.Ipc.{Names, Ipc}
pub use Rattle.snapshot.specs.Ascending.{AscendsFrom, name_of, number_of, serial_of}
use Rattle.snapshot.specs.Snapshots.{names_of, ipc_snapshot_of}
use Rattle.snapshot.specs.declared.rows.LivePort.{LivePort}
use Rattle.snapshot.specs.declared.rows.NamedEntry.{NamedEntry}
use Rattle.snapshot.specs.declared.rows.IpcSnapshot.{IpcSnapshot}
use Rattle.snapshot.specs.declared.rows.Space.{Space}

abbrev pub key_of : {X : Type 0} → ℕ × X → ℕ
key_of e = e.0

pub greater : (k n : ℕ) → n < k → nat_cmp k n ≡ Greater
greater k n less =
    ap (λ (b : Bool). cond b Less (cond (k == n) Equal Greater)) (le-ltb k n (omega (arith, less)))
    ∙ ap (λ (b : Bool). cond b Equal Greater) (not_equal k n (λ same. absurd (omega (arith, same, less))))

is_less : (k n : ℕ) → T (is_lt (nat_cmp k n)) → k < n
is_less k n less =
    elim (nat_lt k n) as (λ (b : Bool). nat_lt k n ≡ b → T (is_lt (cond b Less (cond (k == n) Equal Greater)))
    → k < n) [
      | true ↦ λ (is : _) (_ : _). ltb-true k n is
      | false ↦ λ (_ : _) (e : _). absurd (tie (k == n) e)
    ] refl less
  where
    tie : (b : Bool) → T (is_lt (cond b Equal Greater)) → ⊥
    tie true e = e
    tie false e = e

module _ {X : Type 0} where
  -- entries inserted into a map, one by one
  abbrev pub put_all : List (ℕ × X) → FinMap {K = ℕ} nat_cmp X → FinMap {K = ℕ} nat_cmp X
  put_all [] m = m
  put_all (e ∷ es) m = put_all es (insert m e.0 e.1)

  -- each key is below a number
  abbrev pub AreUnder : ℕ → List (ℕ × X) → Type 0
  AreUnder at [] = Unit {0}
  AreUnder at (e ∷ es) = (e.0 < at) × AreUnder at es

  -- a key above all others is inserted at the end
  put_last : (k : ℕ) (v : X) (es : List (ℕ × X)) → AreUnder k es → put nat_cmp k v es ≡ es ++ (k, v) ∷ []
  put_last k v [] under = refl
  put_last k v (e ∷ es) under =
      ap (λ (r : Ordering). by_order r ((k, v) ∷ e ∷ es) ((e.0, v) ∷ es) (e ∷ put nat_cmp k v es))
      (greater k e.0 under.0)
      ∙ ap (λ (xs : List (ℕ × X)). e ∷ xs) (put_last k v es under.1)

  pub under_more : (at next : ℕ) (es : List (ℕ × X)) → at ≤ next → AreUnder at es → AreUnder next es
  under_more at next [] le under = tt
  under_more at next (e ∷ es) le under = (omega (arith, le, under.0), under_more at next es le under.1)

  pub under_last : (at k : ℕ) (v : X) (es : List (ℕ × X)) → at ≤ k → AreUnder at es
      → AreUnder (k + 1) (es ++ (k, v) ∷ [])
  under_last at k v [] le under = (omega arith, tt)
  under_last at k v (e ∷ es) le under = (omega (arith, le, under.0), under_last at k v es le under.1)

  -- ascending entries are appended to those of the map
  pub all_put : (es : List (ℕ × X)) (m : FinMap {K = ℕ} nat_cmp X) (at : ℕ) → AreUnder at (entries m)
      → AscendsFrom at (map key_of es) → entries (put_all es m) ≡ entries m ++ es
  all_put [] m at under ascends = sym (append-nil (entries m))
  all_put (e ∷ es) m at under ascends =
      let put : entries (insert m e.0 e.1) ≡ entries m ++ e ∷ [] =
      entries-insert nat_cmp_total m e.0 e.1
      ∙ put_last e.0 e.1 (entries m) (under_more at e.0 (entries m) ascends.0 under) in
      all_put es (insert m e.0 e.1) (e.0 + 1)
      (subst (AreUnder (e.0 + 1)) (sym put) (under_last at e.0 e.1 (entries m) ascends.0 under)) ascends.1
      ∙ ap (λ (xs : List (ℕ × X)). xs ++ es) put
      ∙ append_assoc (entries m) (e ∷ []) es

  -- the map of ascending entries
  abbrev pub map_of : List (ℕ × X) → FinMap {K = ℕ} nat_cmp X
  map_of es = put_all es empty

  pub entries_of : (es : List (ℕ × X)) (at : ℕ) → AscendsFrom at (map key_of es) → entries (map_of es) ≡ es
  entries_of es at ascends =
      all_put es empty at (subst (AreUnder at) (sym entries_none) tt) ascends ∙ ap
      (λ (xs : List (ℕ × X)). xs ++ es) entries_none

  -- a key found above another key is at least its successor
  pub over : (low k : ℕ) (v : X) (es : List (ℕ × X)) → T (below_all nat_cmp low es) → find nat_cmp k es ≡ Some v
      → low + 1 ≤ k
  over low k v [] below there = absurd (cc there)
  over low k v (e ∷ es) below there =
      elim (eq_by_cmp nat_cmp k e.0)
      as (λ (b : Bool). eq_by_cmp nat_cmp k e.0 ≡ b → cond b (Some e.1) (find nat_cmp k es) ≡ Some v → low + 1 ≤ k) [
        | true ↦ λ (same : _) (_ : _). omega (
          arith,
          key_is k e.0 same,
          is_less low e.0
              (front_of (is_lt (nat_cmp low e.0)) (below_all nat_cmp low es) below),
        )
        | false ↦ λ (_ : _) (later : _). over low k v es
            (back_of (is_lt (nat_cmp low e.0)) (below_all nat_cmp low es) below) later
      ] refl there

  -- a key of ascending entries isn't below the lower bound
  found_from : (at : ℕ) (es : List (ℕ × X)) (k : ℕ) (v : X) → AscendsFrom at (map key_of es)
      → find nat_cmp k es ≡ Some v → at ≤ k
  found_from at [] k v ascends there = absurd (cc there)
  found_from at (e ∷ es) k v ascends there =
      elim (eq_by_cmp nat_cmp k e.0)
      as (λ (b : Bool). eq_by_cmp nat_cmp k e.0 ≡ b → cond b (Some e.1) (find nat_cmp k es) ≡ Some v → at ≤ k) [
        | true ↦ λ (same : _) (_ : _). omega (arith, key_is k e.0 same, ascends.0)
        | false ↦ λ (_ : _) (later : _). omega (arith, ascends.0, found_from (e.0 + 1) es k v ascends.1 later)
      ] refl there

  pub ascending_keys : (at : ℕ) (m : FinMap {K = ℕ} nat_cmp X) (k : ℕ) (v : X) → AscendsFrom at (map key_of (entries m))
      → get m k ≡ Some v → at ≤ k
  ascending_keys at m k v ascends there = found_from at (entries m) k v ascends (sym (get-entries m k) ∙ there)

  -- the entries of a map ascend
  risen : (at : ℕ) (es : List (ℕ × X)) → ((k : ℕ) (v : X) → find nat_cmp k es ≡ Some v → at ≤ k)
      → T (is_sorted nat_cmp es) → AscendsFrom at (map key_of es)
  risen at [] from sorted = tt
  risen at (e ∷ es) from sorted =
      let below = front_of (below_all nat_cmp e.0 es) (is_sorted nat_cmp es) sorted in
      let rest = back_of (below_all nat_cmp e.0 es) (is_sorted nat_cmp es) sorted in (
        from e.0 e.1 (ap (λ (b : Bool). cond b (Some e.1) (find nat_cmp e.0 es)) (same_key e.0)),
        risen (e.0 + 1) es (λ k v there. over e.0 k v es below there) rest,
      )

  pub entries_ascend : (at : ℕ) (m : FinMap {K = ℕ} nat_cmp X) → ((k : ℕ) (v : X) → get m k ≡ Some v → at ≤ k)
      → AscendsFrom at (map key_of (entries m))
  entries_ascend at m from = risen at (entries m) (λ k v there. from k v (get-entries m k ∙ there)) (entries_sorted m)

  -- a fact about all entries found in a map holds of its list of entries, and conversely
  all_of : (P : ℕ × X → Type 0) (es : List (ℕ × X)) → T (is_sorted nat_cmp es)
      → ((k : ℕ) (x : X) → find nat_cmp k es ≡ Some x → P (k, x)) → All P es
  all_of P [] sorted each = All-nil P
  all_of P (e ∷ es) sorted each =
      All-cons P e es (each e.0 e.1 (ap (λ (b : Bool). cond b (Some e.1) (find nat_cmp e.0 es)) (same_key e.0)))
      (all_of P es (back_of (below_all nat_cmp e.0 es) (is_sorted nat_cmp es) sorted)
      (λ k x there. each k x (later_found k x e es
      (front_of (below_all nat_cmp e.0 es) (is_sorted nat_cmp es) sorted) there)))

  pub all_entries : (P : ℕ × X → Type 0) (m : FinMap {K = ℕ} nat_cmp X)
      → ((k : ℕ) (x : X) → get m k ≡ Some x → P (k, x)) → All P (entries m)
  all_entries P m each = all_of P (entries m) (entries_sorted m) (λ k x there. each k x (get-entries m k ∙ there))

  found_in : (P : ℕ × X → Type 0) (es : List (ℕ × X)) (k : ℕ) (x : X) → All P es → find nat_cmp k es ≡ Some x → P (k, x)
  found_in P [] k x all there = absurd (cc there)
  found_in P (e ∷ es) k x all there =
      elim (eq_by_cmp nat_cmp k e.0)
      as (λ (b : Bool). eq_by_cmp nat_cmp k e.0 ≡ b → cond b (Some e.1) (find nat_cmp k es) ≡ Some x → P (k, x)) [
        | true ↦ λ (same : _) (here : _).
            subst P (ap (λ (n : ℕ). (n, e.1)) (sym (key_is k e.0 same)) ∙ ap (λ (v : X). (k, v)) (some_same e.1 x here))
            (All-head P e es all)
        | false ↦ λ (_ : _) (later : _). found_in P es k x (All-tail P e es all) later
      ] refl there

  pub each_entry : (P : ℕ × X → Type 0) (m : FinMap {K = ℕ} nat_cmp X) (k : ℕ) (x : X) → All P (entries m)
      → get m k ≡ Some x → P (k, x)
  each_entry P m k x all there = found_in P (entries m) k x all (sym (get-entries m k) ∙ there)

-- Rows and entries.

abbrev pub entry_of : NamedEntry → ℕ × Entry
entry_of row = (row.name, row.entry)

abbrev pub names_in_rows : List NamedEntry → Names
names_in_rows rows = map_of (map entry_of rows)

abbrev pub space_of : Space → ℕ × Names
space_of row = (row.number, names_in_rows row.names)

abbrev pub port_in_row : LivePort → ℕ × PortState
port_in_row row = (row.serial, row.state)

-- The state with a snapshot's rows.
abbrev pub state_of_rows : IpcSnapshot → Ipc
state_of_rows snapshot =
    record {
      spaces = map_of (map space_of snapshot.spaces);
      ports = map_of (map port_in_row snapshot.ports);
      next = snapshot.next_serial;
    }

-- the row of a name, of a space, and of a live port
abbrev pub named_row : ℕ × Entry → NamedEntry
named_row e = record { name = e.0; entry = e.1 }

abbrev pub space_row : ℕ × Names → Space
space_row e = record { number = e.0; names = names_of e.1 }

abbrev pub port_row : ℕ × PortState → LivePort
port_row e = record { serial = e.0; state = e.1 }

pub map_map : {A B C : Type 0} (f : B → C) (g : A → B) (xs : List A) → map f (map g xs) ≡ map (λ x. f (g x)) xs
map_map f g [] = refl
map_map f g (x ∷ xs) = ap (λ ys. f (g x) ∷ ys) (map_map f g xs)

map_same_id : {A : Type 0} (f : A → A) (xs : List A) → All (λ x. f x ≡ x) xs → map f xs ≡ xs
map_same_id f [] all = refl
map_same_id {A = A} f (x ∷ xs) all =
    λ i. All-head (λ (y : A). f y ≡ y) x xs all i ∷ map_same_id f xs (All-tail (λ (y : A). f y ≡ y) x xs all) i

-- the rows of a space's names
pub rows_of_names : (rows : List NamedEntry) (at : ℕ) → AscendsFrom at (map name_of rows)
    → names_of (names_in_rows rows) ≡ rows
rows_of_names rows at ascends =
    ap (map named_row) (entries_of (map entry_of rows) at
    (subst (AscendsFrom at) (sym (map_map key_of entry_of rows)) ascends))
    ∙ map_map named_row entry_of rows ∙ map_same_id (λ (r : NamedEntry). r) rows (λ k d less. refl)

-- each space's names ascend
abbrev pub NamesAscend : Space → Type 0
NamesAscend row = AscendsFrom 1 (map name_of row.names)

-- A snapshot whose rows ascend.
pub record Ascends (snapshot : IpcSnapshot) : Type 0 where
  pub spaces : AscendsFrom 1 (map number_of snapshot.spaces)
  pub names : All NamesAscend snapshot.spaces
  pub ports : AscendsFrom 1 (map serial_of snapshot.ports)

-- Such a snapshot is the snapshot of the state with its rows.
pub is_of_rows : (snapshot : IpcSnapshot) → Ascends snapshot → snapshot ≡ ipc_snapshot_of (state_of_rows snapshot)
unfolding ipc_snapshot_of
is_of_rows snapshot ascends =
    λ i. record { next_serial = snapshot.next_serial; spaces = sym spaces i; ports = sym ports i }
  where
    spaces : map space_row (entries (map_of (map space_of snapshot.spaces))) ≡ snapshot.spaces
    spaces =
        ap (map space_row) (entries_of (map space_of snapshot.spaces) 1
        (subst (AscendsFrom 1) (sym (map_map key_of space_of snapshot.spaces)) ascends.spaces))
        ∙ map_map space_row space_of snapshot.spaces
        ∙ map_same_id (λ (s : Space). space_row (space_of s)) snapshot.spaces
        (λ k d less i. record {
          number = (slice_index_or snapshot.spaces k d).number;
          names = rows_of_names (slice_index_or snapshot.spaces k d).names 1 (ascends.names k d less) i;
        })

    ports : map port_row (entries (map_of (map port_in_row snapshot.ports))) ≡ snapshot.ports
    ports =
        ap (map port_row) (entries_of (map port_in_row snapshot.ports) 1
        (subst (AscendsFrom 1) (sym (map_map key_of port_in_row snapshot.ports)) ascends.ports))
        ∙ map_map port_row port_in_row snapshot.ports
        ∙ map_same_id (λ (p : LivePort). p) snapshot.ports (λ k d less. refl)

-- A snapshot is of at most one state.
pub one_state : (one other : Ipc) → ipc_snapshot_of one ≡ ipc_snapshot_of other → one ≡ other
unfolding ipc_snapshot_of
one_state one other same =
    λ i. record { spaces = spaces i; ports = ports i; next = ap (λ (s : IpcSnapshot). s.next_serial) same i }
  where
    back : (names : Names) → from_sorted (map entry_of (names_of names)) ≡ names
    back names =
        same_entries_map _ _ (entries-from_sorted nat_cmp _
        (subst (λ (es : List (ℕ × Entry)). T (is_sorted nat_cmp es)) (sym again) (entries_sorted names)) ∙ again)
      where
        again : map entry_of (names_of names) ≡ entries names
        again =
            map_map entry_of named_row (entries names) ∙ map_same_id (λ (e : ℕ × Entry). e) (entries names)
            (λ k d less. refl)

    unrow : Space → ℕ × Names
    unrow row = (row.number, from_sorted (map entry_of row.names))

    unrowed : (m : FinMap {K = ℕ} nat_cmp Names) → map unrow (map space_row (entries m)) ≡ entries m
    unrowed m =
        map_map unrow space_row (entries m) ∙ map_same_id (λ (e : ℕ × Names). unrow (space_row e)) (entries m)
        (λ k d less i. ((slice_index_or (entries m) k d).0, back (slice_index_or (entries m) k d).1 i))

    spaces : one.spaces ≡ other.spaces
    spaces =
        same_entries_map _ _ (sym (unrowed one.spaces) ∙ ap (λ (s : IpcSnapshot). map unrow s.spaces) same
        ∙ unrowed other.spaces)

    unported : (m : FinMap {K = ℕ} nat_cmp PortState) → map port_in_row (map port_row (entries m)) ≡ entries m
    unported m =
        map_map port_in_row port_row (entries m) ∙ map_same_id (λ (e : ℕ × PortState). e) (entries m) (λ k d less. refl)

    ports : one.ports ≡ other.ports
    ports =
        same_entries_map _ _ (sym (unported one.ports) ∙ ap (λ (s : IpcSnapshot). map port_in_row s.ports) same
        ∙ unported other.ports)
