-- The entries of a std map as a finite map.
use Rattle.std.proofs.Common.{◌≡◌, ◌≤◌, ◌<◌, ℕ, ◌+◌, Bool, true, ◌&&◌, false, subst, slice_get, cond, List, [], ◌∷◌, length, Option, None, Some, is_some, refl, sym, ◌∙◌, ap, arith}
use Rattle.std.specs.Cmp.{nat_cmp_total, eq_by_cmp_equiv, ranked}
use Rattle.std.specs.Ordering.{nat_cmp}
use Rattle.std.specs.declared.cmp.Ordering.{Ordering}
use Rattle.std.specs.declared.cmp.Ordering.TheVariants.{Less, Equal, Greater}
use Rattle.std.specs.FinMap.{FinMap, find, put, empty, entries, entries-insert, from_entries, get, insert, remove, len, get-from_entries, get-insert, get-remove, len-empty, len-entries, len-insert, same_map, nat_cmp-IsAntisymmetric}
use Rattle.std.specs.BTreeMap.{BTreeMap, is_at}
use Rattle.std.specs.BTreeMap.Range.{IsRangeOf, IsEntryInRange, IsLeBy, range_contains}
use Rattle.std.specs.declared.ops.Bound.TheVariants.{Included, Unbounded}
use Rattle.std.specs.Option.{IfSome}
use Rattle.std.specs.Ordering.{is_gt, is_eq, is_le}
use Rattle.std.specs.Map.{lookup, keys_of}
use Rattle.std.specs.List.{AllByRecursion, filter}
use Rattle.std.specs.List.Sorted.{IsStrictlySortedBy}
use Rattle.number_map.specs.From.{IsFrom}
use Rattle.std.proofs.lemmas.Map.Keys.{le_from_not_gt, sorted_head, sorted_tail}

module _ {X : Type 0} where
  find_lookup : (es : List (ℕ × X)) (q : ℕ) → find nat_cmp q es ≡ lookup (is_at (nat_cmp q)) es
  find_lookup [] q = refl
  find_lookup (e ∷ es) q = ap (cond (is_at (nat_cmp q) e.0) (Some e.1)) (find_lookup es q)

  of_length_0 : (es : List (ℕ × X)) → length es ≡ 0 → es ≡ []
  of_length_0 [] e = refl
  of_length_0 (x ∷ es) e = absurd (omega arith)

  no_entries : entries (empty {X = X} {R = nat_cmp}) ≡ []
  no_entries = of_length_0 _ (sym (len-entries empty) ∙ len-empty nat_cmp X)

  pub get_viewed : (es : List (ℕ × X)) (q : ℕ) → get (from_entries {R = nat_cmp} es) q ≡ lookup (is_at (nat_cmp q)) es
  get_viewed es q = get-from_entries nat_cmp_total es q ∙ find_lookup es q

  -- the value found among the entries is the map's
  pub got : (es : List (ℕ × X)) (k : ℕ) (m : FinMap {K = ℕ} nat_cmp X) (found : Option X)
      → found ≡ lookup (is_at (nat_cmp k)) es → from_entries {R = nat_cmp} es ≡ m → found ≡ get m k
  got es k m found is view = is ∙ sym (get_viewed es k) ∙ ap (λ n. get n k) view

  -- a key below all others isn't among the entries
  pub absent_below : (k : ℕ) (es : List (ℕ × X)) → AllByRecursion (λ y. nat_cmp k y ≡ Less) (keys_of es)
      → lookup (is_at (nat_cmp k)) es ≡ None
  absent_below k [] below = refl
  absent_below k (e ∷ es) below = rw below.0 (absent_below k es below.1)

  pub len_viewed : (es : List (ℕ × X)) → IsStrictlySortedBy nat_cmp (keys_of es)
      → len (from_entries {R = nat_cmp} es) ≡ length es
  len_viewed [] sorted = len-empty nat_cmp X
  len_viewed (e ∷ es) sorted =
      let absent : is_some (get (from_entries {R = nat_cmp} es) e.0) ≡ false =
      ap is_some (get_viewed es e.0 ∙ absent_below e.0 es (sorted_head nat_cmp e.0 (keys_of es) sorted)) in
      let rest : len (from_entries {R = nat_cmp} es) ≡ length es =
      len_viewed es (sorted_tail nat_cmp e.0 (keys_of es) sorted) in
      len-insert nat_cmp_total (from_entries es) e.0 e.1 ∙ rw absent (omega (arith, rest))

  put_below : (k : ℕ) (v : X) (es : List (ℕ × X)) → AllByRecursion (λ y. nat_cmp k y ≡ Less) (keys_of es)
      → put nat_cmp k v es ≡ (k, v) ∷ es
  put_below k v [] below = refl
  put_below k v (e ∷ es) below = rw below.0 refl

  pub entries_viewed : (es : List (ℕ × X)) → IsStrictlySortedBy nat_cmp (keys_of es)
      → entries (from_entries {R = nat_cmp} es) ≡ es
  entries_viewed [] sorted = no_entries
  entries_viewed (e ∷ es) sorted =
      entries-insert nat_cmp_total (from_entries es) e.0 e.1
      ∙ ap (put nat_cmp e.0 e.1) (entries_viewed es (sorted_tail nat_cmp e.0 (keys_of es) sorted))
      ∙ put_below e.0 e.1 es (sorted_head nat_cmp e.0 (keys_of es) sorted)

  -- the entries of a std map, in ascending order of keys, are those of the finite map
  pub same_rest : (es rest : List (ℕ × X)) (m : FinMap {K = ℕ} nat_cmp X) → from_entries {R = nat_cmp} es ≡ m
      → IsStrictlySortedBy nat_cmp (keys_of es) → rest ≡ es → rest ≡ entries m
  same_rest es rest m view sorted is = is ∙ sym (entries_viewed es sorted) ∙ ap (λ n. entries n) view

  -- entries that differ at one key give maps that differ there
  pub inserted : (es fs : List (ℕ × X)) (k : ℕ) (v : X)
      → ((q : ℕ) → lookup (is_at (nat_cmp q)) fs ≡ cond (is_at (nat_cmp k) q) (Some v) (lookup (is_at (nat_cmp q)) es))
      → from_entries {R = nat_cmp} fs ≡ insert (from_entries es) k v
  inserted es fs k v is = same_map nat_cmp_total nat_cmp-IsAntisymmetric _ _ (λ q.
      get_viewed fs q ∙ is q ∙ ap (λ b. cond b (Some v) (lookup (is_at (nat_cmp q)) es))
      ((eq_by_cmp_equiv nat_cmp_total).symm k q)
      ∙ sym (get-insert nat_cmp_total (from_entries es) k v q
      ∙ ap (cond (is_at (nat_cmp q) k) (Some v)) (get_viewed es q)))

  pub removed : (es fs : List (ℕ × X)) (k : ℕ)
      → ((q : ℕ) → lookup (is_at (nat_cmp q)) fs ≡ cond (is_at (nat_cmp k) q) None (lookup (is_at (nat_cmp q)) es))
      → from_entries {R = nat_cmp} fs ≡ remove (from_entries es) k
  removed es fs k is = same_map nat_cmp_total nat_cmp-IsAntisymmetric _ _ (λ q.
      get_viewed fs q ∙ is q ∙ ap (λ b. cond b None (lookup (is_at (nat_cmp q)) es))
      ((eq_by_cmp_equiv nat_cmp_total).symm k q)
      ∙ sym (get-remove nat_cmp_total (from_entries es) k q ∙ ap (cond (is_at (nat_cmp q) k) None) (get_viewed es q)))

at_most : (a b : ℕ) → a ≤ b → is_gt (nat_cmp a b) ≡ false
at_most a b le = elim (nat_cmp a b) as (λ (o : Ordering). nat_cmp a b ≡ o → is_gt o ≡ false) [
  | Less ↦ λ (_ : _). refl
  | Equal ↦ λ (_ : _). refl
  | Greater ↦ λ (more : _). absurd (omega (arith, le, ranked a b Greater (sym more)))
] refl

-- the least key from a given one on
module _ {X : Type 0} where
  abbrev FromOn : ℕ → BTreeMap ℕ X → List (ℕ × X) → Type 0
  FromOn from m r = IsRangeOf nat_cmp (Included from) Unbounded m r

  pub none_from : (from : ℕ) (m : BTreeMap ℕ X) (r : List (ℕ × X)) → FromOn from m r → r ≡ [] → (key : ℕ) → from ≤ key
      → get (from_entries {R = nat_cmp} m.entries) key ≡ None
  none_from from m r range none key le = get_viewed m.entries key ∙ range.5 none key (at_most from key le, tt)

  pub record IsFirstFrom (from : ℕ) (n : FinMap {K = ℕ} nat_cmp X) (key : ℕ) (value : X) : Type 0 where
    pub from_on : from ≤ key
    pub there : get n key ≡ Some value
    pub least : (other : ℕ) → from ≤ other → other < key → get n other ≡ None

  pub first_from : (from : ℕ) (m : BTreeMap ℕ X) (r rest : List (ℕ × X)) (key : ℕ) (value : X) → FromOn from m r
      → r ≡ (key, value) ∷ rest → IsFirstFrom from (from_entries {R = nat_cmp} m.entries) key value
  first_from from m r rest key value range is =
      let first : IsEntryInRange nat_cmp (Included from) Unbounded m (key, value) =
      subst (λ (l : List (ℕ × X)). IfSome (slice_get l 0) (IsEntryInRange nat_cmp (Included from) Unbounded m)) is
      range.1 in
      record {
        from_on = le_from_not_gt from key first.0.0;
        there = get_viewed m.entries key ∙ first.1;
        least =
            λ other le below. get_viewed m.entries other
            ∙ none_below other le below (lookup (is_at (nat_cmp other)) m.entries) refl;
      }
    where
      none_below : (other : ℕ) → from ≤ other → other < key → (o : Option X)
          → lookup (is_at (nat_cmp other)) m.entries ≡ o → o ≡ None
      none_below other le below None found = refl
      none_below other le below (Some there) found =
          let least =
          subst (λ (l : List (ℕ × X)). IfSome (slice_get l 0) (λ e. IsLeBy nat_cmp e.0 other)) is
          (range.2 other (at_most from other le, tt) (ap is_some found)) in
          absurd (omega (arith, le_from_not_gt key other least, below))

-- the entries from a key on are those of the range
at_other : (q k : ℕ) → (q ≡ k → ⊥) → is_at (nat_cmp q) k ≡ false
at_other q k apart = elim (nat_cmp q k) as (λ (o : Ordering). nat_cmp q k ≡ o → is_eq o ≡ false) [
  | Less ↦ λ (_ : _). refl
  | Equal ↦ λ (same : _). absurd (apart (nat_cmp-IsAntisymmetric q k same))
  | Greater ↦ λ (_ : _). refl
] refl

is_less : (a b : ℕ) → a < b → nat_cmp a b ≡ Less
is_less a b less = elim (nat_cmp a b) as (λ (o : Ordering). nat_cmp a b ≡ o → o ≡ Less) [
  | Less ↦ λ (_ : _). refl
  | Equal ↦ λ (same : _). absurd (omega (arith, less, ranked a b Equal (sym same)))
  | Greater ↦ λ (more : _). absurd (omega (arith, less, ranked a b Greater (sym more)))
] refl

at_own : (k : ℕ) → is_at (nat_cmp k) k ≡ true
at_own k = (eq_by_cmp_equiv nat_cmp_total).refl k

abbrev is_on : ℕ → ℕ → Bool
is_on from k = range_contains nat_cmp (Included from) Unbounded k

on_from : (from k : ℕ) → is_on from k ≡ true → from ≤ k
on_from from k = elim (nat_cmp from k) as (λ (o : Ordering). nat_cmp from k ≡ o → is_le o && true ≡ true → from ≤ k) [
  | Less ↦ λ (less : _) (_ : _). omega (arith, ranked from k Less (sym less))
  | Equal ↦ λ (same : _) (_ : _). omega (arith, ranked from k Equal (sym same))
  | Greater ↦ λ (_ : _) (on : _). absurd (cc on)
] refl

before_from : (from k : ℕ) → is_on from k ≡ false → k < from
before_from from k =
    elim (nat_cmp from k) as (λ (o : Ordering). nat_cmp from k ≡ o → is_le o && true ≡ false → k < from) [
      | Less ↦ λ (_ : _) (on : _). absurd (cc on)
      | Equal ↦ λ (_ : _) (on : _). absurd (cc on)
      | Greater ↦ λ (more : _) (_ : _). omega (arith, ranked from k Greater (sym more))
    ] refl

module _ {X : Type 0} (from : ℕ) (m : FinMap {K = ℕ} nat_cmp X) where
  abbrev Has : ℕ → List (ℕ × X) → Type 0
  Has at es = (key : ℕ) → at ≤ key → get m key ≡ lookup (is_at (nat_cmp key)) es

  abbrev kept : List (ℕ × X) → List (ℕ × X)
  kept es = filter (λ e. is_on from e.0) es

  past_first : (at : ℕ) (e : ℕ × X) (es : List (ℕ × X)) → e.0 < at → Has at (e ∷ es) → Has at es
  past_first at e es below has key le =
      has key le ∙ ap (λ (b : Bool). cond b (Some e.1) (lookup (is_at (nat_cmp key)) es))
      (at_other key e.0 (λ same. absurd (omega (arith, below, le, same))))

  on_all : (at k : ℕ) (es : List (ℕ × X)) → from ≤ k → AllByRecursion (λ y. nat_cmp k y ≡ Less) (keys_of es)
      → AllByRecursion (λ y. from ≤ y → k + 1 ≤ y) (keys_of es)
  on_all at k [] le above = tt
  on_all at k (e ∷ es) le above = (λ (_ : _). omega (arith, ranked k e.0 Less (sym above.0)), on_all at k es le above.1)

  pub from_kept : (es : List (ℕ × X)) (at : ℕ) → from ≤ at → IsStrictlySortedBy nat_cmp (keys_of es) → Has at es
      → AllByRecursion (λ y. from ≤ y → at ≤ y) (keys_of es) → IsFrom m at (kept es)
  from_kept [] at le sorted has beyond = has
  from_kept (e ∷ es) at le sorted has beyond =
      go (λ next le next_has next_beyond. from_kept es next le tail next_has next_beyond) (is_on from e.0) refl
    where
      head : AllByRecursion (λ y. nat_cmp e.0 y ≡ Less) (keys_of es)
      head = sorted_head nat_cmp e.0 (keys_of es) sorted

      tail : IsStrictlySortedBy nat_cmp (keys_of es)
      tail = sorted_tail nat_cmp e.0 (keys_of es) sorted

      own : at ≤ e.0 → get m e.0 ≡ Some e.1
      own on = has e.0 on ∙ ap (λ (b : Bool). cond b (Some e.1) (lookup (is_at (nat_cmp e.0)) es)) (at_own e.0)

      none : (key : ℕ) → at ≤ key → key < e.0 → get m key ≡ None
      none key on below =
          has key on ∙ ap (λ (b : Bool). cond b (Some e.1) (lookup (is_at (nat_cmp key)) es))
          (at_other key e.0 (λ same. absurd (omega (arith, below, same))))
          ∙ absent_below key es (below_all es head)
        where
          below_all : (rest : List (ℕ × X)) → AllByRecursion (λ y. nat_cmp e.0 y ≡ Less) (keys_of rest)
              → AllByRecursion (λ y. nat_cmp key y ≡ Less) (keys_of rest)
          below_all [] above = tt
          below_all (f ∷ rest) above =
              (is_less key f.0 (omega (arith, below, ranked e.0 f.0 Less (sym above.0))), below_all rest above.1)

      go : ((next : ℕ) → from ≤ next → Has next es → AllByRecursion (λ y. from ≤ y → next ≤ y) (keys_of es)
          → IsFrom m next (kept es)) → (b : Bool) → is_on from e.0 ≡ b → IsFrom m at (cond b (e ∷ kept es) (kept es))
      go rest true on =
          let here : at ≤ e.0 = beyond.0 (on_from from e.0 on) in (
            here,
            none,
            own here,
            rest (e.0 + 1) (omega (arith, le, here))
                (past_first (e.0 + 1) e es (omega arith) (λ key more. has key (omega (arith, here, more))))
                (on_all at e.0 es (on_from from e.0 on) head),
          )
      go rest false off = rest at le (past_first at e es (omega (arith, le, before_from from e.0 off)) has) beyond.1

-- the entries of a std map's range from a key on
all_beyond : {X : Type 0} (from : ℕ) (es : List (ℕ × X)) → AllByRecursion (λ y. from ≤ y → from ≤ y) (keys_of es)
all_beyond from [] = tt
all_beyond from (e ∷ es) = (λ (le : _). le, all_beyond from es)

pub range_is : {X : Type 0} (from : ℕ) (es rest : List (ℕ × X)) (m : FinMap {K = ℕ} nat_cmp X)
    → from_entries {R = nat_cmp} es ≡ m → IsStrictlySortedBy nat_cmp (keys_of es)
    → rest ≡ filter (λ e. is_on from e.0) es → IsFrom m from rest
range_is from es rest m view sorted is =
    subst (IsFrom m from) (sym is)
    (from_kept from m es from (omega arith) sorted
    (λ key _. sym (ap (λ n. get n key) view) ∙ get_viewed es key) (all_beyond from es))
