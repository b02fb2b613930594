-- Walks over a map. Each step takes the entry with the least key from a given key on.
use Rattle.std.proofs.Common.{◌≡◌, ℕ, ◌+◌, ◌<◌, ◌≤◌, Bool, true, false, cond, nat_lt, T, List, [], ◌∷◌, ◌++◌, Option, None, Some, MatchOption, append_assoc, refl, sym, ◌∙◌, ap, subst, arith}
use Rattle.std.proofs.lemmas.Bool.{lt-ltb, le-ltb, ltb-false}
use Rattle.std.specs.Prelude.{flat_map}
use Rattle.std.specs.Ordering.{nat_cmp, eq_by_cmp}
use Rattle.std.specs.FinMap as map
use Rattle.std.specs.FinMap.{FinMap, get, entries, entries_sorted, get-entries, is_sorted}
use Rattle.std.specs.FinMap.Entries.{below_all}
use Rattle.ipc_laws.specs.ListLaws.{some_same}
use Rattle.ipc_laws.specs.MapSums.{key_is}
use Rattle.port_space.specs.Finding.{front_of, back_of, above, here_found, there_found}

-- the entry with the least key from a given key on
abbrev pub IsNextEntry : {X : Type 0} → FinMap {K = ℕ} nat_cmp X → ℕ → Option (ℕ × X) → Type 0
IsNextEntry m from found = MatchOption found ((key : ℕ) → from ≤ key → get m key ≡ None)
    (λ e. (from ≤ e.0) × (get m e.0 ≡ Some e.1) × ((key : ℕ) → from ≤ key → key < e.0 → get m key ≡ None))

-- a list if its number is at least `at`, else the empty list
abbrev pub from_on : {A : Type 0} → ℕ → ℕ → List A → List A
from_on at number xs = cond (nat_lt number at) [] xs

module _ {A : Type 0} where
  pub below_none : (at number : ℕ) (xs : List A) → number < at → from_on at number xs ≡ []
  below_none at number xs less = ap (λ (b : Bool). cond b [] xs) (lt-ltb number at less)

  pub above_all : (at number : ℕ) (xs : List A) → at ≤ number → from_on at number xs ≡ xs
  above_all at number xs more = ap (λ (b : Bool). cond b [] xs) (le-ltb number at more)

  pub nothing_from : (at number : ℕ) (xs : List A) → (at ≤ number → xs ≡ []) → from_on at number xs ≡ []
  nothing_from at number xs nothing =
      elim (nat_lt number at) as (λ (b : Bool). nat_lt number at ≡ b → cond b [] xs ≡ []) [
        | true ↦ λ (_ : _). refl
        | false ↦ λ (more : _). nothing (ltb-false number at more)
      ] refl

module _ {X A : Type 0} where
  -- functions that agree on each entry give the same list
  alike_in : (f g : ℕ × X → List A) (es : List (ℕ × X)) → T (is_sorted nat_cmp es)
      → ((q : ℕ) (w : X) → map.find nat_cmp q es ≡ Some w → f (q, w) ≡ g (q, w)) → flat_map f es ≡ flat_map g es
  alike_in f g [] sorted same = refl
  alike_in f g (e ∷ es) sorted same =
      let below = front_of (below_all nat_cmp e.0 es) (is_sorted nat_cmp es) sorted in
      ap (λ (xs : List A). xs ++ flat_map f es) (same e.0 e.1 (here_found e es))
      ∙ ap (λ (xs : List A). g e ++ xs)
      (alike_in f g es (back_of (below_all nat_cmp e.0 es) (is_sorted nat_cmp es) sorted)
      (λ q w is. same q w (there_found e es q w below is)))

  none_in : (f : ℕ × X → List A) (es : List (ℕ × X)) → T (is_sorted nat_cmp es)
      → ((q : ℕ) (w : X) → map.find nat_cmp q es ≡ Some w → f (q, w) ≡ []) → flat_map f es ≡ []
  none_in f [] sorted none = refl
  none_in f (e ∷ es) sorted none =
      let below = front_of (below_all nat_cmp e.0 es) (is_sorted nat_cmp es) sorted in
      ap (λ (xs : List A). xs ++ flat_map f es) (none e.0 e.1 (here_found e es))
      ∙ none_in f es (back_of (below_all nat_cmp e.0 es) (is_sorted nat_cmp es) sorted)
      (λ q w is. none q w (there_found e es q w below is))

  split_in : (f g : ℕ × X → List A) (gained : List A) (k : ℕ) (v : X) → f (k, v) ≡ gained ++ g (k, v)
      → (es : List (ℕ × X)) → T (is_sorted nat_cmp es) → map.find nat_cmp k es ≡ Some v
      → ((q : ℕ) (w : X) → q < k → map.find nat_cmp q es ≡ Some w → (f (q, w) ≡ []) × (g (q, w) ≡ []))
      → ((q : ℕ) (w : X) → k < q → map.find nat_cmp q es ≡ Some w → f (q, w) ≡ g (q, w))
      → flat_map f es ≡ gained ++ flat_map g es
  split_in f g gained k v here [] sorted found before beyond = absurd (cc found)
  split_in f g gained k v here (e ∷ es) sorted found before beyond =
      let below = front_of (below_all nat_cmp e.0 es) (is_sorted nat_cmp es) sorted in
      let rest = back_of (below_all nat_cmp e.0 es) (is_sorted nat_cmp es) sorted in
      elim (eq_by_cmp nat_cmp k e.0)
      as (λ (b : Bool). eq_by_cmp nat_cmp k e.0 ≡ b → cond b (Some e.1) (map.find nat_cmp k es) ≡ Some v
      → flat_map f (e ∷ es) ≡ gained ++ flat_map g (e ∷ es)) [
        | true ↦ λ (same : _) (there : _).
            let is : (k, v) ≡ e =
            ap (λ (x : X). (k, x)) (sym (some_same e.1 v there)) ∙ ap (λ (n : ℕ). (n, e.1)) (key_is k e.0 same) in
            ap (λ (xs : List A). xs ++ flat_map f es) (subst (λ (p : ℕ × X). f p ≡ gained ++ g p) is here)
            ∙ ap (λ (xs : List A). (gained ++ g e) ++ xs)
            (alike_in f g es rest (λ q w is. beyond q w
            (omega (arith, key_is k e.0 same, above e.0 q w es below is)) (there_found e es q w below is)))
            ∙ append_assoc gained (g e) (flat_map g es)
        | false ↦ λ (_ : _) (there : _).
            let none = before e.0 e.1 (above e.0 k v es below there) (here_found e es) in
            ap (λ (xs : List A). xs ++ flat_map f es) none.0
            ∙ split_in f g gained k v here es rest there
            (λ q w less is. before q w less (there_found e es q w below is))
            (λ q w more is. beyond q w more (there_found e es q w below is))
            ∙ ap (λ (xs : List A). gained ++ (xs ++ flat_map g es)) (sym none.1)
      ] refl found

  -- the lists that entries give under two functions, which agree on each entry, or are empty, or differ in one entry
  pub entries_alike : (f g : ℕ × X → List A) (m : FinMap {K = ℕ} nat_cmp X)
      → ((q : ℕ) (w : X) → get m q ≡ Some w → f (q, w) ≡ g (q, w)) → flat_map f (entries m) ≡ flat_map g (entries m)
  entries_alike f g m same = alike_in f g (entries m) (entries_sorted m) (λ q w is. same q w (get-entries m q ∙ is))

  pub entries_none : (f : ℕ × X → List A) (m : FinMap {K = ℕ} nat_cmp X)
      → ((q : ℕ) (w : X) → get m q ≡ Some w → f (q, w) ≡ []) → flat_map f (entries m) ≡ []
  entries_none f m none = none_in f (entries m) (entries_sorted m) (λ q w is. none q w (get-entries m q ∙ is))

  pub entries_split : (f g : ℕ × X → List A) (gained : List A) (m : FinMap {K = ℕ} nat_cmp X) (k : ℕ) (v : X)
      → get m k ≡ Some v → f (k, v) ≡ gained ++ g (k, v)
      → ((q : ℕ) (w : X) → q < k → get m q ≡ Some w → (f (q, w) ≡ []) × (g (q, w) ≡ []))
      → ((q : ℕ) (w : X) → k < q → get m q ≡ Some w → f (q, w) ≡ g (q, w))
      → flat_map f (entries m) ≡ gained ++ flat_map g (entries m)
  entries_split f g gained m k v there here before beyond =
      split_in f g gained k v here (entries m) (entries_sorted m) (sym (get-entries m k) ∙ there)
      (λ q w less is. before q w less (get-entries m q ∙ is))
      (λ q w more is. beyond q w more (get-entries m q ∙ is))

module _ {X : Type 0} where
  -- the entries from a key on
  abbrev pub entries_from : FinMap {K = ℕ} nat_cmp X → ℕ → List (ℕ × X)
  entries_from m at = flat_map (λ e. from_on at e.0 (e ∷ [])) (entries m)

  each_once : (es : List (ℕ × X)) → flat_map (λ e. e ∷ []) es ≡ es
  each_once [] = refl
  each_once (e ∷ es) = ap (λ (xs : List (ℕ × X)). e ∷ xs) (each_once es)

  pub from_first : (m : FinMap {K = ℕ} nat_cmp X) → entries_from m 0 ≡ entries m
  from_first m =
      entries_alike (λ e. from_on 0 e.0 (e ∷ [])) (λ e. e ∷ []) m (λ q w _. above_all 0 q ((q, w) ∷ []) (omega arith))
      ∙ each_once (entries m)

  pub from_next : (m : FinMap {K = ℕ} nat_cmp X) (at key : ℕ) (v : X) → at ≤ key → get m key ≡ Some v
      → ((q : ℕ) → at ≤ q → q < key → get m q ≡ None) → entries_from m at ≡ (key, v) ∷ entries_from m (key + 1)
  from_next m at key v from there between =
      entries_split (λ e. from_on at e.0 (e ∷ [])) (λ e. from_on (key + 1) e.0 (e ∷ [])) ((key, v) ∷ []) m key v there
      (above_all at key ((key, v) ∷ []) from ∙ ap
      (λ (xs : List (ℕ × X)). (key, v) ∷ xs) (sym (below_none (key + 1) key ((key, v) ∷ []) (omega arith))))
      (λ q w less is. (
        nothing_from at q ((q, w) ∷ []) (λ more. absurd (cc (sym is ∙ between q more less))),
        below_none (key + 1) q ((q, w) ∷ []) (omega (arith, less)),
      ))
      (λ q w more is. above_all at q ((q, w) ∷ []) (omega (arith, from, more))
      ∙ sym (above_all (key + 1) q ((q, w) ∷ []) (omega (arith, more))))

  pub from_end : (m : FinMap {K = ℕ} nat_cmp X) (at : ℕ) → ((q : ℕ) → at ≤ q → get m q ≡ None) → entries_from m at ≡ []
  from_end m at none =
      entries_none (λ e. from_on at e.0 (e ∷ [])) m
      (λ q w is. nothing_from at q ((q, w) ∷ []) (λ more. absurd (cc (sym is ∙ none q more))))
