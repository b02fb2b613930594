-- Maps whose changes are committed or rolled back.
use Rattle.std.specs.Prelude.{ℕ, Bool, true, false, ◌≡◌, ◌||◌, List, [], ◌∷◌, Option, None, Some, is_some, if◌then◌else◌, ◌+◌, ◌-◌, refl}
use Rattle.std.specs.Ordering.{nat_cmp, eq_by_cmp}
use Rattle.std.specs.FinMap.{FinMap, code, empty, entries, get, insert, remove, len}
use Rattle.std.specs.Coded.{Coded, code_by, coded×, coded_ℕ}

-- a map at the last commit or rollback, and the current one
pub record Tracked (X : Type 0) : Type 0 where
  pub before : FinMap {K = ℕ} nat_cmp X
  pub current : FinMap {K = ℕ} nat_cmp X

abbrev pub tracked_code : {X : Type 0} → Coded X → Coded (Tracked X)
tracked_code {X} c =
    code_by (FinMap {K = ℕ} nat_cmp X × FinMap {K = ℕ} nat_cmp X) (coded× (code coded_ℕ c) (code coded_ℕ c))
    (λ t. (t.before, t.current)) (λ p. record { before = p.0; current = p.1 }) (λ _. refl)

-- a map without changes to commit or roll back
abbrev pub at_rest : {X : Type 0} → FinMap {K = ℕ} nat_cmp X → Tracked X
at_rest m = record { before = m; current = m }

-- the map after a key's value is set or removed
abbrev pub put : {X : Type 0} → FinMap {K = ℕ} nat_cmp X → ℕ → Option X → FinMap {K = ℕ} nat_cmp X
put m key None = remove m key
put m key (Some value) = insert m key value

-- the number of values after a change of one key, given whether it had a value before and has one now
abbrev pub len_after : ℕ → Bool → Bool → ℕ
len_after n had has = if had then (if has then n else n - 1) else (if has then n + 1 else n)

-- a map after these values are put into it, the last one first
unfoldable pub over : {X : Type 0} → FinMap {K = ℕ} nat_cmp X → List (ℕ × Option X) → FinMap {K = ℕ} nat_cmp X
over m [] = m
over m (e ∷ es) = put (over m es) e.0 e.1

-- the map of the slots with a value
unfoldable pub shown : {X : Type 0} → FinMap {K = ℕ} nat_cmp (Option X) → FinMap {K = ℕ} nat_cmp X
shown slots = over empty (entries slots)

abbrev pub is_among : {X : Type 0} → ℕ → List (ℕ × X) → Bool
is_among key [] = false
is_among key (e ∷ es) = eq_by_cmp nat_cmp key e.0 || is_among key es

-- each of these keys has a slot
abbrev pub HasSlots : {X : Type 0} → FinMap {K = ℕ} nat_cmp (Option X) → List (ℕ × Option X) → Type 0
HasSlots slots former = (key : ℕ) → is_among key former ≡ true → is_some (get slots key) ≡ true

-- each slot without a value has one of these keys
abbrev pub AreMarked : {X : Type 0} → FinMap {K = ℕ} nat_cmp (Option X) → List (ℕ × Option X) → Type 0
AreMarked slots former = (key : ℕ) → get slots key ≡ Some None → is_among key former ≡ true

-- true if there is a slot and it has no value
abbrev pub is_mark : {X : Type 0} → Option (Option X) → Bool
is_mark None = false
is_mark (Some None) = true
is_mark (Some (Some value)) = false

abbrev pub is_in : ℕ → List ℕ → Bool
is_in key [] = false
is_in key (k ∷ keys) = eq_by_cmp nat_cmp key k || is_in key keys

-- these keys are exactly those of the slots without a value
pub record AreRemoved {X : Type 0} (slots : FinMap {K = ℕ} nat_cmp (Option X)) (keys : List ℕ) : Type 0 where
  pub each : (key : ℕ) → is_in key keys ≡ true → get slots key ≡ Some None
  pub all : (key : ℕ) → get slots key ≡ Some None → is_in key keys ≡ true

-- the slots without the one of this key, if it has no value
abbrev pub unmarked : {X : Type 0} → FinMap {K = ℕ} nat_cmp (Option X) → ℕ → FinMap {K = ℕ} nat_cmp (Option X)
unmarked {X} slots key = elim (get slots key) as (λ _. FinMap {K = ℕ} nat_cmp (Option X)) [
  | None ↦ slots
  | Some value ↦ elim value as (λ _. FinMap {K = ℕ} nat_cmp (Option X)) [ None ↦ remove slots key | Some there ↦ slots ]
]

-- The invariant of a map: each replaced key has a slot, each slot without a value belongs to a replaced key, and the
-- counts are right.
pub record IsSound {X : Type 0} (slots : FinMap {K = ℕ} nat_cmp (Option X)) (former : List (ℕ × Option X))
    (count count_before : ℕ) : Type 0 where
  pub kept : HasSlots slots former
  pub marked : AreMarked slots former
  pub counted : count ≡ len (shown slots)
  pub counted_before : count_before ≡ len (over (shown slots) former)
