-- The number of keys in a finite map.
use Rattle.std.proofs.Common.{◌≡◌, ℕ, zero, suc, ◌+◌, ◌-◌, ◌<◌, ◌≤◌, Bool, true, false, cond, Option, None, Some, IsSome, is_some, refl, sym, ◌∙◌, ap, subst, inl, inr, arith}
use Rattle.std.proofs.lemmas.Bool.{cases_eq}
use Rattle.std.specs.Cmp.{nat_cmp_total, nat_cmp_is}
use Rattle.std.specs.declared.cmp.Ordering.TheVariants.{Less}
use Rattle.std.specs.Ordering.{nat_cmp, is_eq}
use Rattle.std.specs.FinMap.{FinMap, get, insert, remove, len, contains_key, empty, empty_of_len, get-empty, get-remove, len-insert, len-remove}

abbrev Map : Type 0 → Type 0
Map X = FinMap {K = ℕ} nat_cmp X

module _ {X : Type 0} where
  no_value : (o : Option X) → is_some o ≡ false → o ≡ None
  no_value None e = refl
  no_value (Some x) e = cc

  has_value : (o : Option X) → IsSome o → is_some o ≡ true
  has_value None h = absurd (cc h)
  has_value (Some x) h = refl

  -- an insertion keeps the bound if there is room for a new key
  pub within_after_insert : (m : Map X) (k : ℕ) (v : X) (most : ℕ) → len m ≤ most → (get m k ≡ None → len m < most)
      → len (insert m k v) ≤ most
  within_after_insert m k v most le room =
      subst (λ n. n ≤ most) (sym (len-insert nat_cmp_total m k v)) (by_case (contains_key m k) refl)
    where
      by_case : (b : Bool) → contains_key m k ≡ b → cond b (len m) (len m + 1) ≤ most
      by_case true e = le
      by_case false e = let more = room (no_value (get m k) e) in omega arith

  pub within_after_remove : (m : Map X) (k most : ℕ) → len m ≤ most → len (remove m k) ≤ most
  within_after_remove m k most le =
      subst (λ n. n ≤ most) (sym (len-remove nat_cmp_total m k)) (by_case (contains_key m k))
    where
      by_case : (b : Bool) → cond b (len m - 1) (len m) ≤ most
      by_case true = omega arith
      by_case false = le

  stays : (m : Map X) (k q : ℕ) → q < k → get (remove m k) q ≡ get m q
  stays m k q lt =
      let less : nat_cmp q k ≡ Less = sym (nat_cmp_is q k Less lt) in
      get-remove nat_cmp_total m k q ∙ ap (λ o. cond (is_eq o) None (get m q)) less

  not_empty : (m : Map X) (k : ℕ) → IsSome (get m k) → 0 < len m
  not_empty m k there = elim (cases_eq (len m) 0) [
    | inl e ↦ absurd (no_key (empty_of_len m e))
    | inr above ↦ omega arith
  ]
    where
      no_key : m ≡ empty → ⊥
      no_key e =
          let none : is_some (get m k) ≡ false = ap (λ (m : Map X). is_some (get m k)) e
          ∙ ap is_some (get-empty nat_cmp k) in cc (none, there)

  -- a map that has n consecutive keys has at least n keys
  pub crowded : (n : ℕ) (m : Map X) (from : ℕ) → ((k : ℕ) → from ≤ k → k < from + n → IsSome (get m k)) → n ≤ len m
  crowded zero m from all = omega arith
  crowded (suc n) m from all =
      let last = from + n in
      let fewer : n ≤ len (remove m last) =
      crowded n (remove m last) from (λ k le lt. subst IsSome (sym (stays m last k lt)) (all k le (omega arith))) in
      let there : contains_key m last ≡ true = has_value (get m last) (all last (omega arith) (omega arith)) in
      let counts : len (remove m last) ≡ cond (contains_key m last) (len m - 1) (len m) =
      len-remove nat_cmp_total m last in
      let one_less : len (remove m last) ≡ len m - 1 = counts ∙ ap (λ b. cond b (len m - 1) (len m)) there in
      let some = not_empty m last (all last (omega arith) (omega arith)) in
      omega arith
