-- Counts by pairs of numbers.
use Rattle.std.proofs.Common.{◌≡◌, ℕ, ◌+◌, ◌*◌, ◌^◌, ◌<◌, ◌==◌, Bool, true, false, cond, ◌&&◌, Option, None, Some, MatchOption, refl, sym, ◌∙◌, ap, subst, arith, zero, suc}
use Rattle.std.specs.Prelude.{if◌then◌else◌}
use Rattle.std.proofs.lemmas.Bool.{eqb-true, eq-eqb}
use Rattle.std.specs.Cmp.{nat_cmp_total}
use Rattle.std.specs.Ordering.{nat_cmp, eq_by_cmp}
use Rattle.std.specs.FinMap.{FinMap, empty, get, insert, remove, get-empty, get-insert, get-remove}
use Rattle.ipc_laws.specs.ListLaws.{some_same}
use Rattle.ipc_laws.specs.MapSums.{key_is, same_key}

-- the counts that aren't 0, by pairs
abbrev pub Counts : Type 0
Counts = FinMap {K = ℕ} nat_cmp ℕ

-- a pair as one number; pairs with the same first number are consecutive and ascend
abbrev pub key : ℕ → ℕ → ℕ
key first second = first * 2 ^ 64 + second

abbrev pub or_zero : Option ℕ → ℕ
or_zero None = 0
or_zero (Some n) = n

-- the count of a pair
abbrev pub count_at : Counts → ℕ → ℕ → ℕ
count_at counts first second = or_zero (get counts (key first second))

-- the counts after the count of a pair is set to n
abbrev pub with_count : Counts → ℕ → ℕ → ℕ → Counts
with_count counts first second n =
    if n == 0 then remove counts (key first second) else insert counts (key first second) n

-- the counts are positive and below 2 ^ 63, so that a sum of two doesn't overflow
abbrev pub ArePositive : Counts → Type 0
ArePositive counts = (k n : ℕ) → get counts k ≡ Some n → (0 < n) × (n < 2 ^ 63)

-- the least second number of the pairs with this first number whose count isn't 0
abbrev pub IsLeast : Counts → ℕ → Option ℕ → Type 0
IsLeast counts first found = MatchOption found ((q : ℕ) → q < 2 ^ 64 → count_at counts first q ≡ 0)
    (λ least. (least < 2 ^ 64) × (0 < count_at counts first least)
    × ((q : ℕ) → q < least → count_at counts first q ≡ 0))

-- numbers are equal exactly if they compare as equal
pub eq_cmp : (x y : ℕ) → eq_by_cmp nat_cmp x y ≡ (x == y)
eq_cmp x y = go (eq_by_cmp nat_cmp x y) refl (x == y) refl
  where
    go : (a : Bool) → eq_by_cmp nat_cmp x y ≡ a → (b : Bool) → (x == y) ≡ b → a ≡ b
    go true first true second = refl
    go false first false second = refl
    go true first false second = absurd (cc (sym second ∙ eq-eqb x y (key_is x y first)))
    go false first true second =
        absurd (cc (sym first ∙ ap (λ (q : ℕ). eq_by_cmp nat_cmp q y) (eqb-true x y second) ∙ same_key y))

-- two pairs have the same key exactly if both parts are equal
pub same_pair : (a b c d : ℕ) → b < 2 ^ 64 → d < 2 ^ 64 → eq_by_cmp nat_cmp (key c d) (key a b) ≡ (c == a && d == b)
same_pair a b c d small other = eq_cmp (key c d) (key a b) ∙ go (key c d == key a b) refl (c == a) refl (d == b) refl
  where
    both : key c d ≡ key a b → (c ≡ a) × (d ≡ b)
    both e = (omega (arith, e, small, other), omega (arith, e, small, other))

    go : (k : Bool) → (key c d == key a b) ≡ k → (x : Bool) → (c == a) ≡ x → (y : Bool) → (d == b) ≡ y → k ≡ (x && y)
    go true whole true first true second = refl
    go false whole true first true second =
        absurd (cc (sym whole ∙ eq-eqb (key c d) (key a b)
        (ap (λ (n : ℕ). key n d) (eqb-true c a first) ∙ ap (key a) (eqb-true d b second))))
    go true whole false first y second = absurd (cc (sym first ∙ eq-eqb c a (both (eqb-true _ _ whole)).0))
    go true whole true first false second = absurd (cc (sym second ∙ eq-eqb d b (both (eqb-true _ _ whole)).1))
    go false whole false first y second = refl
    go false whole true first false second = refl

-- the count of each pair after one is set
pub count_with : (counts : Counts) (a b n c d : ℕ) → b < 2 ^ 64 → d < 2 ^ 64
    → count_at (with_count counts a b n) c d ≡ cond (c == a && d == b) n (count_at counts c d)
count_with counts a b n c d small other = go (n == 0) refl
  where
    there : (m : Counts) (o : Option ℕ)
        → get m (key c d) ≡ cond (eq_by_cmp nat_cmp (key c d) (key a b)) o (get counts (key c d))
        → count_at m c d ≡ cond (c == a && d == b) (or_zero o) (count_at counts c d)
    there m o at =
        ap or_zero (at ∙ ap (λ (t : Bool). cond t o (get counts (key c d))) (same_pair a b c d small other))
        ∙ out (c == a && d == b)
      where
        out : (t : Bool) → or_zero (cond t o (get counts (key c d))) ≡ cond t (or_zero o) (count_at counts c d)
        out true = refl
        out false = refl

    go : (z : Bool) → (n == 0) ≡ z
        → count_at (cond z (remove counts (key a b)) (insert counts (key a b) n)) c d
        ≡ cond (c == a && d == b) n (count_at counts c d)
    go true none =
        there (remove counts (key a b)) None (get-remove nat_cmp_total counts (key a b) (key c d)) ∙ ap
        (λ (k : ℕ). cond (c == a && d == b) k (count_at counts c d)) (sym (eqb-true n 0 none))
    go false some = there (insert counts (key a b) n) (Some n) (get-insert nat_cmp_total counts (key a b) n (key c d))

-- a pair without an entry has the count 0
pub none_counted : (counts : Counts) (a b : ℕ) → get counts (key a b) ≡ None → count_at counts a b ≡ 0
none_counted counts a b none = ap or_zero none

pub none_positive : (counts : Counts) → counts ≡ empty → ArePositive counts
none_positive counts none k n at = absurd (cc (sym at ∙ ap (λ (m : Counts). get m k) none ∙ get-empty nat_cmp k))

pub with_positive : (counts : Counts) (a b n : ℕ) → n < 2 ^ 63 → ArePositive counts
    → ArePositive (with_count counts a b n)
with_positive counts a b n few are k m = go (n == 0) refl
  where
    positive : (n : ℕ) → (n == 0) ≡ false → 0 < n
    positive zero e = absurd (cc e)
    positive (suc n) e = omega arith

    left : (t : Bool) (o : Option ℕ) → ((x : ℕ) → o ≡ Some x → (0 < x) × (x < 2 ^ 63))
        → cond t o (get counts k) ≡ Some m → (0 < m) × (m < 2 ^ 63)
    left true o is at = is m at
    left false o is at = are k m at

    go : (z : Bool) → (n == 0) ≡ z → get (cond z (remove counts (key a b)) (insert counts (key a b) n)) k ≡ Some m
        → (0 < m) × (m < 2 ^ 63)
    go true none at =
        left (eq_by_cmp nat_cmp k (key a b)) None
        (λ x e. absurd (cc e)) (sym (get-remove nat_cmp_total counts (key a b) k) ∙ at)
    go false some at =
        left (eq_by_cmp nat_cmp k (key a b)) (Some n)
        (λ x e. subst (λ (y : ℕ). (0 < y) × (y < 2 ^ 63)) (some_same n x e) (positive n some, few))
        (sym (get-insert nat_cmp_total counts (key a b) n k) ∙ at)
