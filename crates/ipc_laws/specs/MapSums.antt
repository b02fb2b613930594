-- Sums over the entries of a finite map: how they change with one entry, or with all.
use Rattle.std.specs.Prelude.{◌≡◌, ℕ, ◌+◌, ◌≤◌, Bool, true, false, cond, ◌&&◌, T, List, [], ◌∷◌, ◌++◌, map, length, flat_map, Option, None, Some, is_some, refl}
use Rattle.std.proofs.Common.{sym, ◌∙◌, ap, subst, arith, length-append}
use Rattle.std.specs.Ordering.{nat_cmp, eq_by_cmp, is_eq, is_lt}
use Rattle.std.specs.declared.cmp.Ordering.TheVariants.{Less, Equal, Greater}
use Rattle.std.specs.declared.cmp.Ordering.{Ordering}
use Rattle.std.specs.Cmp.{nat_cmp_total}
use Rattle.std.specs.FinMap as finmap
use Rattle.std.specs.FinMap.{FinMap, put, find, entries-insert, entries_sorted, entries-from_sorted, get-entries, get-insert, get-remove, same_map, nat_cmp-IsAntisymmetric, is_sorted}
use Rattle.std.specs.FinMap.Entries.{below_all, by_order}
use Rattle.std.specs.Cmp.{eq_by_cmp_equiv}
use Rattle.ipc_model.specs.effects.Effects.{map_values}

-- the sum of what each element weighs
abbrev pub weigh : {A : Type 0} → (A → ℕ) → List A → ℕ
weigh f [] = 0
weigh f (x ∷ xs) = f x + weigh f xs

-- the sum of what each entry weighs
abbrev pub total : {X : Type 0} → (ℕ → X → ℕ) → FinMap nat_cmp X → ℕ
total f m = weigh (λ e. f e.0 e.1) (finmap.entries m)

-- the weight of what stands under a key
abbrev pub weight : {X : Type 0} → (ℕ → X → ℕ) → ℕ → Option X → ℕ
weight f k None = 0
weight f k (Some x) = f k x

module _ {A : Type 0} where
  pub weigh-append : (f : A → ℕ) (xs ys : List A) → weigh f (xs ++ ys) ≡ weigh f xs + weigh f ys
  weigh-append f [] ys = omega arith
  weigh-append f (x ∷ xs) ys = omega (arith, weigh-append f xs ys)

  pub weigh-le : (f g : A → ℕ) → ((x : A) → f x ≤ g x) → (xs : List A) → weigh f xs ≤ weigh g xs
  weigh-le f g le [] = omega arith
  weigh-le f g le (x ∷ xs) = omega (arith, le x, weigh-le f g le xs)

  pub weigh-map : {B : Type 0} (f : B → ℕ) (g : A → B) (xs : List A) → weigh f (map g xs) ≡ weigh (λ x. f (g x)) xs
  weigh-map f g [] = refl
  weigh-map f g (x ∷ xs) = ap (λ n. f (g x) + n) (weigh-map f g xs)

  -- the length of lists that are joined
  pub length-flat_map : {B : Type 0} (f : A → List B) (xs : List A)
      → length (flat_map f xs) ≡ weigh (λ x. length (f x)) xs
  length-flat_map f [] = refl
  length-flat_map f (x ∷ xs) = omega (arith, length-append (f x) (flat_map f xs), length-flat_map f xs)

  pub weigh-same : (f g : A → ℕ) → ((x : A) → f x ≡ g x) → (xs : List A) → weigh f xs ≡ weigh g xs
  weigh-same f g same [] = refl
  weigh-same f g same (x ∷ xs) = omega (arith, same x, weigh-same f g same xs)

  pub weigh-sum : (f g : A → ℕ) (xs : List A) → weigh (λ x. f x + g x) xs ≡ weigh f xs + weigh g xs
  weigh-sum f g [] = refl
  weigh-sum f g (x ∷ xs) = omega (arith, weigh-sum f g xs)

pub weigh-flat_map : {A B : Type 0} (f : B → ℕ) (g : A → List B) (xs : List A)
    → weigh f (flat_map g xs) ≡ weigh (λ x. weigh f (g x)) xs
weigh-flat_map f g [] = refl
weigh-flat_map f g (x ∷ xs) = weigh-append f (g x) (flat_map g xs) ∙ ap (λ n. weigh f (g x) + n) (weigh-flat_map f g xs)

pub weigh-zero : {A : Type 0} (f : A → ℕ) → ((x : A) → f x ≡ 0) → (xs : List A) → weigh f xs ≡ 0
weigh-zero f zero [] = refl
weigh-zero f zero (x ∷ xs) = omega (arith, zero x, weigh-zero f zero xs)

not_none : {X : Type 0} (x : X) → Some x ≡ None → ⊥
not_none x e = subst T (ap is_some e) tt

module _ {X : Type 0} where
  weigh-put : (f : ℕ → X → ℕ) (k : ℕ) (v : X) (es : List (ℕ × X)) → find nat_cmp k es ≡ None
      → weigh (λ e. f e.0 e.1) (put nat_cmp k v es) ≡ f k v + weigh (λ e. f e.0 e.1) es
  weigh-put f k v [] none = refl
  weigh-put f k v (e ∷ es) none =
      elim (nat_cmp k e.0) as (λ (r : Ordering). cond (is_eq r) (Some e.1) (find nat_cmp k es) ≡ None
      → weigh (λ e. f e.0 e.1) (by_order r ((k, v) ∷ e ∷ es) ((e.0, v) ∷ es) (e ∷ put nat_cmp k v es))
      ≡ f k v + (f e.0 e.1 + weigh (λ e. f e.0 e.1) es)) [
        | Less ↦ λ (is : _). refl
        | Equal ↦ λ (is : _). absurd (not_none e.1 is)
        | Greater ↦ λ (is : _). omega (arith, weigh-put f k v es is)
      ] none

  pub total-new : (f : ℕ → X → ℕ) (m : FinMap nat_cmp X) (k : ℕ) (v : X) → finmap.get m k ≡ None
      → total f (finmap.insert m k v) ≡ f k v + total f m
  total-new f m k v none =
      ap (weigh (λ e. f e.0 e.1)) (entries-insert nat_cmp_total m k v)
      ∙ weigh-put f k v (finmap.entries m) (sym (get-entries m k) ∙ none)

pub same_key : (k : ℕ) → eq_by_cmp nat_cmp k k ≡ true
same_key k = (eq_by_cmp_equiv nat_cmp_total).refl k

tied_equal : (r : Ordering) → is_eq r ≡ true → r ≡ Equal
tied_equal Less e = absurd (subst T (sym e) tt)
tied_equal Equal e = refl
tied_equal Greater e = absurd (subst T (sym e) tt)

twice : {A : Type 0} (b : Bool) (x y z : A) → cond b x (cond b y z) ≡ cond b x z
twice true x y z = refl
twice false x y z = refl

both_of : (b c d : Bool) → (T c → T d) → T (b && c) → T (b && d)
both_of true c d f p = f p
both_of false c d f p = p

two_of : (b c b' d : Bool) → (T b → T b') → (T c → T d) → T (b && c) → T (b' && d)
two_of true c true d f g p = g p
two_of true c false d f g p = absurd (f tt)
two_of false c b' d f g p = absurd p

-- keys that compare as equal are one key
pub key_is : (q k : ℕ) → eq_by_cmp nat_cmp q k ≡ true → q ≡ k
key_is q k e = nat_cmp-IsAntisymmetric q k (tied_equal (nat_cmp q k) e)

module _ {X : Type 0} where
  removed : (m : FinMap nat_cmp X) (k : ℕ) → finmap.get (finmap.remove m k) k ≡ None
  removed m k = get-remove nat_cmp_total m k k ∙ ap (λ (b : Bool). cond b None (finmap.get m k)) (same_key k)

  pub insert-insert : (m : FinMap nat_cmp X) (k : ℕ) (v w : X)
      → finmap.insert (finmap.insert m k v) k w ≡ finmap.insert m k w
  insert-insert m k v w = same_map nat_cmp_total nat_cmp-IsAntisymmetric _ _ (λ (q : ℕ).
      get-insert nat_cmp_total (finmap.insert m k v) k w q
      ∙ ap (cond (eq_by_cmp nat_cmp q k) (Some w)) (get-insert nat_cmp_total m k v q)
      ∙ twice (eq_by_cmp nat_cmp q k) (Some w) (Some v) (finmap.get m q) ∙ sym (get-insert nat_cmp_total m k w q))

  -- an entry that is taken out and put back
  pub insert-remove : (m : FinMap nat_cmp X) (k : ℕ) (v : X)
      → finmap.insert (finmap.remove m k) k v ≡ finmap.insert m k v
  insert-remove m k v = same_map nat_cmp_total nat_cmp-IsAntisymmetric _ _ (λ (q : ℕ).
      get-insert nat_cmp_total (finmap.remove m k) k v q
      ∙ ap (cond (eq_by_cmp nat_cmp q k) (Some v)) (get-remove nat_cmp_total m k q)
      ∙ twice (eq_by_cmp nat_cmp q k) (Some v) None (finmap.get m q) ∙ sym (get-insert nat_cmp_total m k v q))

  pub insert-same : (m : FinMap nat_cmp X) (k : ℕ) (v : X) → finmap.get m k ≡ Some v → finmap.insert m k v ≡ m
  insert-same m k v there = same_map nat_cmp_total nat_cmp-IsAntisymmetric _ _ (λ (q : ℕ).
      get-insert nat_cmp_total m k v q
      ∙ elim (eq_by_cmp nat_cmp q k)
      as (λ (b : Bool). eq_by_cmp nat_cmp q k ≡ b → cond b (Some v) (finmap.get m q) ≡ finmap.get m q) [
        | true ↦ λ (e : _). sym there ∙ ap (finmap.get m) (sym (key_is q k e))
        | false ↦ λ (e : _). refl
      ] refl)

  remove-absent : (m : FinMap nat_cmp X) (k : ℕ) → finmap.get m k ≡ None → finmap.remove m k ≡ m
  remove-absent m k none = same_map nat_cmp_total nat_cmp-IsAntisymmetric _ _ (λ (q : ℕ).
      get-remove nat_cmp_total m k q
      ∙ elim (eq_by_cmp nat_cmp q k)
      as (λ (b : Bool). eq_by_cmp nat_cmp q k ≡ b → cond b None (finmap.get m q) ≡ finmap.get m q) [
        | true ↦ λ (e : _). sym none ∙ ap (finmap.get m) (sym (key_is q k e))
        | false ↦ λ (e : _). refl
      ] refl)

  -- without an entry, the total is smaller by its weight
  pub total-remove : (f : ℕ → X → ℕ) (m : FinMap nat_cmp X) (k : ℕ)
      → total f (finmap.remove m k) + weight f k (finmap.get m k) ≡ total f m
  total-remove f m k =
      elim (finmap.get m k) as (λ (o : Option X). finmap.get m k ≡ o
      → total f (finmap.remove m k) + weight f k o ≡ total f m) [
        | None ↦ λ (is : _). omega (arith, ap (total f) (remove-absent m k is))
        | Some x ↦ λ (is : _).
            let back : finmap.insert (finmap.remove m k) k x ≡ m = insert-remove m k x ∙ insert-same m k x is in
            omega (arith, total-new f (finmap.remove m k) k x (removed m k), ap (total f) back)
      ] refl

  -- with another value under a key, the total differs by the two weights
  pub total-insert : (f : ℕ → X → ℕ) (m : FinMap nat_cmp X) (k : ℕ) (v : X)
      → total f (finmap.insert m k v) + weight f k (finmap.get m k) ≡ total f m + f k v
  total-insert f m k v =
      omega (
        arith,
        total-new f (finmap.remove m k) k v (removed m k),
        ap (total f) (insert-remove m k v),
        total-remove f m k,
      )

  below-mapped : (g : X → X) (k : ℕ) (es : List (ℕ × X)) → T (below_all nat_cmp k es)
      → T (below_all nat_cmp k (map (λ e. (e.0, g e.1)) es))
  below-mapped g k [] below = tt
  below-mapped g k (e ∷ es) below = both_of (is_lt (nat_cmp k e.0)) _ _ (below-mapped g k es) below

  sorted-mapped : (g : X → X) (es : List (ℕ × X)) → T (is_sorted nat_cmp es)
      → T (is_sorted nat_cmp (map (λ e. (e.0, g e.1)) es))
  sorted-mapped g [] sorted = tt
  sorted-mapped g (e ∷ es) sorted =
      two_of (below_all nat_cmp e.0 es) _ _ _ (below-mapped g e.0 es) (sorted-mapped g es) sorted

  -- the entries of a map with each value changed
  pub entries-map_values : (g : X → X) (m : FinMap nat_cmp X)
      → finmap.entries (map_values g m) ≡ map (λ e. (e.0, g e.1)) (finmap.entries m)
  entries-map_values g m =
      entries-from_sorted nat_cmp (map (λ e. (e.0, g e.1)) (finmap.entries m))
      (sorted-mapped g (finmap.entries m) (entries_sorted m))

  pub total-map_values : (f : ℕ → X → ℕ) (g : X → X) (m : FinMap nat_cmp X)
      → total f (map_values g m) ≡ total (λ k x. f k (g x)) m
  total-map_values f g m =
      ap (weigh (λ e. f e.0 e.1)) (entries-map_values g m) ∙ weigh-map (λ e. f e.0 e.1)
      (λ (e : ℕ × X). (e.0, g e.1)) (finmap.entries m)
