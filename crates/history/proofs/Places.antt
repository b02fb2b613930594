-- Lists, place by place.
use Rattle.std.proofs.Common.{◌≡◌, ℕ, zero, suc, ◌+◌, ◌<◌, Some, List, [], ◌∷◌, ◌++◌, ◌-◌, ◌≤◌, length, map, take, drop, slice_get, refl, ap, sym, ◌∙◌, append_assoc, arith}
use native.Mathlib.Numerals.{unary_clauses}
use Rattle.std.proofs.lemmas.List.{drop-take, take-take, take_all}

pub slice_get-take : {X : Type 0} (n i : ℕ) (xs : List X) → i < n → slice_get (take n xs) i ≡ slice_get xs i
slice_get-take zero i xs less = absurd (omega arith)
slice_get-take (suc n) i [] less = refl
slice_get-take (suc n) zero (x ∷ xs) less = refl
slice_get-take (suc n) (suc i) (x ∷ xs) less = slice_get-take n i xs (omega arith)

-- one more place of a list
pub take_next : {X : Type 0} (i : ℕ) (xs : List X) (x : X) → slice_get xs i ≡ Some x
    → take (i + 1) xs ≡ take i xs ++ x ∷ []
take_next i [] x at = absurd (cc at)
take_next zero (y ∷ xs) x at = let e : y ≡ x = cc at in ap (λ z. z ∷ []) e
take_next (suc i) (y ∷ xs) x at =
    simp unary_clauses (ap (λ rest. y ∷ rest) (simp unary_clauses at (take_next i xs x at)))

-- what comes from a place on begins with what is there
pub drop_next : {X : Type 0} (i : ℕ) (xs : List X) (x : X) → slice_get xs i ≡ Some x → drop i xs ≡ x ∷ drop (i + 1) xs
drop_next i [] x at = absurd (cc at)
drop_next zero (y ∷ xs) x at = let e : y ≡ x = cc at in ap (λ z. z ∷ xs) e
drop_next (suc i) (y ∷ xs) x at = simp unary_clauses (simp unary_clauses at (drop_next i xs x at))

-- one more item was copied
pub copy_next : {X : Type 0} (mine all whole : List X) (i : ℕ) (x : X) → slice_get all i ≡ Some x
    → mine ++ drop i all ≡ whole → (mine ++ x ∷ []) ++ drop (i + 1) all ≡ whole
copy_next mine all whole i x at so_far =
    append_assoc mine (x ∷ []) (drop (i + 1) all) ∙ (ap (λ rest. mine ++ rest) (sym (drop_next i all x at)) ∙ so_far)

pub slice_get-drop : {X : Type 0} (n i : ℕ) (xs : List X) → slice_get (drop n xs) i ≡ slice_get xs (n + i)
slice_get-drop zero i xs = ap (slice_get xs) (omega arith)
slice_get-drop (suc n) i [] = refl
slice_get-drop (suc n) i (x ∷ xs) =
    let e : suc (n + i) ≡ suc n + i = omega arith in slice_get-drop n i xs ∙ ap (slice_get (x ∷ xs)) e

pub drop_map : {X Y : Type 0} (f : X → Y) (n : ℕ) (xs : List X) → drop n (map f xs) ≡ map f (drop n xs)
drop_map f zero xs = refl
drop_map f (suc n) [] = refl
drop_map f (suc n) (x ∷ xs) = drop_map f n xs

-- the first items from a place on, within a front
pub take_within : {X : Type 0} (k s n : ℕ) (xs : List X) → s + k ≤ n → take k (drop s (take n xs)) ≡ take k (drop s xs)
take_within k s n xs less =
    let e : n ≡ s + (n - s) = omega arith in
    ap (λ m. take k (drop s (take m xs))) e
    ∙ (ap (take k) (drop-take s (n - s) xs) ∙ take-take k (n - s) (drop s xs) (omega arith))

-- a prefix that is as long as its list is that list
pub same_whole : {X : Type 0} (xs ys : List X) → length xs ≡ length ys
    → (length xs ≤ length ys → take (length xs) ys ≡ xs) → xs ≡ ys
same_whole xs ys long begins = sym (begins (omega (arith, long))) ∙ take_all (length xs) ys (omega (arith, long))
