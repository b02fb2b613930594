-- Lines appended one after another.
use Rattle.std.proofs.Common.{◌≡◌, ℕ, zero, suc, ◌+◌, ◌<◌, List, [], ◌∷◌, ◌++◌, length, drop, flat_map, slice_index_or, refl, sym, ◌∙◌, ap, arith, append_assoc}

module _ {X : Type 0} (f : X → List ℕ) (blank : X) where
  beyond : (xs : List X) (i : ℕ) → i < length xs
      → flat_map f (drop i xs) ≡ f (slice_index_or xs i blank) ++ flat_map f (drop (suc i) xs)
  beyond [] i inside = absurd (omega (arith, inside))
  beyond (x ∷ xs) zero inside = refl
  beyond (x ∷ xs) (suc i) inside = beyond xs i (omega (arith, inside))

  -- one more line is appended, and one less remains
  pub one_added : (xs : List X) (i : ℕ) (start out line new : List ℕ) → i < length xs
      → out ++ flat_map f (drop i xs) ≡ start → line ≡ f (slice_index_or xs i blank) → new ≡ out ++ line
      → new ++ flat_map f (drop (i + 1) xs) ≡ start
  one_added xs i start out line new inside so_far is added =
      let rest : List ℕ = flat_map f (drop (i + 1) xs) in
      let next : suc i ≡ i + 1 = omega arith in
      let front = beyond xs i inside ∙ ap (λ (n : ℕ). f (slice_index_or xs i blank) ++ flat_map f (drop n xs)) next in
      ap (λ (l : List ℕ). l ++ rest) (added ∙ ap (λ (l : List ℕ). out ++ l) is)
      ∙ append_assoc out (f (slice_index_or xs i blank)) rest ∙ sym (ap (λ (l : List ℕ). out ++ l) front) ∙ so_far
