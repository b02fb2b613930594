-- Predicates on lists, checked one element at a time.
use Rattle.std.proofs.Common.{◌≡◌, ℕ, zero, suc, ◌+◌, ◌<◌, ◌≤◌, ◌↔◌, true, All, List, [], ◌∷◌, get_or, length, take, refl, ap, subst, arith}
use Rattle.std.specs.Prelude.{IsTrue}
use Rattle.std.proofs.lemmas.List.Elements.{All-more}

module _ {A : Type 0} (P : A → Type 0) where
  pub one_looked : (xs : List A) (i : ℕ) (x : A) → i < length xs → All P (take i xs) → x ≡ get_or xs i x → P x
      → All P (take (i + 1) xs)
  one_looked xs i x less all is p = All-more P xs i x less all (subst P is p)

  taken : (i : ℕ) (xs : List A) → length xs ≤ i → take i xs ≡ xs
  taken zero [] le = refl
  taken zero (x ∷ xs) le = absurd (omega (arith, le))
  taken (suc i) [] le = refl
  taken (suc i) (x ∷ xs) le = ap (λ (ys : List A). x ∷ ys) (taken i xs (omega (arith, le)))

  pub all_looked : (xs : List A) (i : ℕ) → length xs ≤ i → All P (take i xs) → IsTrue true ↔ All P xs
  all_looked xs i le all = (λ _. subst (All P) (taken i xs le) all, λ _. refl)
