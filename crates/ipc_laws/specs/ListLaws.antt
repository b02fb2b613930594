-- Lists that are joined, and what stands first in an option.
use Rattle.std.specs.Prelude.{◌≡◌, List, [], ◌∷◌, ◌++◌, length, take, drop, Some, unwrap_or, refl}
use Rattle.std.proofs.Common.{sym, ◌∙◌, ap}
use Rattle.std.proofs.Math.Seq.{take-append_seam}

module _ {A : Type 0} where
  pub drop-append_seam : (xs ys : List A) → drop (length xs) (xs ++ ys) ≡ ys
  drop-append_seam [] ys = refl
  drop-append_seam (x ∷ xs) ys = drop-append_seam xs ys

  -- equal lists that begin with parts of one length have the same parts
  pub same_front : (xs ys us vs : List A) → length xs ≡ length ys → xs ++ us ≡ ys ++ vs → xs ≡ ys
  same_front xs ys us vs long e = sym (take-append_seam xs us) ∙ (λ i. take (long i) (e i)) ∙ take-append_seam ys vs

  pub same_back : (xs ys us vs : List A) → length xs ≡ length ys → xs ++ us ≡ ys ++ vs → us ≡ vs
  same_back xs ys us vs long e = sym (drop-append_seam xs us) ∙ (λ i. drop (long i) (e i)) ∙ drop-append_seam ys vs

  pub some_same : (x y : A) → Some x ≡ Some y → x ≡ y
  some_same x y e = ap (λ o. unwrap_or o x) e

  head_or : A → List A → A
  head_or d [] = d
  head_or d (x ∷ xs) = x

  pub same_head : (x y : A) (xs ys : List A) → x ∷ xs ≡ y ∷ ys → x ≡ y
  unfolding head_or
  same_head x y xs ys e = ap (head_or x) e

  pub same_tail : (x y : A) (xs ys : List A) → x ∷ xs ≡ y ∷ ys → xs ≡ ys
  same_tail x y xs ys e = ap (drop 1) e
