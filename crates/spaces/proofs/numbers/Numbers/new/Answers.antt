use Rattle.std.proofs.Common.{◌≡◌, ℕ, zero, suc, ◌/◌, ◌%◌, [], ◌∷◌, get_or, refl, ap, ◌∙◌}
use Rattle.std.specs.Int.{bit_at}
use Rattle.std.proofs.lemmas.Nat.Bits.{bit_at-zero}
use Rattle.spaces.specs.Numbers.{none_taken}
use Rattle.spaces.proofs.numbers.Numbers.new.Goals as goal

pub returns : goal.returns
returns c = none_taken _ (λ k. ap (λ (w : ℕ). bit_at w (k % 64)) (zeros (k / 64)) ∙ bit_at-zero (k % 64))
  where
    zeros : (n : ℕ) → get_or {A = ℕ} (0 ∷ 0 ∷ 0 ∷ 0 ∷ []) n 0 ≡ 0
    zeros zero = refl
    zeros (suc zero) = refl
    zeros (suc (suc zero)) = refl
    zeros (suc (suc (suc zero))) = refl
    zeros (suc (suc (suc (suc n)))) = refl
