-- A number and its encoding determine each other.
use Rattle.std.specs.Prelude.{◌≡◌, ℕ, zero, suc, ◌+◌, ◌^◌, ◌<◌, ◌≤◌, List, [], ◌∷◌, ◌++◌, length, take, refl}
use Rattle.std.specs.Int.{w32, from_le_bytes}
use Rattle.std.proofs.Common.{sym, ◌∙◌, ap, arith}
use Rattle.std.proofs.lemmas.Nat.{le_bytes_4}
use Rattle.byteorder.specs.Endian.{little_number}
use Rattle.byteorder.specs.Numbers.{length-bytes_low_first, little_number-reads_back}
use Rattle.words.specs.Words.{AreBytes, word, long_word}

pub length-word : (n : ℕ) → length (word n) ≡ 4
length-word n = length-bytes_low_first 0 4 n

pub length-long_word : (n : ℕ) → length (long_word n) ≡ 8
length-long_word n = length-bytes_low_first 0 8 n

pub little_number-word : (n : ℕ) (rest : List ℕ) → n < 2 ^ 32 → little_number 4 (word n ++ rest) ≡ n
little_number-word n rest fits = little_number-reads_back 4 n rest fits

pub little_number-long_word : (n : ℕ) (rest : List ℕ) → n < 2 ^ 64 → little_number 8 (long_word n ++ rest) ≡ n
little_number-long_word n rest fits = little_number-reads_back 8 n rest fits

front_fits : (n : ℕ) (bytes : List ℕ) → AreBytes bytes → AreBytes (take n bytes)
front_fits zero bytes fits i = omega arith
front_fits (suc n) [] fits i = omega arith
front_fits (suc n) (a ∷ bytes) fits zero = fits 0
front_fits (suc n) (a ∷ bytes) fits (suc i) = front_fits n bytes (λ k. fits (suc k)) i

pub word-little_number : (bytes : List ℕ) → AreBytes bytes → 4 ≤ length bytes
    → word (little_number 4 bytes) ≡ take 4 bytes
word-little_number [] fits long = absurd (omega arith)
word-little_number (a ∷ []) fits long = absurd (omega arith)
word-little_number (a ∷ b ∷ []) fits long = absurd (omega arith)
word-little_number (a ∷ b ∷ c ∷ []) fits long = absurd (omega arith)
word-little_number (a ∷ b ∷ c ∷ d ∷ rest) fits long =
    let n = little_number 4 (a ∷ b ∷ c ∷ d ∷ rest) in
    let is : n ≡ from_le_bytes w32 (a ∷ b ∷ c ∷ d ∷ []) = omega arith in
    le_bytes_4 (a ∷ b ∷ c ∷ d ∷ []) n refl (front_fits 4 (a ∷ b ∷ c ∷ d ∷ rest) fits) is

-- equal byte strings that begin with words begin with the same number
pub same_word : (m n : ℕ) (xs ys : List ℕ) → m < 2 ^ 32 → n < 2 ^ 32 → word m ++ xs ≡ word n ++ ys → m ≡ n
same_word m n xs ys fits fits_too e =
    sym (little_number-word m xs fits) ∙ ap (λ (l : List ℕ). little_number 4 l) e ∙ little_number-word n ys fits_too

pub same_long_word : (m n : ℕ) (xs ys : List ℕ) → m < 2 ^ 64 → n < 2 ^ 64 → long_word m ++ xs ≡ long_word n ++ ys
    → m ≡ n
same_long_word m n xs ys fits fits_too e =
    sym (little_number-long_word m xs fits) ∙ ap (λ (l : List ℕ). little_number 8 l) e
    ∙ little_number-long_word n ys fits_too
