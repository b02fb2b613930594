-- Numbers and bytes are read from the words that were printed for them.
use Rattle.std.proofs.Common.{◌≡◌, ℕ, ◌-◌, ◌^◌, ◌<◌, Bool, true, false, ◌==◌, List, [], ◌∷◌, ◌++◌, cond, refl, sym, ap, subst, ◌∙◌, arith, Option, Some, None}
use Rattle.std.specs.Prelude.{nat_lt, codes, decimal, find, unwrap_or, Ok}
use Rattle.std.specs.Result.{result_ok}
use Rattle.std.specs.Str.{bytes_eq}
use Rattle.std.specs.Str.Parse.{AllDigits}
use Rattle.std.proofs.lemmas.Bool.{eqb-true}
use Rattle.std.proofs.lemmas.Bool.Decides.{nat_tests}
use Rattle.std.proofs.lemmas.Fmt.{digits_is_IsNumeral}
use Rattle.std.proofs.lemmas.Slice.Eq.{bytes_eq-Decides}
use Rattle.std.proofs.lemmas.Str.Parse.{digit_from_value}
use Rattle.hex.proofs.HexLemmas.{decode_of-encode_lower}
use Rattle.hex.specs.Hex.{encode_lower, decode_of}
use Rattle.hex.proofs.OnLiterals.{hex_on_literals}
use Rattle.words.specs.Words.{AreBytes}
use Rattle.script.specs.declared.vocabulary.kind.Kind.{Kind}
use Rattle.script.specs.declared.vocabulary.kind.Kind.TheVariants as kind
use Rattle.script.specs.vocabulary.Kinds.{name_of, value_word, all_named, is_name, begins_with_letter, read_word}
use Rattle.script.specs.vocabulary.Numbers.{hexadecimal, signed, number_of_word}
use Rattle.script.specs.printing.Bytes.{bytes_word}
use Rattle.script.specs.Bytes.{read_bytes}
use Rattle.script.proofs.NumbersAgain.{decimal_again, hexadecimal_again, signed_again, decimal_fits}

-- decimal digits don't begin with a letter
digits_no_letter : (ds : List ℕ) → AllDigits 10 ds → begins_with_letter ds ≡ false
digits_no_letter [] are = refl
digits_no_letter (c ∷ cs) are = let bound = digit_from_value c are.0 in grind (arith, nat_tests)

decimal_no_letter : (n : ℕ) → n < 2 ^ 32 → begins_with_letter (decimal n) ≡ false
decimal_no_letter n fits =
    digits_no_letter (decimal n) (digits_is_IsNumeral 10 false (omega arith) (omega arith) n (decimal_fits n fits)).0.1

signed_no_letter : (n : ℕ) → n < 2 ^ 32 → begins_with_letter (signed n) ≡ false
signed_no_letter n fits =
    elim (nat_lt n (2 ^ 31)) as (λ (b : Bool). begins_with_letter
    (cond b (decimal n) (codes "-" ++ decimal (2 ^ 32 - n))) ≡ false) [
      | true ↦ decimal_no_letter n fits
      | false ↦ refl
    ]

-- a number in a word that doesn't begin with a letter
printed : (k : Kind) (n : ℕ) (word : List ℕ) → begins_with_letter word ≡ false → number_of_word word ≡ Some n
    → read_word k word ≡ Some n
unfolding read_word
printed k n word plain again =
    ap (λ (b : Bool). cond b (find (is_name k word) all_named) (number_of_word word)) plain ∙ again

pub in_decimal : (k : Kind) (n : ℕ) → n < 2 ^ 32 → read_word k (decimal n) ≡ Some n
in_decimal k n fits = printed k n (decimal n) (decimal_no_letter n fits) (decimal_again n fits)

-- a number with a word, or without one
split : (P : ℕ → Option (List ℕ) → Type 0) (m n : ℕ) (word : List ℕ) (rest : Option (List ℕ)) → P m (Some word)
    → P n rest → P n (cond (n == m) (Some word) rest)
split P m n word rest here there = elim (n == m) as (λ (b : Bool). (n == m) ≡ b → P n (cond b (Some word) rest)) [
  | true ↦ λ (is : _). subst (λ (k : ℕ). P k (Some word)) (sym (eqb-true n m is)) here
  | false ↦ λ (_ : _). there
] refl

-- a number is read from its word
abbrev Again : Kind → ℕ → Option (List ℕ) → Type 0
Again k n name = read_word k (unwrap_or name (decimal n)) ≡ Some n

right_again : (n : ℕ) → n < 2 ^ 32 → Again kind.Right n (name_of kind.Right n)
unfolding read_word
right_again n fits =
    split (Again kind.Right) 0 n _ _ refl (split (Again kind.Right) 1 n _ _ refl (split (Again kind.Right) 2 n _ _ refl
    (split (Again kind.Right) 3 n _ _ refl (split (Again kind.Right) 4 n _ None refl (in_decimal kind.Right n fits)))))

disposition_again : (n : ℕ) → n < 2 ^ 32 → Again kind.Disposition n (name_of kind.Disposition n)
unfolding read_word
disposition_again n fits =
    split (Again kind.Disposition) 16 n _ _ refl
    (split (Again kind.Disposition) 17 n _ _ refl (split (Again kind.Disposition) 18 n _ _ refl
    (split (Again kind.Disposition) 19 n _ _ refl
    (split (Again kind.Disposition) 20 n _ _ refl
    (split (Again kind.Disposition) 21 n _ None refl (in_decimal kind.Disposition n fits))))))

notification_again : (n : ℕ) → n < 2 ^ 32 → Again kind.Notification n (name_of kind.Notification n)
unfolding read_word
notification_again n fits =
    split (Again kind.Notification) 69 n _ _ refl
    (split (Again kind.Notification) 70 n _ _ refl
    (split (Again kind.Notification) 72 n _ None refl (in_decimal kind.Notification n fits)))

element_again : (n : ℕ) → n < 2 ^ 32 → Again kind.Element n (name_of kind.Element n)
unfolding read_word
element_again n fits =
    split (Again kind.Element) 2 n _ _ refl
    (split (Again kind.Element) 16 n _ _ refl (split (Again kind.Element) 17 n _ _ refl
    (split (Again kind.Element) 18 n _ _ refl
    (split (Again kind.Element) 19 n _ _ refl
    (split (Again kind.Element) 20 n _ _ refl
    (split (Again kind.Element) 21 n _ None refl (in_decimal kind.Element n fits)))))))

-- every number is read from its word
pub word_again : (k : Kind) (n : ℕ) → n < 2 ^ 32 → read_word k (value_word k n) ≡ Some n
unfolding value_word
word_again kind.Hexadecimal n fits = printed kind.Hexadecimal n (hexadecimal n) refl (hexadecimal_again n fits)
word_again kind.Decimal n fits = in_decimal kind.Decimal n fits
word_again kind.Signed n fits = printed kind.Signed n (signed n) (signed_no_letter n fits) (signed_again n fits)
word_again kind.Right n fits = right_again n fits
word_again kind.Disposition n fits = disposition_again n fits
word_again kind.Notification n fits = notification_again n fits
word_again kind.Element n fits = element_again n fits
word_again kind.Absent n fits = in_decimal kind.Absent n fits

-- every byte string is read from its word
not_none : (word bytes : List ℕ) → decode_of word ≡ Ok bytes → bytes_eq word (codes "none") ≡ false
unfolding hex_on_literals
not_none word bytes is =
    elim (bytes_eq word (codes "none")) as (λ (b : Bool). bytes_eq word (codes "none") ≡ b → b ≡ false) [
      | true ↦ λ (same : _). let e : word ≡ codes "none" =
          (bytes_eq-Decides word (codes "none")).0 same in let wrong : decode_of (codes "none") ≡ Ok bytes =
          ap decode_of (sym e) ∙ is in absurd (cc)
      | false ↦ λ (_ : _). refl
    ] refl

pub bytes_again : (bytes : List ℕ) → AreBytes bytes → read_bytes (bytes_word bytes) ≡ Some bytes
unfolding bytes_word
bytes_again [] fits = refl
bytes_again (b ∷ bytes) fits =
    let is = decode_of-encode_lower (b ∷ bytes) fits in
    ap (λ (t : Bool). cond t (Some []) (result_ok (decode_of (encode_lower (b ∷ bytes)))))
    (not_none (encode_lower (b ∷ bytes)) (b ∷ bytes) is) ∙ ap result_ok is
