-- Numbers are read back as they are printed.
use Rattle.std.proofs.Common.{◌≡◌, ℕ, ◌+◌, ◌-◌, ◌*◌, ◌^◌, ◌<◌, ◌≤◌, Bool, true, false, ◌&&◌, ◌==◌, List, [], ◌∷◌, ◌++◌, length, cond, refl, ap, ◌∙◌, arith, Some, None}
use Rattle.std.specs.Prelude.{nat_lt, nat_eq, codes, decimal}
use Rattle.std.specs.Char.{digit_value}
use Rattle.std.specs.Fmt.{digits}
use Rattle.std.specs.List.{starts_with}
use Rattle.std.specs.Option.{option_map}
use Rattle.std.specs.Str.Parse.{AllDigits, digits_value, digits_value_after}
use Rattle.std.proofs.Math.Nat.{mul-le-mul_left}
use Rattle.std.proofs.lemmas.Bool.Decides.{nat_tests}
use Rattle.std.proofs.lemmas.Fmt.{digits_is_IsNumeral}
use Rattle.std.proofs.lemmas.Str.Parse.{digit_from_value}
use Rattle.script.specs.vocabulary.Numbers.{hexadecimal, signed, number_from, number_after, natural, negated, number_of_word}

-- more digits don't make a number smaller
pub value_grows : (radix n : ℕ) (ds : List ℕ) → 1 ≤ radix → n ≤ digits_value_after radix n ds
value_grows radix n [] some = omega arith
value_grows radix n (c ∷ cs) some =
    let more = value_grows radix (n * radix + digit_value c) cs some in omega (arith, more, mul-le-mul_left n some)

below_is : (a b : ℕ) → a < b → nat_lt a b ≡ true
below_is a b less = grind (arith, nat_tests)

both : (a b : Bool) → a ≡ true → b ≡ true → (a && b) ≡ true
both a b first second = grind (arith, nat_tests)

pub from_digits : (radix n : ℕ) (ds : List ℕ) → 1 ≤ radix → AllDigits radix ds → digits_value_after radix n ds < 2 ^ 32
    → number_from radix n ds ≡ Some (digits_value_after radix n ds)
from_digits radix n [] some are fits = refl
from_digits radix n (c ∷ cs) some are fits =
    let m : ℕ = n * radix + digit_value c in
    let less : m < 2 ^ 32 = omega (arith, value_grows radix m cs some, fits) in
    let test : (nat_lt (digit_value c) radix && nat_lt m (2 ^ 32)) ≡ true =
    both _ _ (below_is _ _ are.0) (below_is _ _ less) in
    ap (λ (b : Bool). number_after (λ (k : ℕ). number_from radix k cs) (cond b (Some m) None)) test
    ∙ from_digits radix m cs some are.1 fits

pub natural_again : (radix n : ℕ) → 2 ≤ radix → radix ≤ 16 → n < 2 ^ 32 → n < radix ^ 64
    → natural radix (digits radix false n) ≡ Some n
natural_again radix n low high fits short =
    let is = digits_is_IsNumeral radix false low high n short in
    let ds : List ℕ = digits radix false n in
    let long : (length ds == 0) ≡ false = grind (arith, nat_tests, is.0.0) in
    let value : number_from radix 0 ds ≡ Some (digits_value radix ds) =
    from_digits radix 0 ds (omega arith) is.0.1 (omega (arith, is.1)) in
    ap (λ (b : Bool). cond b None (number_from radix 0 ds)) long ∙ value ∙ ap Some is.1

-- decimal digits aren't mistaken for another kind of number
plain_digits : (ds : List ℕ) → AllDigits 10 ds → (starts_with nat_eq ds (codes "0x") ≡ false)
    × (starts_with nat_eq ds (codes "-") ≡ false)
plain_digits [] are = (refl, refl)
plain_digits (c ∷ []) are = let bound = digit_from_value c are.0 in (grind (arith, nat_tests), grind (arith, nat_tests))
plain_digits (c ∷ d ∷ ds) are =
    let first = digit_from_value c are.0 in
    let second = digit_from_value d are.1.0 in (grind (arith, nat_tests), grind (arith, nat_tests))

pub decimal_fits : (n : ℕ) → n < 2 ^ 32 → n < 10 ^ 64
decimal_fits n fits = omega arith

hexadecimal_fits : (n : ℕ) → n < 2 ^ 32 → n < 16 ^ 64
hexadecimal_fits n fits = omega arith

pub decimal_again : (n : ℕ) → n < 2 ^ 32 → number_of_word (decimal n) ≡ Some n
decimal_again n fits =
    let is = digits_is_IsNumeral 10 false (omega arith) (omega arith) n (decimal_fits n fits) in
    let plain = plain_digits (decimal n) is.0.1 in
    rw (plain.0, plain.1) (natural_again 10 n (omega arith) (omega arith) fits (decimal_fits n fits))

pub hexadecimal_again : (n : ℕ) → n < 2 ^ 32 → number_of_word (hexadecimal n) ≡ Some n
hexadecimal_again n fits = natural_again 16 n (omega arith) (omega arith) fits (hexadecimal_fits n fits)

negated_again : (n : ℕ) → n < 2 ^ 32 → 2 ^ 31 ≤ n → negated (2 ^ 32 - n) ≡ n
negated_again n fits high = omega arith

pub signed_again : (n : ℕ) → n < 2 ^ 32 → number_of_word (signed n) ≡ Some n
signed_again n fits =
    elim (nat_lt n (2 ^ 31)) as (λ (b : Bool). nat_lt n (2 ^ 31) ≡ b
    → number_of_word (cond b (decimal n) (codes "-" ++ decimal (2 ^ 32 - n))) ≡ Some n) [
      | true ↦ λ (_ : _). decimal_again n fits
      | false ↦ λ (is : _).
          let high : 2 ^ 31 ≤ n = grind (arith, nat_tests) in
          let least : 2 ^ 32 - n < 2 ^ 32 = omega arith in
          ap (option_map negated) (natural_again 10 (2 ^ 32 - n) (omega arith) (omega arith) least
          (decimal_fits (2 ^ 32 - n) least)) ∙ ap Some (negated_again n fits high)
    ] refl
