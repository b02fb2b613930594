-- Numbers in text.
use Rattle.std.specs.Prelude.{ℕ, ◌+◌, ◌-◌, ◌*◌, ◌%◌, ◌^◌, false, nat_lt, nat_eq, ◌==◌, ◌&&◌, List, [], ◌∷◌, ◌++◌, drop, length, Option, None, Some, codes, decimal, if◌then◌else◌}
use Rattle.std.specs.Char.{digit_value}
use Rattle.std.specs.Fmt.{digits}
use Rattle.std.specs.List.{starts_with}
use Rattle.std.specs.Option.{option_map}

-- hexadecimal digits after 0x, for names and types
abbrev pub hexadecimal : ℕ → List ℕ
hexadecimal n = codes "0x" ++ digits 16 false n

-- the signed decimal digits of a number in two's complement
abbrev pub signed : ℕ → List ℕ
signed n = if nat_lt n (2 ^ 31) then decimal n else codes "-" ++ decimal (2 ^ 32 - n)

-- a number with one more digit, if it is below 2 ^ 32
abbrev pub with_digit : ℕ → ℕ → ℕ → Option ℕ
with_digit radix n c =
    if nat_lt (digit_value c) radix && nat_lt (n * radix + digit_value c) (2 ^ 32) then Some (n * radix + digit_value c)
    else None

abbrev pub number_after : (ℕ → Option ℕ) → Option ℕ → Option ℕ
number_after f None = None
number_after f (Some n) = f n

-- the number with the digits of n and these digits
abbrev pub number_from : ℕ → ℕ → List ℕ → Option ℕ
number_from radix n [] = Some n
number_from radix n (c ∷ cs) = number_after (λ m. number_from radix m cs) (with_digit radix n c)

abbrev pub natural : ℕ → List ℕ → Option ℕ
natural radix word = if length word == 0 then None else number_from radix 0 word

abbrev pub negated : ℕ → ℕ
negated n = (2 ^ 32 - n) % 2 ^ 32

-- the number that a word's digits give
abbrev pub number_of_word : List ℕ → Option ℕ
number_of_word word =
    if starts_with nat_eq word (codes "0x") then natural 16 (drop 2 word)
    else if starts_with nat_eq word (codes "-") then option_map negated (natural 10 (drop 1 word))
    else natural 10 word
