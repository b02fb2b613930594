-- The words of numbers.
use Rattle.std.specs.Prelude.{ℕ, Bool, false, ◌==◌, nat_le, List, [], ◌∷◌, find, Option, None, Some, unwrap_or, codes, decimal, if◌then◌else◌}
use Rattle.std.specs.Option.{option_map_or}
use Rattle.std.specs.Str.{bytes_eq}
use Rattle.script.specs.declared.vocabulary.kind.Kind.{Kind}
use Rattle.script.specs.declared.vocabulary.kind.Kind.TheVariants as kind
use Rattle.script.specs.vocabulary.Numbers.{hexadecimal, signed, number_of_word}

-- the word of a number, if it has one
abbrev pub name_of : Kind → ℕ → Option (List ℕ)
name_of kind.Right n =
    if n == 0 then Some (codes "send") else if n == 1 then Some (codes "receive") else if n == 2 then Some
    (codes "send_once")
    else if n == 3 then Some (codes "port_set") else if n == 4 then Some (codes "dead_name") else None
name_of kind.Disposition n =
    if n == 16 then Some (codes "move_receive") else if n == 17 then Some
    (codes "move_send") else if n == 18 then Some (codes "move_send_once")
    else if n == 19 then Some (codes "copy_send") else if n == 20 then Some
    (codes "make_send") else if n == 21 then Some (codes "make_send_once") else None
name_of kind.Notification n =
    if n == 69 then Some (codes "port_destroyed") else if n == 70 then Some
    (codes "no_senders") else if n == 72 then Some (codes "dead_name") else None
name_of kind.Element n =
    if n == 2 then Some (codes "words") else if n == 16 then Some (codes "move_receive") else if n == 17 then Some
    (codes "move_send")
    else if n == 18 then Some (codes "move_send_once") else if n == 19 then Some
    (codes "copy_send") else if n == 20 then Some (codes "make_send")
    else if n == 21 then Some (codes "make_send_once") else None
name_of k n = None

-- the digits of a number that has no word
abbrev pub number_text : Kind → ℕ → List ℕ
number_text kind.Hexadecimal n = hexadecimal n
number_text kind.Signed n = signed n
number_text k n = decimal n

-- a number as it is printed
unfoldable pub value_word : Kind → ℕ → List ℕ
value_word k n = unwrap_or (name_of k n) (number_text k n)

-- all numbers that have words, of any kind
abbrev pub all_named : List ℕ
all_named = 0 ∷ 1 ∷ 2 ∷ 3 ∷ 4 ∷ 16 ∷ 17 ∷ 18 ∷ 19 ∷ 20 ∷ 21 ∷ 69 ∷ 70 ∷ 72 ∷ []

abbrev pub is_name : Kind → List ℕ → ℕ → Bool
is_name k word n = option_map_or (λ name. bytes_eq name word) (name_of k n) false

abbrev pub begins_with_letter : List ℕ → Bool
begins_with_letter [] = false
begins_with_letter (c ∷ cs) = nat_le 97 c

-- the number with this word, or the number that its digits give
unfoldable pub read_word : Kind → List ℕ → Option ℕ
read_word k word = if begins_with_letter word then find (is_name k word) all_named else number_of_word word
