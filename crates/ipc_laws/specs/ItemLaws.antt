-- Items that are read from a body tile it: they fit their descriptors, and their encodings joined are the body. They
-- are read back from these.
use Rattle.std.specs.Prelude.{◌≡◌, ◌↔◌, ◌⊎◌, ℕ, zero, suc, ◌+◌, ◌*◌, ◌/◌, ◌%◌, ◌^◌, ◌<◌, ◌≤◌, Bool, true, false, ◌==◌, ◌&&◌, ◌||◌, not, nat_lt, List, [], ◌∷◌, ◌++◌, length, take, drop, None, Some, Result, Ok, Err, if◌then◌else◌, refl}
use Rattle.std.proofs.Common.{inl, inr, sym, ◌∙◌, ap, subst, arith, append_assoc, length-append, length-take, length-drop, take_at, drop_at, take-add, drop-drop, take-append-drop}
use Rattle.std.proofs.lemmas.Bool.{ltb-false, ltb-true as ltb-is, eqb-true, eqb-false, eq-eqb}
use Rattle.words.specs.Numbers.{little_number, little_bytes, little_from-lt, little_number-reads_back}
use Rattle.codes.specs.declared.kern_return.KernReturn.{KernReturn}
use Rattle.codes.specs.declared.kern_return.KernReturn.TheVariants.{SendMsgTooSmall, SendInvalidMemory, SendInvalidType}
use Rattle.ipc_laws.specs.CallsKeep.{first_passes}
use Rattle.ipc_model.specs.messages.Items.{Item, items_of, items_within, item_of, item_encoding, items_encoding, after_item, is_long_form, is_inline, has_other_bit, short_fields_are_zero, has_short_fields, has_odd_ports, type_name_in, bits_in, number_in, descriptor_length, descriptor_encoding, data_length, padded, is_port_type, IsItem, AreItems, Tile, name_bound, number_bound}
use Rattle.ipc_model.specs.calls.Tests.{Tests, first_failing, and_then, unless_failing}
use Rattle.words.specs.WordLaws.{little_number-word, length-word, word-little_number}
use Rattle.words.specs.Words.{AreBytes, word}

-- bytes of a list's front and of its back

front_bytes : (n : ℕ) (bytes : List ℕ) → AreBytes bytes → AreBytes (take n bytes)
front_bytes zero bytes fits i = omega arith
front_bytes (suc n) [] fits i = omega arith
front_bytes (suc n) (a ∷ bytes) fits zero = fits 0
front_bytes (suc n) (a ∷ bytes) fits (suc i) = front_bytes n bytes (λ k. fits (suc k)) i

pub back_bytes : (n : ℕ) (bytes : List ℕ) → AreBytes bytes → AreBytes (drop n bytes)
back_bytes zero bytes fits = fits
back_bytes (suc n) [] fits = fits
back_bytes (suc n) (a ∷ bytes) fits = back_bytes n bytes (λ k. fits (suc k))

-- tests that pass

pass_on : {X : Type 0} (tests : Tests) (r : Result X KernReturn) → first_failing tests ≡ None
    → unless_failing tests r ≡ r
pass_on [] r passes = refl
pass_on (test ∷ tests) r passes =
    let first = first_passes test tests passes in
    ap (λ (b : Bool). if b then Err test.1 else unless_failing tests r) first.0 ∙ pass_on tests r first.1

pub passed_tests : {X : Type 0} (tests : Tests) (r : Result X KernReturn) (x : X) → unless_failing tests r ≡ Ok x
    → (first_failing tests ≡ None) × (r ≡ Ok x)
passed_tests [] r x is = (refl, is)
passed_tests {X} (test ∷ tests) r x is =
    elim test.0 as (λ (b : Bool). (if b then Err test.1 else unless_failing tests r) ≡ Ok x
    → ((if b then Some test.1 else first_failing tests) ≡ None) × (r ≡ Ok x)) [
      | true ↦ λ (e : _). absurd (cc e)
      | false ↦ λ (e : _). passed_tests tests r x e
    ] is

all_pass : (a b c d e : Bool) (f g h i j : KernReturn) → a ≡ false → b ≡ false → c ≡ false → d ≡ false → e ≡ false
    → first_failing ((a, f) ∷ (b, g) ∷ (c, h) ∷ (d, i) ∷ (e, j) ∷ []) ≡ None
all_pass a b c d e f g h i j one two three four five =
    ap (λ (a : Bool). if a then Some f else first_failing ((b, g) ∷ (c, h) ∷ (d, i) ∷ (e, j) ∷ [])) one ∙ ap
    (λ (b : Bool). if b then Some g else first_failing ((c, h) ∷ (d, i) ∷ (e, j) ∷ [])) two
    ∙ ap (λ (c : Bool). if c then Some h else first_failing ((d, i) ∷ (e, j) ∷ [])) three ∙ ap
    (λ (d : Bool). if d then Some i else first_failing ((e, j) ∷ [])) four ∙ ap
    (λ (e : Bool). if e then Some j else None) five

-- The tests and the step of a descriptor whose word and form are known.
abbrev tests_with : ℕ → Bool → List ℕ → Tests
tests_with w long bytes =
    (nat_lt (length bytes) 4, SendMsgTooSmall)
    ∷ (long && nat_lt (length bytes) 12, SendMsgTooSmall)
    ∷ (not (is_inline w), SendInvalidMemory)
    ∷ (
      has_other_bit w || has_short_fields w long || has_odd_ports (type_name_in bytes long) (bits_in bytes long),
      SendInvalidType,
    )
    ∷ (nat_lt (length bytes) (descriptor_length long + data_length bytes long), SendMsgTooSmall)
    ∷ []

-- What a reader finds at the front of bytes: a word, its form, an item, and what follows.
record Finds (w : ℕ) (bytes : List ℕ) (item : Item) (rest : List ℕ) : Type 0 where
  reads : little_number 4 bytes ≡ w
  form : is_long_form w ≡ item.is_long
  passes : first_failing (tests_with w item.is_long bytes) ≡ None
  is : item_of bytes item.is_long ≡ item
  after : after_item bytes item.is_long ≡ rest

step_on : (n w b : ℕ) (bytes rest : List ℕ) (item : Item) → Finds w (b ∷ bytes) item rest
    → items_within (suc n) (b ∷ bytes) ≡ and_then (items_within n rest) (λ items. Ok (item ∷ items))
step_on n w b bytes rest item finds =
    let encoding : List ℕ = b ∷ bytes in
    let with_form : items_within (suc n) encoding
    ≡ unless_failing (tests_with w item.is_long encoding)
    (and_then (items_within n (after_item encoding item.is_long))
    (λ items. Ok (item_of encoding item.is_long ∷ items))) =
    (λ i. unless_failing (tests_with (finds.reads i) (is_long_form (finds.reads i)) encoding)
    (and_then (items_within n (after_item encoding (is_long_form (finds.reads i))))
    (λ items. Ok (item_of encoding (is_long_form (finds.reads i)) ∷ items))))
    ∙ (λ i. unless_failing (tests_with w (finds.form i) encoding)
    (and_then (items_within n (after_item encoding (finds.form i)))
    (λ items. Ok (item_of encoding (finds.form i) ∷ items)))) in
    with_form ∙ pass_on (tests_with w item.is_long encoding) _ finds.passes ∙
    (λ i. and_then (items_within n (finds.after i)) (λ items. Ok (finds.is i ∷ items)))

-- a bit is set, or isn't
bit_is : (n : ℕ) → n ≡ 1 → (n == 1) ≡ true
bit_is n e = eq-eqb n 1 e

bit_isnt : (n : ℕ) → n ≡ 0 → (n == 1) ≡ false
bit_isnt n e = ap (λ (k : ℕ). k == 1) e

not_less : (m n : ℕ) → n ≤ m → nat_lt m n ≡ false
not_less m n le = elim (nat_lt m n) as (λ (b : Bool). nat_lt m n ≡ b → b ≡ false) [
  | true ↦ λ (e : _). absurd (omega (arith, le, ltb-is m n e))
  | false ↦ λ (e : _). refl
] refl

-- a port item has 32 bits, so the test of it passes
port_passes : (port : Bool) (bits : ℕ) → (port ≡ true → bits ≡ 32) → (port && not (bits == 32)) ≡ false
port_passes true bits is = ap (λ (b : Bool). not b) (eq-eqb bits 32 (is refl))
port_passes false bits is = refl

-- what follows a descriptor and its data
append_back : (front content rest : List ℕ) (n : ℕ) → n ≡ length front + length content
    → drop n (front ++ (content ++ rest)) ≡ rest
append_back front content rest n is =
    ap (drop n) (sym (append_assoc front content rest))
    ∙ drop_at (front ++ content) rest n (length-append front content ∙ sym is)

-- A short descriptor is read back.

abbrev short_word : ℕ → ℕ → ℕ → ℕ
short_word type_name bits number = type_name + bits * 2 ^ 8 + number * 2 ^ 16 + 2 ^ 28

finds_short : (type_name bits number : ℕ) (content rest : List ℕ)
    → IsItem (record { type_name = type_name; bits = bits; number = number; is_long = false; content = content })
    → Finds (short_word type_name bits number) (word (short_word type_name bits number) ++ (content ++ rest))
    (record { type_name = type_name; bits = bits; number = number; is_long = false; content = content }) rest
finds_short type_name bits number content rest fits =
    let w : ℕ = short_word type_name bits number in
    let encoding : List ℕ = word w ++ (content ++ rest) in
    let reads : little_number 4 encoding ≡ w =
    little_number-word w (content ++ rest) (omega (arith, fits.type_name, fits.bits, fits.number)) in
    let type_is : type_name_in encoding false ≡ type_name =
    ap (λ (n : ℕ). n % 2 ^ 8) reads ∙ omega (arith, fits.type_name) in
    let bits_is : bits_in encoding false ≡ bits =
    ap (λ (n : ℕ). (n / 2 ^ 8) % 2 ^ 8) reads ∙ omega (arith, fits.type_name, fits.bits) in
    let number_is : number_in encoding false ≡ number =
    ap (λ (n : ℕ). (n / 2 ^ 16) % 2 ^ 12) reads ∙ omega (arith, fits.type_name, fits.bits, fits.number) in
    let long_is : data_length encoding false ≡ length content =
    (λ i. padded (number_is i * bits_is i)) ∙ sym fits.long in
    let whole : length encoding ≡ 4 + (length content + length rest) =
    length-append (word w) (content ++ rest) ∙ omega (arith, length-word w, length-append content rest) in
    record {
      reads = reads;
      form = bit_isnt ((w / 2 ^ 29) % 2) (omega (arith, fits.type_name, fits.bits, fits.number));
      passes =
          all_pass (nat_lt (length encoding) 4) false (not (is_inline w))
          (has_other_bit w || false || (is_port_type (type_name_in encoding false) && not
          (bits_in encoding false == 32))) (nat_lt (length encoding) (4 + data_length encoding false))
          SendMsgTooSmall SendMsgTooSmall SendInvalidMemory SendInvalidType SendMsgTooSmall
          (not_less (length encoding) 4 (omega (arith, whole))) refl
          (ap (λ (b : Bool). not b) (bit_is ((w / 2 ^ 28) % 2)
          (omega (arith, fits.type_name, fits.bits, fits.number))))
          (ap (λ (b : Bool). b || ((w / 2 ^ 31) % 2 == 1) || false ||
          (is_port_type (type_name_in encoding false) && not (bits_in encoding false == 32)))
          (bit_isnt ((w / 2 ^ 30) % 2) (omega (arith, fits.type_name, fits.bits, fits.number)))
          ∙ ap (λ (b : Bool). b || false ||
          (is_port_type (type_name_in encoding false) && not (bits_in encoding false == 32)))
          (bit_isnt ((w / 2 ^ 31) % 2) (omega (arith, fits.type_name, fits.bits, fits.number)))
          ∙ (λ i. is_port_type (type_is i) && not (bits_is i == 32))
          ∙ port_passes (is_port_type type_name) bits fits.ports)
          (not_less (length encoding) (4 + data_length encoding false) (omega (arith, whole, long_is)));
      is = λ i. record {
        type_name = type_is i;
        bits = bits_is i;
        number = number_is i;
        is_long = false;
        content = (ap (λ (n : ℕ). take n (content ++ rest)) long_is ∙ take_at content rest (length content) refl) i;
      };
      after =
          ap (λ (n : ℕ). drop (4 + n) encoding) long_is
          ∙ (append_back (word w) content rest (4 + length content) (omega (arith, length-word w)));
    }

-- A long descriptor is read back.

abbrev long_encoding : ℕ → ℕ → ℕ → List ℕ → List ℕ
long_encoding type_name bits number beyond =
    word (2 ^ 28 + 2 ^ 29) ++ (little_bytes 2 type_name ++ (little_bytes 2 bits ++ (word number ++ beyond)))

long_length : (type_name bits number : ℕ) (beyond : List ℕ)
    → length (long_encoding type_name bits number beyond) ≡ 12 + length beyond
long_length type_name bits number beyond = omega arith

finds_long : (type_name bits number : ℕ) (content rest : List ℕ)
    → IsItem (record { type_name = type_name; bits = bits; number = number; is_long = true; content = content })
    → Finds (2 ^ 28 + 2 ^ 29) (long_encoding type_name bits number (content ++ rest))
    (record { type_name = type_name; bits = bits; number = number; is_long = true; content = content }) rest
finds_long type_name bits number content rest fits =
    let encoding : List ℕ = long_encoding type_name bits number (content ++ rest) in
    let type_is : type_name_in encoding true ≡ type_name =
    little_number-reads_back 2 type_name
    (little_bytes 2 bits ++ (word number ++ (content ++ rest))) fits.type_name in
    let bits_is : bits_in encoding true ≡ bits =
    little_number-reads_back 2 bits (word number ++ (content ++ rest)) fits.bits in
    let number_is : number_in encoding true ≡ number =
    little_number-reads_back 4 number (content ++ rest) fits.number in
    let long_is : data_length encoding true ≡ length content =
    (λ i. padded (number_is i * bits_is i)) ∙ sym fits.long in
    let whole : length encoding ≡ 12 + (length content + length rest) =
    long_length type_name bits number (content ++ rest) ∙ omega (arith, length-append content rest) in
    record {
      reads = refl;
      form = refl;
      passes =
          all_pass (nat_lt (length encoding) 4) (nat_lt (length encoding) 12) false
          (is_port_type (type_name_in encoding true) && not (bits_in encoding true == 32))
          (nat_lt (length encoding) (12 + data_length encoding true))
          SendMsgTooSmall SendMsgTooSmall SendInvalidMemory SendInvalidType SendMsgTooSmall
          (not_less (length encoding) 4 (omega (arith, whole)))
          (not_less (length encoding) 12 (omega (arith, whole))) refl
          ((λ i. is_port_type (type_is i) && not (bits_is i == 32))
          ∙ port_passes (is_port_type type_name) bits fits.ports)
          (not_less (length encoding) (12 + data_length encoding true) (omega (arith, whole, long_is)));
      is = λ i. record {
        type_name = type_is i;
        bits = bits_is i;
        number = number_is i;
        is_long = true;
        content = (ap (λ (n : ℕ). take n (content ++ rest)) long_is ∙ take_at content rest (length content) refl) i;
      };
      after = ap (λ (n : ℕ). drop (12 + n) encoding) long_is
          ∙ append_back (word (2 ^ 28 + 2 ^ 29) ++ (little_bytes 2 type_name ++ (little_bytes 2 bits ++ word number)))
          content rest (12 + length content) (omega arith);
    }

-- An item that fits is read back, whatever follows it.
item_back : (n : ℕ) (item : Item) (rest : List ℕ) → IsItem item
    → items_within (suc n) (item_encoding item ++ rest) ≡ and_then (items_within n rest) (λ items. Ok (item ∷ items))
item_back n item rest fits =
    elim item.is_long as (λ (b : Bool). IsItem
    (record {
      type_name = item.type_name;
      bits = item.bits;
      number = item.number;
      is_long = b;
      content = item.content;
    })
    → items_within (suc n) ((descriptor_encoding item b ++ item.content) ++ rest) ≡ and_then (items_within n rest)
    (λ items. Ok ((record {
      type_name = item.type_name;
      bits = item.bits;
      number = item.number;
      is_long = b;
      content = item.content;
    }) ∷ items))) [
      | true ↦ λ (f : _). step_on n (2 ^ 28 + 2 ^ 29) _ _ rest _
          (finds_long item.type_name item.bits item.number item.content rest f)
      | false ↦ λ (f : _). step_on n (short_word item.type_name item.bits item.number) _ _ rest _
          (finds_short item.type_name item.bits item.number item.content rest f)
    ] fits

pub item_length : (item : Item) → length (item_encoding item) ≡ descriptor_length item.is_long + length item.content
item_length item =
    elim item.is_long as (λ (b : Bool). length (descriptor_encoding item b ++ item.content)
    ≡ descriptor_length b + length item.content) [ true ↦ omega arith | false ↦ omega arith ]

at_least_four : (b : Bool) → 4 ≤ descriptor_length b
at_least_four true = omega arith
at_least_four false = omega arith

pub all_back : (n : ℕ) (items : List Item) → AreItems items → length (items_encoding items) ≤ n
    → items_within n (items_encoding items) ≡ Ok items
all_back zero [] fits few = refl
all_back (suc n) [] fits few = refl
all_back zero (item ∷ items) fits few =
    absurd (omega (
      arith,
      few,
      length-append (item_encoding item) (items_encoding items),
      item_length item,
      at_least_four item.is_long,
    ))
all_back (suc n) (item ∷ items) fits few =
    item_back n item (items_encoding items) fits.0
    ∙ ap (λ (r : Result (List Item) KernReturn). and_then r (λ items. Ok (item ∷ items)))
    (all_back n items fits.1 (omega (
      arith,
      few,
      length-append (item_encoding item) (items_encoding items),
      item_length item,
      at_least_four item.is_long,
    )))

pub items_back : (items : List Item) → AreItems items → items_of (items_encoding items) ≡ Ok items
unfolding items_of
items_back items fits = all_back (length (items_encoding items)) items fits (omega arith)

-- What is read fits.

name_fits : (bytes : List ℕ) (b : Bool) → AreBytes bytes → type_name_in bytes b < name_bound b
name_fits bytes false fits = omega arith
name_fits bytes true fits = little_from-lt 0 2 (drop 4 bytes) (back_bytes 4 bytes fits)

bits_fit : (bytes : List ℕ) (b : Bool) → AreBytes bytes → bits_in bytes b < name_bound b
bits_fit bytes false fits = omega arith
bits_fit bytes true fits = little_from-lt 0 2 (drop 6 bytes) (back_bytes 6 bytes fits)

number_fits : (bytes : List ℕ) (b : Bool) → AreBytes bytes → number_in bytes b < number_bound b
number_fits bytes false fits = omega arith
number_fits bytes true fits = little_from-lt 0 4 (drop 8 bytes) (back_bytes 8 bytes fits)

either_false : (a b : Bool) → (a || b) ≡ false → (a ≡ false) × (b ≡ false)
either_false true b e = absurd (cc e)
either_false false b e = (refl, e)

bits_of_port : (port is : Bool) → (port && not is) ≡ false → port ≡ true → is ≡ true
bits_of_port true true e p = refl
bits_of_port true false e p = absurd (cc e)
bits_of_port false is e p = absurd (cc p)

not_false : (b : Bool) → not b ≡ false → b ≡ true
not_false true e = refl
not_false false e = absurd (cc e)

-- the five tests, one by one, of a descriptor whose word and form are known
record Passed (w : ℕ) (bytes : List ℕ) (long : Bool) : Type 0 where
  whole : 4 ≤ length bytes
  is_inline : is_inline w ≡ true
  deallocate : ((w / 2 ^ 30) % 2 == 1) ≡ false
  unused : ((w / 2 ^ 31) % 2 == 1) ≡ false
  plain : long ≡ true → short_fields_are_zero w ≡ true
  ports : is_port_type (type_name_in bytes long) ≡ true → bits_in bytes long ≡ 32
  enough : descriptor_length long + data_length bytes long ≤ length bytes

passed : (w : ℕ) (long : Bool) (bytes : List ℕ) → first_failing (tests_with w long bytes) ≡ None → Passed w bytes long
passed w long bytes passes =
    let last : Tests =
    (nat_lt (length bytes) (descriptor_length long + data_length bytes long), SendMsgTooSmall) ∷ [] in
    let filled : Bool = has_short_fields w long in
    let odd : Bool = has_odd_ports (type_name_in bytes long) (bits_in bytes long) in
    let one =
    first_passes (nat_lt (length bytes) 4, SendMsgTooSmall)
    ((long && nat_lt (length bytes) 12, SendMsgTooSmall) ∷ (not (is_inline w), SendInvalidMemory) ∷
    (has_other_bit w || filled || odd, SendInvalidType) ∷ last) passes in
    let two =
    first_passes (long && nat_lt (length bytes) 12, SendMsgTooSmall)
    ((not (is_inline w), SendInvalidMemory) ∷ (has_other_bit w || filled || odd, SendInvalidType) ∷ last) one.1
    in
    let three =
    first_passes (not (is_inline w), SendInvalidMemory)
    ((has_other_bit w || filled || odd, SendInvalidType) ∷ last) two.1 in
    let four = first_passes (has_other_bit w || filled || odd, SendInvalidType) last three.1 in
    let five =
    first_passes (nat_lt (length bytes) (descriptor_length long + data_length bytes long), SendMsgTooSmall)
    [] four.1 in
    let type_tests = either_false (has_other_bit w || filled) odd four.0 in
    let word_tests = either_false (has_other_bit w) filled type_tests.0 in
    let bits = either_false ((w / 2 ^ 30) % 2 == 1) ((w / 2 ^ 31) % 2 == 1) word_tests.0 in
    record {
      whole = ltb-false (length bytes) 4 one.0;
      is_inline = not_false (is_inline w) three.0;
      deallocate = bits.0;
      unused = bits.1;
      plain = λ (is : _). bits_of_port long (short_fields_are_zero w) word_tests.1 is;
      ports =
          λ (is : _). eqb-true (bits_in bytes long) 32
          (bits_of_port (is_port_type (type_name_in bytes long)) (bits_in bytes long == 32) type_tests.1 is);
      enough = ltb-false (length bytes) (descriptor_length long + data_length bytes long) five.0;
    }

-- A descriptor that passes its tests is that of the item.

half_back : (bytes : List ℕ) → AreBytes bytes → 2 ≤ length bytes → little_bytes 2 (little_number 2 bytes) ≡ take 2 bytes
half_back [] fits long = absurd (omega arith)
half_back (a ∷ []) fits long = absurd (omega arith)
half_back (a ∷ b ∷ rest) fits long =
    let n : ℕ = little_number 2 (a ∷ b ∷ rest) in
    let low : n % 256 ≡ a = omega (arith, fits 0, fits 1) in
    let high : (n / 256) % 256 ≡ b = omega (arith, fits 0, fits 1) in
    λ i. low i ∷ high i ∷ []

fields_of : (w : ℕ) → w < 2 ^ 32 → (w / 2 ^ 28) % 2 ≡ 1 → ((w / 2 ^ 29) % 2 ≡ 1 → ⊥) → ((w / 2 ^ 30) % 2 ≡ 1 → ⊥)
    → ((w / 2 ^ 31) % 2 ≡ 1 → ⊥)
    → w % 2 ^ 8 + ((w / 2 ^ 8) % 2 ^ 8) * 2 ^ 8 + ((w / 2 ^ 16) % 2 ^ 12) * 2 ^ 16 + 2 ^ 28 ≡ w
fields_of w small in_line short kept used = omega (arith, small, in_line, short, kept, used)

long_word_is : (w : ℕ) → w < 2 ^ 32 → (w / 2 ^ 28) % 2 ≡ 1 → (w / 2 ^ 29) % 2 ≡ 1 → ((w / 2 ^ 30) % 2 ≡ 1 → ⊥)
    → ((w / 2 ^ 31) % 2 ≡ 1 → ⊥) → w % 2 ^ 28 ≡ 0 → 2 ^ 28 + 2 ^ 29 ≡ w
long_word_is w small in_line long kept used plain = omega (arith, small, in_line, long, kept, used, plain)

descriptor_back : (bytes : List ℕ) (long : Bool) → AreBytes bytes → is_long_form (little_number 4 bytes) ≡ long
    → Passed (little_number 4 bytes) bytes long
    → descriptor_encoding (item_of bytes long) long ≡ take (descriptor_length long) bytes
descriptor_back bytes false fits form tests =
    let w : ℕ = little_number 4 bytes in
    ap word (fields_of w (little_from-lt 0 4 bytes fits) (eqb-true ((w / 2 ^ 28) % 2) 1 tests.is_inline)
    (eqb-false ((w / 2 ^ 29) % 2) 1 form) (eqb-false ((w / 2 ^ 30) % 2) 1 tests.deallocate)
    (eqb-false ((w / 2 ^ 31) % 2) 1 tests.unused))
    ∙ word-little_number bytes fits tests.whole
descriptor_back bytes true fits form tests =
    let w : ℕ = little_number 4 bytes in
    let word_is : 2 ^ 28 + 2 ^ 29 ≡ w =
    long_word_is w (little_from-lt 0 4 bytes fits) (eqb-true ((w / 2 ^ 28) % 2) 1 tests.is_inline)
    (eqb-true ((w / 2 ^ 29) % 2) 1 form) (eqb-false ((w / 2 ^ 30) % 2) 1 tests.deallocate)
    (eqb-false ((w / 2 ^ 31) % 2) 1 tests.unused)
    (eqb-true (w % 2 ^ 28) 0 (tests.plain refl)) in
    let first : word (2 ^ 28 + 2 ^ 29) ≡ take 4 bytes = ap word word_is ∙ word-little_number bytes fits tests.whole in
    let name : little_bytes 2 (type_name_in bytes true) ≡ take 2 (drop 4 bytes) =
    half_back (drop 4 bytes) (back_bytes 4 bytes fits) (omega (arith, tests.enough, length-drop 4 bytes)) in
    let bits : little_bytes 2 (bits_in bytes true) ≡ take 2 (drop 6 bytes) =
    half_back (drop 6 bytes) (back_bytes 6 bytes fits) (omega (arith, tests.enough, length-drop 6 bytes)) in
    let number : word (number_in bytes true) ≡ take 4 (drop 8 bytes) =
    word-little_number (drop 8 bytes) (back_bytes 8 bytes fits)
    (omega (arith, tests.enough, length-drop 8 bytes)) in
    let last : take 6 (drop 6 bytes) ≡ take 2 (drop 6 bytes) ++ take 4 (drop 8 bytes) =
    take-add 2 4 (drop 6 bytes) ∙ ap (λ (l : List ℕ). take 2 (drop 6 bytes) ++ take 4 l) (drop-drop 2 6 bytes) in
    let middle : take 8 (drop 4 bytes) ≡ take 2 (drop 4 bytes) ++ take 6 (drop 6 bytes) =
    take-add 2 6 (drop 4 bytes) ∙ ap (λ (l : List ℕ). take 2 (drop 4 bytes) ++ take 6 l) (drop-drop 2 4 bytes) in
    (λ i. first i ++ (name i ++ (bits i ++ number i)))
    ∙ ap (λ (l : List ℕ). take 4 bytes ++ (take 2 (drop 4 bytes) ++ l)) (sym last) ∙ ap
    (λ (l : List ℕ). take 4 bytes ++ l) (sym middle) ∙ sym (take-add 4 8 bytes)

-- what is read of bytes and what follows it are these
item_and_rest : (bytes : List ℕ) (long : Bool) → AreBytes bytes → is_long_form (little_number 4 bytes) ≡ long
    → Passed (little_number 4 bytes) bytes long
    → item_encoding (item_of bytes long) ++ after_item bytes long ≡ bytes
item_and_rest bytes long fits form tests =
    let d : ℕ = descriptor_length long in
    let n : ℕ = data_length bytes long in
    append_assoc (descriptor_encoding (item_of bytes long) long) (take n (drop d bytes)) (drop (d + n) bytes)
    ∙ ap (λ (l : List ℕ). l ++ (take n (drop d bytes) ++ drop (d + n) bytes))
    (descriptor_back bytes long fits form tests)
    ∙ ap (λ (l : List ℕ). take d bytes ++ (take n (drop d bytes) ++ l)) (sym (drop-drop n d bytes))
    ∙ ap (λ (l : List ℕ). take d bytes ++ l) (take-append-drop n (drop d bytes)) ∙ take-append-drop d bytes

read_long : (w : ℕ) (bytes : List ℕ) (long : Bool) → Passed w bytes long
    → length (item_of bytes long).content ≡ data_length bytes long
read_long w bytes long tests =
    length-take (data_length bytes long) (drop (descriptor_length long) bytes)
    ∙ omega (arith, length-drop (descriptor_length long) bytes, tests.enough)

read_fits : (w : ℕ) (bytes : List ℕ) (long : Bool) → AreBytes bytes → Passed w bytes long → IsItem (item_of bytes long)
read_fits w bytes long fits tests = record {
  type_name = name_fits bytes long fits;
  bits = bits_fit bytes long fits;
  number = number_fits bytes long fits;
  ports = tests.ports;
  long = read_long w bytes long tests;
  bytes =
      front_bytes (data_length bytes long) (drop (descriptor_length long) bytes)
      (back_bytes (descriptor_length long) bytes fits);
}

-- items that are read fit, and tile the body
pub record ItemsRead (body : List ℕ) (items : List Item) : Type 0 where
  pub fit : AreItems items
  pub tile : items_encoding items ≡ body
  pub long : length (items_encoding items) ≡ length body

one_more_read : (bytes : List ℕ) (items : List Item) → AreBytes bytes
    → Passed (little_number 4 bytes) bytes (is_long_form (little_number 4 bytes))
    → ItemsRead (after_item bytes (is_long_form (little_number 4 bytes))) items
    → ItemsRead bytes (item_of bytes (is_long_form (little_number 4 bytes)) ∷ items)
one_more_read bytes items fits tests rest =
    let long : Bool = is_long_form (little_number 4 bytes) in
    let tile : item_encoding (item_of bytes long) ++ items_encoding items ≡ bytes =
    ap (λ (l : List ℕ). item_encoding (item_of bytes long) ++ l) rest.tile
    ∙ item_and_rest bytes long fits refl tests in
    record {
      fit = (read_fits (little_number 4 bytes) bytes long fits tests, rest.fit);
      tile = tile;
      long = ap length tile;
    }

ok_of : {X Y : Type 0} (r : Result X KernReturn) (next : X → Result Y KernReturn) (y : Y) → and_then r next ≡ Ok y
    → (x : X) × (r ≡ Ok x) × (next x ≡ Ok y)
ok_of (Ok x) next y is = (x, refl, is)
ok_of (Err code) next y is = absurd (cc is)

items_in : Result (List Item) KernReturn → List Item
items_in (Ok items) = items
items_in (Err code) = []

pub same_items : (one other : List Item) → ◌≡◌ {A = Result (List Item) KernReturn} (Ok one) (Ok other) → one ≡ other
unfolding items_in
same_items one other e = ap items_in e

within_read : (n : ℕ) (bytes : List ℕ) (items : List Item) → length bytes ≤ n → AreBytes bytes
    → items_within n bytes ≡ Ok items → ItemsRead bytes items
within_read zero [] items few fits is =
    subst (ItemsRead []) (same_items [] items is) (record { fit = tt; tile = refl; long = refl })
within_read zero (b ∷ bytes) items few fits is = absurd (omega (arith, few))
within_read (suc n) [] items few fits is =
    subst (ItemsRead []) (same_items [] items is) (record { fit = tt; tile = refl; long = refl })
within_read (suc n) (b ∷ bytes) items few fits is =
    let encoding : List ℕ = b ∷ bytes in
    let w : ℕ = little_number 4 encoding in
    let long : Bool = is_long_form w in
    let tests =
    passed_tests (tests_with w long encoding)
    (and_then (items_within n (after_item encoding long)) (λ items. Ok (item_of encoding long ∷ items))) items
    is in
    let rest =
    ok_of (items_within n (after_item encoding long)) (λ items. Ok (item_of encoding long ∷ items)) items tests.1 in
    let pass : Passed w encoding long = passed w long encoding tests.0 in
    let shorter : length (after_item encoding long) ≤ n =
    omega (
      arith,
      few,
      length-drop (descriptor_length long + data_length encoding long) encoding,
      at_least_four long,
    ) in
    subst (ItemsRead encoding) (same_items (item_of encoding long ∷ rest.0) items rest.2)
    (one_more_read encoding rest.0 fits pass
    (within_read n (after_item encoding long) rest.0 shorter
    (back_bytes (descriptor_length long + data_length encoding long) encoding fits) rest.1))

pub items_read : (body : List ℕ) (items : List Item) → AreBytes body → items_of body ≡ Ok items → ItemsRead body items
unfolding items_of
items_read body items fits is = within_read (length body) body items (omega arith) fits is

-- The items that are found in a body of bytes are all of it, in order: their encodings joined are the body.
abbrev pub ItemsTileBodies : Type 0
ItemsTileBodies =
    (body : List ℕ) (items : List Item) → AreBytes body → items_of body ≡ Ok items → items_encoding items ≡ body

pub items_tile_bodies : ItemsTileBodies
items_tile_bodies body items fits is = (items_read body items fits is).tile

code_or_items : (body : List ℕ) → ((items : List Item) × (items_of body ≡ Ok items))
    ⊎ ((code : KernReturn) × (items_of body ≡ Err code))
code_or_items body =
    elim (items_of body) as (λ (r : Result (List Item) KernReturn). items_of body ≡ r
    → ((items : List Item) × (items_of body ≡ Ok items)) ⊎ ((code : KernReturn) × (items_of body ≡ Err code))) [
      | Ok items ↦ λ is. inl (items, is)
      | Err code ↦ λ is. inr (code, is)
    ] refl

-- The converse: items that tile a body are those that are found in it. So a body of bytes is answered by a code exactly
-- where no items tile it.
pub record IsItemized (body : List ℕ) : Type 0 where
  pub found : (items : List Item) → Tile items body ↔ (items_of body ≡ Ok items)
  pub refused : ((items : List Item) → Tile items body → ⊥) ↔ ((code : KernReturn) × (items_of body ≡ Err code))

abbrev pub TiledBodiesHaveItems : Type 0
TiledBodiesHaveItems = (body : List ℕ) → AreBytes body → IsItemized body

tiled : (body : List ℕ) (items : List Item) → Tile items body → items_of body ≡ Ok items
tiled body items tile = subst (λ (l : List ℕ). items_of l ≡ Ok items) tile.1 (items_back items tile.0)

pub tiled_bodies_have_items : TiledBodiesHaveItems
tiled_bodies_have_items body fits =
    let found : (items : List Item) → items_of body ≡ Ok items → Tile items body =
    λ items is. (let read = items_read body items fits is in (read.fit, read.tile)) in
    record {
      found = λ items. (tiled body items, found items);
      refused = (
        λ none. elim (code_or_items body) as (λ _. (code : KernReturn) × (items_of body ≡ Err code))
            [ inl ok ↦ absurd (none ok.0 (found ok.0 ok.1)) | inr err ↦ err ],
        λ err items tile. absurd (cc (tiled body items tile, err.1)),
      );
    }
