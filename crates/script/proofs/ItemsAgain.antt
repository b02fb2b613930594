-- Bodies are read back as they are printed.
use Rattle.std.proofs.Common.{◌≡◌, ℕ, zero, suc, ◌+◌, ◌*◌, ◌%◌, ◌^◌, ◌<◌, ◌≤◌, Bool, true, false, ◌==◌, List, [], ◌∷◌, ◌++◌, length, drop, take, cond, refl, sym, ap, subst, ◌∙◌, arith, Option, Some, None, Ok, append_assoc}
use Rattle.std.specs.Prelude.{nat_lt, codes, map, flat_map}
use Rattle.std.specs.Str.{bytes_eq}
use Rattle.std.proofs.lemmas.Bool.{eqb-true}
use Rattle.std.proofs.lemmas.Bool.Decides.{nat_tests}
use Rattle.std.proofs.lemmas.List.{take-append-drop, length-append, length-take-le}
use Rattle.std.proofs.lemmas.Slice.Eq.{bytes_eq-Decides}
use Rattle.byteorder.specs.Endian.{little_number}
use Rattle.byteorder.specs.Numbers.{little_from-lt}
use Rattle.words.specs.WordLaws.{word-little_number}
use Rattle.words.specs.Words.{AreBytes, word}
use Rattle.ipc_model.specs.messages.Items.{item_encoding}
use Rattle.script.specs.declared.vocabulary.kind.Kind.{Kind}
use Rattle.script.specs.declared.vocabulary.kind.Kind.TheVariants as kind
use Rattle.script.specs.vocabulary.Items.{zeros, descriptor}
use Rattle.script.specs.vocabulary.Kinds.{value_word, read_word}
use Rattle.script.specs.printing.Bytes.{bytes_word, optional_bytes}
use Rattle.script.specs.printing.Items.{element_kind, words_item_words, bytes_item_words, ◌>>?◌, word_front, split_front, stated_number, numbers_in, words_front, bytes_front, item_front, body_within, body_words}
use Rattle.script.specs.declared.fault.Expected.TheVariants as expected
use Rattle.script.specs.Bytes.{bytes_at, optional_bytes_at}
use Rattle.script.specs.Items.{words_item, bytes_item, numbers_at, words_item_at, bytes_item_at, item_at, parts_at, body_at}
use Rattle.script.specs.Reading.{label_at, bounded_at}
use Rattle.script.proofs.ReadingAgain.{bounded_again, label_again, other_label, past_bytes, bytes_at_again, optional_bytes_again, numbers_end, NoLabel}
use Rattle.script.proofs.ValuesAgain.{word_again, in_decimal}

pub bytes_after : (n : ℕ) (bytes : List ℕ) → AreBytes bytes → AreBytes (drop n bytes)
bytes_after zero bytes fits = fits
bytes_after (suc n) [] fits = fits
bytes_after (suc n) (b ∷ bytes) fits = bytes_after n bytes (λ (k : ℕ). fits (suc k))

bytes_first : (n : ℕ) (bytes : List ℕ) → AreBytes bytes → AreBytes (take n bytes)
bytes_first zero bytes fits i = omega arith
bytes_first (suc n) [] fits i = omega arith
bytes_first (suc n) (a ∷ bytes) fits zero = fits 0
bytes_first (suc n) (a ∷ bytes) fits (suc i) = bytes_first n bytes (λ k. fits (suc k)) i

-- all are numbers of four bytes
abbrev pub AreNumbers : List ℕ → Type 0
AreNumbers [] = Unit {0}
AreNumbers (n ∷ ns) = (n < 2 ^ 32) × AreNumbers ns

number_fits : (bytes : List ℕ) → AreBytes bytes → little_number 4 bytes < 2 ^ 32
number_fits bytes fits = omega (arith, little_from-lt 0 4 bytes fits)

bind_option : {A B : Type 0} (o : Option A) (f : A → Option B) (y : B) → (o >>? f) ≡ Some y → (x : A) × (o ≡ Some x)
    × (f x ≡ Some y)
bind_option None f y e = absurd (cc)
bind_option (Some x) f y e = (x, refl, e)

if_some : {B : Type 0} (b : Bool) (o : Option B) (y : B) → cond b o None ≡ Some y → (b ≡ true) × (o ≡ Some y)
if_some true o y e = (refl, e)
if_some false o y e = absurd (cc)

if_none : {B : Type 0} (b : Bool) (o : Option B) (y : B) → cond b None o ≡ Some y → (b ≡ false) × (o ≡ Some y)
if_none true o y e = absurd (cc)
if_none false o y e = (refl, e)

some_same : {A : Type 0} (x y : A) → Some x ≡ Some y → x ≡ y
some_same x y e = cc

-- the front of a body, put together again
record WordFront (body : List ℕ) (w : ℕ × List ℕ) : Type 0 where
  is : body ≡ word w.0 ++ w.1
  fits : AreBytes w.1
  small : w.0 < 2 ^ 32

word_parts : (body : List ℕ) (w : ℕ × List ℕ) → AreBytes body → word_front body ≡ Some w → WordFront body w
unfolding word_front
word_parts body w fits e =
    let test = if_none (nat_lt (length body) 4) (Some (little_number 4 body, drop 4 body)) w e in
    let enough : 4 ≤ length body = grind (arith, nat_tests, test.0) in
    subst (WordFront body) (some_same (little_number 4 body, drop 4 body) w test.1) (record {
      is = sym (ap (λ (l : List ℕ). l ++ drop 4 body) (word-little_number body fits enough) ∙ take-append-drop 4 body);
      fits = bytes_after 4 body fits;
      small = number_fits body fits;
    })

record SplitFront (n : ℕ) (bytes : List ℕ) (s : List ℕ × List ℕ) : Type 0 where
  is : bytes ≡ s.0 ++ s.1
  count : length s.0 ≡ n
  first : AreBytes s.0
  beyond : AreBytes s.1

split_parts : (n : ℕ) (bytes : List ℕ) (s : List ℕ × List ℕ) → AreBytes bytes → split_front n bytes ≡ Some s
    → SplitFront n bytes s
unfolding split_front
split_parts n bytes s fits e =
    let test = if_none (nat_lt (length bytes) n) (Some (take n bytes, drop n bytes)) s e in
    let enough : n ≤ length bytes = grind (arith, nat_tests, test.0) in
    subst (SplitFront n bytes) (some_same (take n bytes, drop n bytes) s test.1) (record {
      is = sym (take-append-drop n bytes);
      count = length-take-le n bytes enough;
      first = bytes_first n bytes fits;
      beyond = bytes_after n bytes fits;
    })

record Numbers (k : ℕ) (bytes : List ℕ) : Type 0 where
  is : flat_map word (numbers_in bytes) ≡ bytes
  count : length (numbers_in bytes) ≡ k
  fit : AreNumbers (numbers_in bytes)

numbers_back : (k : ℕ) (bytes : List ℕ) → AreBytes bytes → length bytes ≡ 4 * k → Numbers k bytes
numbers_back k [] fits even = record { is = refl; count = omega (arith, even); fit = tt }
numbers_back k (a ∷ []) fits even = absurd (omega (arith, even))
numbers_back k (a ∷ b ∷ []) fits even = absurd (omega (arith, even))
numbers_back k (a ∷ b ∷ c ∷ []) fits even = absurd (omega (arith, even))
numbers_back zero (a ∷ b ∷ c ∷ d ∷ bytes) fits even = absurd (omega (arith, even))
numbers_back (suc k) (a ∷ b ∷ c ∷ d ∷ bytes) fits even =
    let four : AreBytes (a ∷ b ∷ c ∷ d ∷ []) = bytes_first 4 (a ∷ b ∷ c ∷ d ∷ bytes) fits in
    let more : Numbers k bytes =
    numbers_back k bytes (bytes_after 4 (a ∷ b ∷ c ∷ d ∷ bytes) fits) (omega (arith, even)) in
    record {
      is =
          ap (λ (l : List ℕ). l ++ flat_map word (numbers_in bytes))
          (word-little_number (a ∷ b ∷ c ∷ d ∷ []) four (omega arith)) ∙ ap
          (λ (l : List ℕ). a ∷ b ∷ c ∷ d ∷ l) more.is;
      count = ap (λ (n : ℕ). suc n) more.count;
      fit = (number_fits (a ∷ b ∷ c ∷ d ∷ []) four, more.fit);
    }

pub record WordsFront (body : List ℕ) (w : ℕ × List ℕ × List ℕ) : Type 0 where
  pub is : item_encoding (words_item w.0 (numbers_in w.1)) ++ w.2 ≡ body
  pub small : w.0 < 0x100
  pub few : length (numbers_in w.1) < 0x1000
  pub fit : AreNumbers (numbers_in w.1)
  pub beyond : AreBytes w.2

abbrev words_content : ℕ × List ℕ → List ℕ × List ℕ → Option (ℕ × List ℕ × List ℕ)
words_content w c = Some (w.0 % 0x100, c.0, c.1)

abbrev words_after : ℕ × List ℕ → Option (ℕ × List ℕ × List ℕ)
words_after w =
    cond (w.0 == descriptor (w.0 % 0x100) 32 (stated_number w.0))
    (split_front (4 * stated_number w.0) w.1 >>? words_content w) None

words_joined : (t w : ℕ) (ns body beyond content rest : List ℕ) → t + 32 * 2 ^ 8 + length ns * 2 ^ 16 + 2 ^ 28 ≡ w
    → flat_map word ns ≡ content → rest ≡ content ++ beyond → body ≡ word w ++ rest
    → item_encoding (words_item t ns) ++ beyond ≡ body
words_joined t w ns body beyond content rest stated numbers split front =
    append_assoc (word (t + 32 * 2 ^ 8 + length ns * 2 ^ 16 + 2 ^ 28)) (flat_map word ns) beyond
    ∙ ap (λ (n : ℕ). word n ++ (flat_map word ns ++ beyond)) stated
    ∙ ap (λ (l : List ℕ). word w ++ (l ++ beyond)) numbers
    ∙ ap (λ (l : List ℕ). word w ++ l) (sym split)
    ∙ sym front

words_parts : (body : List ℕ) (found : ℕ × List ℕ × List ℕ) → AreBytes body → words_front body ≡ Some found
    → WordsFront body found
unfolding words_front
words_parts body found fits e =
    let first = bind_option (word_front body) words_after found e in
    let w : ℕ × List ℕ = first.0 in
    let front : WordFront body w = word_parts body w fits first.1 in
    let test =
    if_some (w.0 == descriptor (w.0 % 0x100) 32 (stated_number w.0))
    (split_front (4 * stated_number w.0) w.1 >>? words_content w) found first.2 in
    let same : w.0 ≡ descriptor (w.0 % 0x100) 32 (stated_number w.0) =
    eqb-true w.0 (descriptor (w.0 % 0x100) 32 (stated_number w.0)) test.0 in
    let second = bind_option (split_front (4 * stated_number w.0) w.1) (words_content w) found test.1 in
    let c : List ℕ × List ℕ = second.0 in
    let split : SplitFront (4 * stated_number w.0) w.1 c =
    split_parts (4 * stated_number w.0) w.1 c front.fits second.1 in
    let numbers : Numbers (stated_number w.0) c.0 = numbers_back (stated_number w.0) c.0 split.first split.count in
    let stated : w.0 % 0x100 + 32 * 2 ^ 8 + length (numbers_in c.0) * 2 ^ 16 + 2 ^ 28 ≡ w.0 =
    omega (arith, same, numbers.count) in
    subst (WordsFront body) (some_same (w.0 % 0x100, c.0, c.1) found second.2) (record {
      is = words_joined (w.0 % 0x100) w.0 (numbers_in c.0) body c.1 c.0 w.1 stated numbers.is split.is front.is;
      small = omega arith;
      few = omega (arith, numbers.count);
      fit = numbers.fit;
      beyond = split.beyond;
    })

pub record BytesFront (body : List ℕ) (b : List ℕ × List ℕ) : Type 0 where
  pub is : item_encoding (bytes_item b.0) ++ b.1 ≡ body
  pub few : length b.0 < 0x1000
  pub bytes : AreBytes b.0
  pub beyond : AreBytes b.1

abbrev zeros_after : ℕ → List ℕ → List ℕ × List ℕ → Option (List ℕ × List ℕ)
zeros_after n bytes z = cond (bytes_eq z.0 (zeros n)) (Some (bytes, z.1)) None

abbrev tail_after : ℕ → List ℕ × List ℕ → Option (List ℕ × List ℕ)
tail_after n b = split_front (length (zeros n)) b.1 >>? zeros_after n b.0

abbrev bytes_after_word : ℕ × List ℕ → Option (List ℕ × List ℕ)
bytes_after_word w =
    cond (w.0 == descriptor 9 8 (stated_number w.0))
    (split_front (stated_number w.0) w.1 >>? tail_after (stated_number w.0)) None

bytes_joined : (w n : ℕ) (bytes body beyond zero_bytes tail rest : List ℕ)
    → 9 + 8 * 2 ^ 8 + length bytes * 2 ^ 16 + 2 ^ 28 ≡ w → length bytes ≡ n → zero_bytes ≡ zeros n
    → tail ≡ zero_bytes ++ beyond → rest ≡ bytes ++ tail → body ≡ word w ++ rest
    → item_encoding (bytes_item bytes) ++ beyond ≡ body
bytes_joined w n bytes body beyond zero_bytes tail rest stated count same after split front =
    append_assoc (word (9 + 8 * 2 ^ 8 + length bytes * 2 ^ 16 + 2 ^ 28)) (bytes ++ zeros (length bytes)) beyond
    ∙ ap (λ (k : ℕ). word k ++ ((bytes ++ zeros (length bytes)) ++ beyond)) stated
    ∙ ap (λ (l : List ℕ). word w ++ l) (append_assoc bytes (zeros (length bytes)) beyond)
    ∙ ap (λ (k : ℕ). word w ++ (bytes ++ (zeros k ++ beyond))) count
    ∙ ap (λ (l : List ℕ). word w ++ (bytes ++ (l ++ beyond))) (sym same)
    ∙ ap (λ (l : List ℕ). word w ++ (bytes ++ l)) (sym after)
    ∙ ap (λ (l : List ℕ). word w ++ l) (sym split)
    ∙ sym front

bytes_parts : (body : List ℕ) (found : List ℕ × List ℕ) → AreBytes body → bytes_front body ≡ Some found
    → BytesFront body found
unfolding bytes_front
bytes_parts body found fits e =
    let first = bind_option (word_front body) bytes_after_word found e in
    let w : ℕ × List ℕ = first.0 in
    let n : ℕ = stated_number w.0 in
    let front : WordFront body w = word_parts body w fits first.1 in
    let test = if_some (w.0 == descriptor 9 8 n) (split_front n w.1 >>? tail_after n) found first.2 in
    let same : w.0 ≡ descriptor 9 8 n = eqb-true w.0 (descriptor 9 8 n) test.0 in
    let second = bind_option (split_front n w.1) (tail_after n) found test.1 in
    let b : List ℕ × List ℕ = second.0 in
    let split : SplitFront n w.1 b = split_parts n w.1 b front.fits second.1 in
    let third = bind_option (split_front (length (zeros n)) b.1) (zeros_after n b.0) found second.2 in
    let z : List ℕ × List ℕ = third.0 in
    let tail : SplitFront (length (zeros n)) b.1 z = split_parts (length (zeros n)) b.1 z split.beyond third.1 in
    let last = if_some (bytes_eq z.0 (zeros n)) (Some (b.0, z.1)) found third.2 in
    let zero_bytes : z.0 ≡ zeros n = (bytes_eq-Decides z.0 (zeros n)).0 last.0 in
    let stated : 9 + 8 * 2 ^ 8 + length b.0 * 2 ^ 16 + 2 ^ 28 ≡ w.0 = omega (arith, same, split.count) in
    subst (BytesFront body) {x = (b.0, z.1)} (some_same (b.0, z.1) found last.1) (record {
      is = bytes_joined w.0 n b.0 body z.1 z.0 b.1 w.1 stated split.count zero_bytes tail.is split.is front.is;
      few = omega (arith, split.count);
      bytes = split.first;
      beyond = tail.beyond;
    })

-- a fact about items with and without a written form
pub item_cases : (P : Option (List (List ℕ) × List ℕ) → Type 0) (body : List ℕ) → AreBytes body
    → ((w : ℕ × List ℕ × List ℕ) → WordsFront body w → P (Some (words_item_words w.0 (numbers_in w.1), w.2)))
    → ((b : List ℕ × List ℕ) → BytesFront body b → P (Some (bytes_item_words b.0, b.1))) → P None → P (item_front body)
unfolding item_front
item_cases P body fits words bytes none =
    elim (words_front body) as (λ (o : Option (ℕ × List ℕ × List ℕ)). words_front body ≡ o
    → P (elim o as (λ _. Option (List (List ℕ) × List ℕ)) [
      | Some w ↦ Some (words_item_words w.0 (numbers_in w.1), w.2)
      | None ↦ elim (bytes_front body) [ Some b ↦ Some (bytes_item_words b.0, b.1) | None ↦ None ]
    ])) [
      | Some w ↦ λ (is : _). words w (words_parts body w fits is)
      | None ↦ λ (_ : _). elim (bytes_front body)
          as (λ (o : Option (List ℕ × List ℕ)). bytes_front body ≡ o
          → P (elim o as (λ _. Option (List (List ℕ) × List ℕ))
          [ Some b ↦ Some (bytes_item_words b.0, b.1) | None ↦ None ])) [
            | Some b ↦ λ (is : _). bytes b (bytes_parts body b fits is)
            | None ↦ λ (_ : _). none
          ] refl
    ] refl

-- Consecutive numbers.
abbrev kind_if : Bool → Kind
kind_if ports = cond ports kind.Hexadecimal kind.Decimal

read_element : (ports : Bool) (n : ℕ) → n < 2 ^ 32 → read_word kind.Hexadecimal (value_word (kind_if ports) n) ≡ Some n
unfolding value_word
read_element true n fits = word_again kind.Hexadecimal n fits
read_element false n fits = in_decimal kind.Hexadecimal n fits

numbers_again : (ports : Bool) (ns : List ℕ) (ws : List (List ℕ)) → AreNumbers ns → numbers_at ws ≡ ([], ws)
    → numbers_at (map (value_word (kind_if ports)) ns ++ ws) ≡ (ns, ws)
unfolding numbers_at
numbers_again ports [] ws fit none = none
numbers_again ports (n ∷ ns) ws fit none =
    let rest : List (List ℕ) = map (value_word (kind_if ports)) ns ++ ws in
    ap (λ (o : Option ℕ). elim o as (λ _. List ℕ × List (List ℕ))
    [ None ↦ ([], value_word (kind_if ports) n ∷ rest) | Some m ↦ (m ∷ (numbers_at rest).0, (numbers_at rest).1) ])
    (read_element ports n fit.0)
    ∙ ap (λ (p : List ℕ × List (List ℕ)). (n ∷ p.0, p.1)) (numbers_again ports ns ws fit.1 none)

below_is : (a b : ℕ) → a < b → nat_lt a b ≡ true
below_is a b less = grind (arith, nat_tests)

-- a type's word isn't the label of bytes
no_bytes_label : (n : ℕ) → n < 2 ^ 32 → bytes_eq (value_word kind.Element n) (codes "bytes") ≡ false
unfolding read_word
no_bytes_label n fits =
    elim (bytes_eq (value_word kind.Element n) (codes "bytes")) as
    (λ (b : Bool). bytes_eq (value_word kind.Element n) (codes "bytes") ≡ b → b ≡ false) [
      | true ↦ λ (same : _).
          let e : value_word kind.Element n ≡ codes "bytes" =
          (bytes_eq-Decides (value_word kind.Element n) (codes "bytes")).0 same in
          let wrong : read_word kind.Element (codes "bytes") ≡ Some n =
          ap (read_word kind.Element) (sym e) ∙ word_again kind.Element n fits in
          let none : read_word kind.Element (codes "bytes") ≡ None = refl in
          absurd (cc)
      | false ↦ λ (_ : _). refl
    ] refl

words_item_parts : (words rest ws : List (List ℕ)) (t : ℕ) (ns : List ℕ) → label_at (codes "bytes") words ≡ None
    → bounded_at expected.Item kind.Element 0x100 words ≡ Ok (t, rest)
    → numbers_at rest ≡ (ns, ws) → nat_lt (length ns) 0x1000 ≡ true
    → item_at words ≡ Ok (item_encoding (words_item t ns), ws)
unfolding item_at words_item_at
words_item_parts words rest ws t ns label type_name numbers few =
    rw (label, item_at) (rw type_name (rw numbers (rw few refl)))

words_item_again : (t : ℕ) (ns : List ℕ) (ws : List (List ℕ)) → t < 0x100 → AreNumbers ns → length ns < 0x1000
    → numbers_at ws ≡ ([], ws)
    → item_at (value_word kind.Element t ∷ (map (value_word (element_kind t)) ns ++ ws))
    ≡ Ok (item_encoding (words_item t ns), ws)
words_item_again t ns ws small fit few none =
    let rest : List (List ℕ) = map (value_word (element_kind t)) ns ++ ws in
    words_item_parts (value_word kind.Element t ∷ rest) rest ws t ns
    (other_label (codes "bytes") (value_word kind.Element t) rest (no_bytes_label t (omega (arith, small))))
    (bounded_again expected.Item kind.Element 0x100 t rest tt small (omega arith)) (numbers_again _ ns ws fit none)
    (below_is _ _ few)

bytes_item_parts : (rest ws : List (List ℕ)) (bytes : List ℕ) → bytes_at rest ≡ Ok (bytes, ws)
    → nat_lt (length bytes) 0x1000 ≡ true
    → item_at (codes "bytes" ∷ rest) ≡ Ok (item_encoding (bytes_item bytes), ws)
unfolding item_at bytes_item_at
bytes_item_parts rest ws bytes read few = rw (label_again (codes "bytes") rest, item_at) (rw read (rw few refl))

-- the words after the items
data_only : (n : ℕ) (words : List (List ℕ)) → label_at (codes "item") words ≡ None → parts_at n words
    ≡ optional_bytes_at (codes "data") words
unfolding parts_at
data_only zero words none = refl
data_only (suc n) words none = rw (none, parts_at) refl

data_again : (n : ℕ) (body : List ℕ) (ws : List (List ℕ)) → AreBytes body → NoLabel ws
    → parts_at n (optional_bytes (codes "data") body ++ ws) ≡ Ok (body, ws)
data_again n body ws fits none =
    data_only n (optional_bytes (codes "data") body ++ ws)
    (past_bytes (codes "item") (codes "data") body ws refl (none.0 (codes "item") refl))
    ∙ optional_bytes_again (codes "data") body ws fits (none.0 (codes "data") refl)

item_more : (n : ℕ) (rest more ws : List (List ℕ)) (text body : List ℕ) → item_at rest ≡ Ok (text, more)
    → parts_at n more ≡ Ok (body, ws) → parts_at (suc n) (codes "item" ∷ rest) ≡ Ok (text ++ body, ws)
unfolding parts_at
item_more n rest more ws text body item parts = rw (label_again (codes "item") rest, parts_at) (rw item (rw parts refl))

-- the words of a body's rest don't begin with a number
data_no_number : (body : List ℕ) (ws : List (List ℕ)) → numbers_at ws ≡ ([], ws)
    → numbers_at (optional_bytes (codes "data") body ++ ws) ≡ ([], optional_bytes (codes "data") body ++ ws)
unfolding optional_bytes read_word
data_no_number [] ws none = none
data_no_number (b ∷ body) ws none = numbers_end (codes "data") (bytes_word (b ∷ body) ∷ ws) refl

item_no_number : (ws : List (List ℕ)) → numbers_at (codes "item" ∷ ws) ≡ ([], codes "item" ∷ ws)
unfolding read_word
item_no_number ws = numbers_end (codes "item") ws refl

abbrev pub words_after_item : ℕ → List ℕ → Option (List (List ℕ) × List ℕ) → List (List ℕ)
words_after_item m body front =
    elim front [ None ↦ optional_bytes (codes "data") body | Some i ↦ i.0 ++ body_within m i.1 ]

body_no_number : (m : ℕ) (body : List ℕ) (ws : List (List ℕ)) → AreBytes body → numbers_at ws ≡ ([], ws)
    → numbers_at (body_within m body ++ ws) ≡ ([], body_within m body ++ ws)
unfolding body_within words_item_words bytes_item_words
body_no_number zero body ws fits none = data_no_number body ws none
body_no_number (suc m) body ws fits none =
    item_cases (λ (front : Option (List (List ℕ) × List ℕ)). numbers_at (words_after_item m body front ++ ws)
    ≡ ([], words_after_item m body front ++ ws)) body fits
    (λ (w : _) (parts : _). item_no_number _) (λ (b : _) (parts : _). item_no_number _) (data_no_number body ws none)

pub past_within : (m : ℕ) (label body : List ℕ) (ws : List (List ℕ)) → AreBytes body → bytes_eq (codes "item") label
    ≡ false → bytes_eq (codes "data") label ≡ false → label_at label ws ≡ None
    → label_at label (body_within m body ++ ws) ≡ None
unfolding body_within words_item_words bytes_item_words
past_within zero label body ws fits item apart none = past_bytes label (codes "data") body ws apart none
past_within (suc m) label body ws fits item apart none =
    item_cases (λ (front : Option (List (List ℕ) × List ℕ)). label_at label (words_after_item m body front ++ ws)
    ≡ None) body fits
    (λ (w : _) (parts : _). other_label label (codes "item") _ item)
    (λ (b : _) (parts : _). other_label label (codes "item") _ item)
    (past_bytes label (codes "data") body ws apart none)

pub past_body : (label body : List ℕ) (ws : List (List ℕ)) → AreBytes body → bytes_eq (codes "item") label ≡ false
    → bytes_eq (codes "data") label ≡ false → label_at label ws ≡ None
    → label_at label (body_words body ++ ws) ≡ None
unfolding body_words
past_body label body ws fits item apart none = past_within (length body) label body ws fits item apart none

within_again : (m n : ℕ) (body : List ℕ) (ws : List (List ℕ)) → AreBytes body → NoLabel ws
    → length (body_within m body) ≤ n → parts_at n (body_within m body ++ ws) ≡ Ok (body, ws)
unfolding body_within words_item_words bytes_item_words
within_again zero n body ws fits none = λ (enough : _). data_again n body ws fits none
within_again (suc m) zero body ws fits none =
    item_cases (λ (front : Option (List (List ℕ) × List ℕ)). length (words_after_item m body front) ≤ 0
    → parts_at 0 (words_after_item m body front ++ ws) ≡ Ok (body, ws)) body fits
    (λ (w : _) (parts : _) (enough : _). absurd (omega (arith, enough)))
    (λ (b : _) (parts : _) (enough : _). absurd (omega (arith, enough)))
    (λ (enough : _). data_again 0 body ws fits none)
within_again (suc m) (suc n) body ws fits none =
    item_cases (λ (front : Option (List (List ℕ) × List ℕ)). length (words_after_item m body front) ≤ suc n
    → parts_at (suc n) (words_after_item m body front ++ ws) ≡ Ok (body, ws)) body fits
    (λ (w : ℕ × List ℕ × List ℕ) (parts : WordsFront body w) (enough : _).
    let numbers : List (List ℕ) = map (value_word (element_kind w.0)) (numbers_in w.1) in
    let more : List (List ℕ) = body_within m w.2 in
    let few : length more ≤ n = omega (arith, enough, length-append numbers more) in
    ap (λ (l : List (List ℕ)). parts_at (suc n) (codes "item" ∷ value_word kind.Element w.0 ∷ l))
    (append_assoc numbers more ws)
    ∙ item_more n _ (more ++ ws) ws (item_encoding (words_item w.0 (numbers_in w.1))) w.2
    (words_item_again w.0 (numbers_in w.1) (more ++ ws) parts.small parts.fit parts.few
    (body_no_number m w.2 ws parts.beyond none.1)) (within_again m n w.2 ws parts.beyond none few)
    ∙ ap (λ (l : List ℕ). Ok (l, ws)) parts.is)
    (λ (b : List ℕ × List ℕ) (parts : BytesFront body b) (enough : _).
    let more : List (List ℕ) = body_within m b.1 in
    let few : length more ≤ n = omega (arith, enough) in
    item_more n _ (more ++ ws) ws (item_encoding (bytes_item b.0)) b.1
    (bytes_item_parts (bytes_word b.0 ∷ more ++ ws) (more ++ ws) b.0 (bytes_at_again b.0 (more ++ ws) parts.bytes)
    (below_is _ _ parts.few)) (within_again m n b.1 ws parts.beyond none few)
    ∙ ap (λ (l : List ℕ). Ok (l, ws)) parts.is)
    (λ (enough : _). data_again (suc n) body ws fits none)

-- every body is read from its words
pub body_again : (body : List ℕ) (ws : List (List ℕ)) → AreBytes body → NoLabel ws
    → body_at (body_words body ++ ws) ≡ Ok (body, ws)
unfolding body_at body_words
body_again body ws fits none =
    within_again (length body) (length (body_within (length body) body ++ ws)) body ws fits none
    (omega (arith, length-append (body_within (length body) body) ws))
