-- The names that items hold.
use Rattle.std.specs.Prelude.{◌≡◌, ℕ, zero, suc, ◌+◌, ◌*◌, ◌<◌, ◌≤◌, Bool, true, false, List, [], length, drop, slice_index, if◌then◌else◌, refl}
use Rattle.std.proofs.Common.{◌∙◌, ap, arith, drop-drop}
use Rattle.byteorder.specs.Endian.{little_number}
use Rattle.ipc_model.specs.messages.Items.{Item, is_port_item, is_port_type, names_of_item, padded, words_of}
use Rattle.type_desc.specs.Whole.{IsWhole}

pub length-words_of : (n : ℕ) (bytes : List ℕ) → length (words_of n bytes) ≡ n
length-words_of zero bytes = refl
length-words_of (suc n) bytes = ap suc (length-words_of n (drop 4 bytes))

-- the number of ports of an item
pub names_count : (item : Item) → length (names_of_item item) ≡ (if is_port_item item then item.number else 0)
names_count item =
    elim (is_port_item item) as (λ (b : Bool). length (if b then words_of item.number item.content else [])
    ≡ (if b then item.number else 0)) [ true ↦ length-words_of item.number item.content | false ↦ refl ]

-- the name at index i
pub word_at : (n i : ℕ) (bytes : List ℕ) → i < n
    → slice_index (words_of n bytes) i ≡ little_number 4 (drop (4 * i) bytes)
word_at zero i bytes less = absurd (omega (arith, less))
word_at (suc n) zero bytes less = refl
word_at (suc n) (suc i) bytes less =
    let same : 4 + 4 * i ≡ 4 * suc i = omega arith in
    word_at n i (drop 4 bytes) (omega (arith, less)) ∙ ap (little_number 4) (drop-drop (4 * i) 4 bytes) ∙ ap
    (λ (k : ℕ). little_number 4 (drop k bytes)) same

pub name_at : (item : Item) (i : ℕ) → i < length (names_of_item item)
    → slice_index (names_of_item item) i ≡ little_number 4 (drop (4 * i) item.content)
name_at item i less =
    elim (is_port_item item) as (λ (b : Bool). i < length (if b then words_of item.number item.content else [])
    → slice_index (if b then words_of item.number item.content else []) i
    ≡ little_number 4 (drop (4 * i) item.content)) [
      | true ↦ λ (l : _). word_at item.number i item.content
          (omega (arith, l, length-words_of item.number item.content))
      | false ↦ λ (l : _). absurd (omega (arith, l))
    ] less

-- the data of ports has four bytes for each port
pub ports_long : (type_name bits number : ℕ) (is_long : Bool) (content : List ℕ)
    → IsWhole type_name bits number is_long content → is_port_type type_name ≡ true → length content ≡ 4 * number
ports_long type_name bits number is_long content whole port =
    let long : length content ≡ padded (number * 32) =
    whole.long ∙ ap (λ (n : ℕ). padded (number * n)) (whole.ports port) in
    omega (arith, long)

-- the name at index i is within the data
pub port_within : (type_name bits number : ℕ) (is_long : Bool) (content : List ℕ) (i : ℕ)
    → IsWhole type_name bits number is_long content
    → i < length (if is_port_type type_name then words_of number content else []) → 4 * i + 4 ≤ length content
port_within type_name bits number is_long content i whole less =
    elim (is_port_type type_name) as (λ (b : Bool). is_port_type type_name ≡ b
    → i < length (if b then words_of number content else []) → 4 * i + 4 ≤ length content) [
      | true ↦ λ (e : _). λ (l : _). omega
          (arith, ports_long type_name bits number is_long content whole e, l, length-words_of number content)
      | false ↦ λ (e : _). λ (l : _). absurd (omega (arith, l))
    ] refl less

pub names_of_ports : (item : Item) → is_port_item item ≡ true → length (names_of_item item) ≡ item.number
names_of_ports item port = names_count item ∙ ap (λ (b : Bool). if b then item.number else 0) port
