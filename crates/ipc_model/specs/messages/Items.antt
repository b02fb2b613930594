-- The items of a message's body: descriptors, each followed by its data.
-- (Kernel Interfaces, mach_msg, mach_msg_type_t and mach_msg_type_long_t.)
use Rattle.std.specs.Prelude.{◌≡◌, ℕ, zero, suc, ◌+◌, ◌*◌, ◌/◌, ◌%◌, ◌^◌, ◌<◌, Bool, true, false, ◌==◌, ◌&&◌, ◌||◌, not, nat_le, nat_lt, List, [], ◌∷◌, ◌++◌, length, take, drop, replicate, flat_map, None, Some, Result, Ok, Err, if◌then◌else◌}
use Rattle.words.specs.Numbers.{little_number, little_bytes}
use Rattle.codes.specs.declared.kern_return.KernReturn.{KernReturn}
use Rattle.codes.specs.declared.kern_return.KernReturn.TheVariants.{SendMsgTooSmall, SendInvalidMemory, SendInvalidType}
use Rattle.ipc_model.specs.rights.Dispositions.{MoveReceive, MakeSendOnce, disposition_of, number_of_disposition, received_kind, number_of_kind}
use Rattle.ipc_model.specs.calls.Tests.{Tests, and_then, unless_failing}
use Rattle.words.specs.Words.{AreBytes, word}

-- an item: its type name, the bits and the number of its elements, whether its descriptor is a long one, and its
-- data with the padding
pub record Item : Type 0 where
  pub type_name : ℕ
  pub bits : ℕ
  pub number : ℕ
  pub is_long : Bool
  pub content : List ℕ

-- the fields of a short descriptor's word, from the low bit: type name 8, bits 8, number 12, inline, long form,
-- deallocate and unused 1 each
abbrev pub bit : ℕ → ℕ → Bool
bit n w = (w / 2 ^ n) % 2 == 1

abbrev pub is_inline : ℕ → Bool
is_inline w = bit 28 w

abbrev pub is_long_form : ℕ → Bool
is_long_form w = bit 29 w

-- deallocate or unused
abbrev pub has_other_bit : ℕ → Bool
has_other_bit w = bit 30 w || bit 31 w

-- the fields of type name, bits and number of this word, which are its low 28 bits, are 0
abbrev pub short_fields_are_zero : ℕ → Bool
short_fields_are_zero w = w % 2 ^ 28 == 0

-- a long descriptor's word has such a field, which belongs after it
abbrev pub has_short_fields : ℕ → Bool → Bool
has_short_fields w long = long && not (short_fields_are_zero w)

-- the fields of type name, bits and number: in the word, or after it in a long descriptor, whose word has none
abbrev pub type_name_in : List ℕ → Bool → ℕ
type_name_in bytes false = little_number 4 bytes % 2 ^ 8
type_name_in bytes true = little_number 2 (drop 4 bytes)

abbrev pub bits_in : List ℕ → Bool → ℕ
bits_in bytes false = (little_number 4 bytes / 2 ^ 8) % 2 ^ 8
bits_in bytes true = little_number 2 (drop 6 bytes)

abbrev pub number_in : List ℕ → Bool → ℕ
number_in bytes false = (little_number 4 bytes / 2 ^ 16) % 2 ^ 12
number_in bytes true = little_number 4 (drop 8 bytes)

abbrev pub descriptor_length : Bool → ℕ
descriptor_length false = 4
descriptor_length true = 12

-- how many bytes this many bits take, padded to a multiple of 4
abbrev pub padded : ℕ → ℕ
padded n = (((n + 7) / 8 + 3) / 4) * 4

-- MACH_MSG_TYPE_MOVE_RECEIVE to MACH_MSG_TYPE_MAKE_SEND_ONCE
abbrev pub is_port_type : ℕ → Bool
is_port_type type_name =
    nat_le (number_of_disposition MoveReceive) type_name && nat_le type_name (number_of_disposition MakeSendOnce)

-- a port of another size than a name's
abbrev pub has_odd_ports : ℕ → ℕ → Bool
has_odd_ports type_name bits = is_port_type type_name && not (bits == 32)

abbrev pub data_length : List ℕ → Bool → ℕ
data_length bytes long = padded (number_in bytes long * bits_in bytes long)

-- The tests of the item that bytes begin with.
abbrev pub tests_of_item : List ℕ → Tests
tests_of_item bytes =
    let w : ℕ = little_number 4 bytes in
    let long : Bool = is_long_form w in
    (nat_lt (length bytes) 4, SendMsgTooSmall)
    ∷ (long && nat_lt (length bytes) 12, SendMsgTooSmall)
    ∷ (not (is_inline w), SendInvalidMemory)
    ∷ (
      has_other_bit w || has_short_fields w long || has_odd_ports (type_name_in bytes long) (bits_in bytes long),
      SendInvalidType,
    )
    ∷ (nat_lt (length bytes) (descriptor_length long + data_length bytes long), SendMsgTooSmall)
    ∷ []

abbrev pub item_of : List ℕ → Bool → Item
item_of bytes long = record {
  type_name = type_name_in bytes long;
  bits = bits_in bytes long;
  number = number_in bytes long;
  is_long = long;
  content = take (data_length bytes long) (drop (descriptor_length long) bytes);
}

abbrev pub after_item : List ℕ → Bool → List ℕ
after_item bytes long = drop (descriptor_length long + data_length bytes long) bytes

-- At most this many items, read from the left; or the code of the first fault. An item has 4 bytes or more.
abbrev pub items_within : ℕ → List ℕ → Result (List Item) KernReturn
items_within zero bytes = Ok []
items_within (suc n) [] = Ok []
items_within (suc n) (b ∷ bytes) =
    let long : Bool = is_long_form (little_number 4 (b ∷ bytes)) in
    unless_failing (tests_of_item (b ∷ bytes))
    (and_then (items_within n (after_item (b ∷ bytes) long)) (λ items. Ok (item_of (b ∷ bytes) long ∷ items)))

-- The items of a body, or the code of its leftmost fault.
unfoldable pub items_of : List ℕ → Result (List Item) KernReturn
items_of body = items_within (length body) body

-- the bytes of an item
abbrev pub descriptor_encoding : Item → Bool → List ℕ
descriptor_encoding item false = word (item.type_name + item.bits * 2 ^ 8 + item.number * 2 ^ 16 + 2 ^ 28)
descriptor_encoding item true =
    word (2 ^ 28 + 2 ^ 29) ++ (little_bytes 2 item.type_name ++ (little_bytes 2 item.bits ++ word item.number))

abbrev pub item_encoding : Item → List ℕ
item_encoding item = descriptor_encoding item item.is_long ++ item.content

abbrev pub items_encoding : List Item → List ℕ
items_encoding items = flat_map item_encoding items

abbrev pub is_port_item : Item → Bool
is_port_item item = is_port_type item.type_name

-- The bounds of the fields of a short and of a long descriptor: of type name and bits, and of the number of elements.
abbrev pub name_bound : Bool → ℕ
name_bound false = 2 ^ 8
name_bound true = 2 ^ 16

abbrev pub number_bound : Bool → ℕ
number_bound false = 2 ^ 12
number_bound true = 2 ^ 32

-- An item that can stand in a body: its type name, bits and number fit the fields of its descriptor, a port has 32
-- bits, and its data is bytes, as many as number and bits say, with the padding.
pub record IsItem (item : Item) : Type 0 where
  pub type_name : item.type_name < name_bound item.is_long
  pub bits : item.bits < name_bound item.is_long
  pub number : item.number < number_bound item.is_long
  pub ports : is_port_item item ≡ true → item.bits ≡ 32
  pub long : length item.content ≡ padded (item.number * item.bits)
  pub bytes : AreBytes item.content

abbrev pub AreItems : List Item → Type 0
AreItems [] = Unit {0}
AreItems (item ∷ items) = IsItem item × AreItems items

-- These items, and no others between or after them, are the body.
abbrev pub Tile : List Item → List ℕ → Type 0
Tile items body = AreItems items × (items_encoding items ≡ body)

-- this many words from the front
abbrev pub words_of : ℕ → List ℕ → List ℕ
words_of zero bytes = []
words_of (suc n) bytes = little_number 4 bytes ∷ words_of n (drop 4 bytes)

-- the names in a port item
abbrev pub names_of_item : Item → List ℕ
names_of_item item = if is_port_item item then words_of item.number item.content else []

-- the number of a port type as received; other types stay as they are
abbrev pub received_type : ℕ → ℕ
received_type n =
    elim (disposition_of n) as (λ _. ℕ) [ None ↦ n | Some disposition ↦ number_of_kind (received_kind disposition) ]

-- A port item as a queued message has it: its type as received, and 0 in each port's place.
abbrev pub as_stored : Item → Item
as_stored item =
    if is_port_item item then record item
    { type_name = received_type item.type_name; content = replicate (4 * item.number) 0 } else item

-- Items with these names in the places of their ports, from the left.
abbrev pub filled : List Item → List ℕ → List Item
filled [] names = []
filled (item ∷ items) names =
    if is_port_item item then record item { content = flat_map word (take item.number names) } ∷ filled items
    (drop item.number names) else item ∷ filled items names

abbrev pub body_filled : Result (List Item) KernReturn → List ℕ → List ℕ → List ℕ
body_filled (Ok items) body names = items_encoding (filled items names)
body_filled (Err code) body names = body
