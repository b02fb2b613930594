-- The words of a body's items. Two kinds of items have a written form, both short and inline: items of words of four
-- bytes each, with their type, and items of bytes, padded by zeros to a multiple of four.
use Rattle.std.specs.Prelude.{◌≡◌, ℕ, zero, suc, ◌*◌, ◌/◌, ◌%◌, nat_lt, ◌==◌, List, [], ◌∷◌, ◌++◌, length, take, drop, map, Option, None, Some, codes, if◌then◌else◌}
use Rattle.std.specs.Str.{bytes_eq}
use Rattle.byteorder.specs.Endian.{little_number}
use Rattle.ipc_model.specs.messages.Items.{is_port_type}
use Rattle.script.specs.declared.vocabulary.kind.Kind.{Kind}
use Rattle.script.specs.declared.vocabulary.kind.Kind.TheVariants.{Hexadecimal, Decimal, Element}
use Rattle.script.specs.vocabulary.Kinds.{value_word}
use Rattle.script.specs.vocabulary.Spaced.{spaced}
use Rattle.script.specs.vocabulary.Items.{zeros, descriptor}
use Rattle.script.specs.printing.Bytes.{bytes_word, optional_bytes}

-- the kind of the numbers in an item of words: ports are names
abbrev pub element_kind : ℕ → Kind
element_kind type_name = if is_port_type type_name then Hexadecimal else Decimal

unfoldable pub words_item_words : ℕ → List ℕ → List (List ℕ)
words_item_words type_name numbers =
    codes "item" ∷ value_word Element type_name ∷ map (value_word (element_kind type_name)) numbers

unfoldable pub bytes_item_words : List ℕ → List (List ℕ)
bytes_item_words bytes = codes "item" ∷ codes "bytes" ∷ bytes_word bytes ∷ []

-- The front of a body.
infixl 10 ◌>>?◌
abbrev pub ◌>>?◌ : {A B : Type 0} → Option A → (A → Option B) → Option B
None >>? f = None
(Some x) >>? f = f x

unfoldable pub word_front : List ℕ → Option (ℕ × List ℕ)
word_front bytes = if nat_lt (length bytes) 4 then None else Some (little_number 4 bytes, drop 4 bytes)

unfoldable pub split_front : ℕ → List ℕ → Option (List ℕ × List ℕ)
split_front n bytes = if nat_lt (length bytes) n then None else Some (take n bytes, drop n bytes)

-- the number of elements in the word of a short inline descriptor
abbrev pub stated_number : ℕ → ℕ
stated_number w = (w / 0x1_0000) % 0x1000

-- the numbers in bytes, of four bytes each
abbrev pub numbers_in : List ℕ → List ℕ
numbers_in (a ∷ b ∷ c ∷ d ∷ bytes) = little_number 4 (a ∷ b ∷ c ∷ d ∷ []) ∷ numbers_in bytes
numbers_in bytes = []

-- an item of words: its type, its bytes, and the bytes after it
unfoldable pub words_front : List ℕ → Option (ℕ × List ℕ × List ℕ)
words_front body = word_front body >>? λ w.
    if w.0 == descriptor (w.0 % 0x100) 32 (stated_number w.0)
    then (split_front (4 * stated_number w.0) w.1 >>? λ c. Some (w.0 % 0x100, c.0, c.1))
    else None

-- an item of bytes: its bytes, and the bytes after it
unfoldable pub bytes_front : List ℕ → Option (List ℕ × List ℕ)
bytes_front body = word_front body >>? λ w.
    if w.0 == descriptor 9 8 (stated_number w.0) then (
    split_front (stated_number w.0) w.1 >>? λ b. split_front
    (length (zeros (stated_number w.0))) b.1 >>? λ z. if bytes_eq z.0 (zeros (stated_number w.0)) then Some (b.0, z.1)
    else None
    ) else None

-- the words of the first item, if it has a written form, and the bytes after it
unfoldable pub item_front : List ℕ → Option (List (List ℕ) × List ℕ)
item_front body = elim (words_front body) [
  | Some w ↦ Some (words_item_words w.0 (numbers_in w.1), w.2)
  | None ↦ elim (bytes_front body) [ Some b ↦ Some (bytes_item_words b.0, b.1) | None ↦ None ]
]

-- The written form of a body: at most this many items at its front, as long as they have a form, then the rest as
-- bytes.
unfoldable pub body_within : ℕ → List ℕ → List (List ℕ)
body_within zero body = optional_bytes (codes "data") body
body_within (suc n) body =
    elim (item_front body) [ None ↦ optional_bytes (codes "data") body | Some i ↦ i.0 ++ body_within n i.1 ]

-- the written form of a body; each item has at least one byte, so there are no more items than bytes
unfoldable pub body_words : List ℕ → List (List ℕ)
body_words body = body_within (length body) body

-- The first item was appended, and this follows it; or the first item has no form.
abbrev pub AddsItem : List ℕ → List ℕ → Option (List ℕ) → Option (List (List ℕ) × List ℕ) → Type 0
AddsItem old new (Some beyond) (Some i) = (new ≡ old ++ spaced i.0) × (beyond ≡ i.1)
AddsItem old new None None = new ≡ old
AddsItem old new reported front = ⊥
