-- Reading the items of a body.
use Rattle.std.specs.Prelude.{ℕ, zero, suc, nat_lt, List, [], ◌∷◌, ◌++◌, length, flat_map, None, Some, Ok, codes, false, if◌then◌else◌}
use Rattle.ipc_model.specs.messages.Items.{Item, item_encoding}
use Rattle.words.specs.Words.{word}
use Rattle.script.specs.declared.vocabulary.kind.Kind.TheVariants.{Hexadecimal, Element}
use Rattle.script.specs.vocabulary.Kinds.{read_word}
use Rattle.script.specs.vocabulary.Items.{zeros}
use Rattle.script.specs.declared.fault.Expected.TheVariants as expected
use Rattle.script.specs.Bytes.{bytes_at, optional_bytes_at}
use Rattle.script.specs.Reading.{Reading, ◌>>=◌, stop, label_at, bounded_at}

-- Two kinds of items have a written form, both short and inline. This one has words of four bytes each, with their
-- type.
abbrev pub words_item : ℕ → List ℕ → Item
words_item type_name numbers =
    record {
      type_name = type_name;
      bits = 32;
      number = length numbers;
      is_long = false;
      content = flat_map word numbers;
    }

-- This one has bytes, padded by zeros to a multiple of four.
abbrev pub bytes_item : List ℕ → Item
bytes_item bytes =
    record { type_name = 9; bits = 8; number = length bytes; is_long = false; content = bytes ++ zeros (length bytes) }

-- the numbers at the front, up to a word that isn't one
unfoldable pub numbers_at : List (List ℕ) → List ℕ × List (List ℕ)
numbers_at [] = ([], [])
numbers_at (word ∷ words) =
    elim (read_word Hexadecimal word)
    [ None ↦ ([], word ∷ words) | Some n ↦ (n ∷ (numbers_at words).0, (numbers_at words).1) ]

-- an item of words, from its type and its words
unfoldable pub words_item_at : List (List ℕ) → Reading (List ℕ × List (List ℕ))
words_item_at words = bounded_at expected.Item Element 0x100 words >>= λ t.
    if nat_lt (length (numbers_at t.1).0) 0x1000
    then Ok (item_encoding (words_item t.0 (numbers_at t.1).0), (numbers_at t.1).1) else stop expected.Item words

unfoldable pub bytes_item_at : List (List ℕ) → Reading (List ℕ × List (List ℕ))
bytes_item_at words =
    bytes_at words >>= λ b. if nat_lt (length b.0) 0x1000 then Ok (item_encoding (bytes_item b.0), b.1)
    else stop expected.Item words

unfoldable pub item_at : List (List ℕ) → Reading (List ℕ × List (List ℕ))
item_at words = elim (label_at (codes "bytes") words) [ None ↦ words_item_at words | Some rest ↦ bytes_item_at rest ]

-- bytes before those that are read
abbrev pub after_bytes : List ℕ → Reading (List ℕ × List (List ℕ)) → Reading (List ℕ × List (List ℕ))
after_bytes done read = read >>= λ b. Ok (done ++ b.0, b.1)

-- at most this many items, then the rest of a body
unfoldable pub parts_at : ℕ → List (List ℕ) → Reading (List ℕ × List (List ℕ))
parts_at zero words = optional_bytes_at (codes "data") words
parts_at (suc n) words = elim (label_at (codes "item") words) [
  | None ↦ optional_bytes_at (codes "data") words
  | Some rest ↦ item_at rest >>= λ i. after_bytes i.0 (parts_at n i.1)
]

-- a body; each item has at least one word, so there are no more items than words
unfoldable pub body_at : List (List ℕ) → Reading (List ℕ × List (List ℕ))
body_at words = parts_at (length words) words
