-- The words of messages.
use Rattle.std.specs.Prelude.{ℕ, ◌/◌, ◌%◌, nat_lt, nat_le, Bool, ◌==◌, ◌&&◌, List, [], ◌∷◌, ◌++◌, length, drop, codes, if◌then◌else◌}
use Rattle.byteorder.specs.Endian.{little_number}
use Rattle.script.specs.declared.vocabulary.kind.Kind.{Kind}
use Rattle.script.specs.declared.vocabulary.kind.Kind.TheVariants.{Hexadecimal, Decimal, Disposition}
use Rattle.script.specs.declared.vocabulary.header.Header.{Header}
use Rattle.script.specs.vocabulary.Kinds.{value_word}
use Rattle.script.specs.printing.Bytes.{bytes_word}
use Rattle.script.specs.printing.Items.{body_words}

-- a label and a number, unless the number is 0
unfoldable pub optional_words : List ℕ → Kind → ℕ → List (List ℕ)
optional_words label k n = if n == 0 then [] else label ∷ value_word k n ∷ []

-- a word, if this is true
unfoldable pub flag_words : List ℕ → Bool → List (List ℕ)
flag_words label holds = if holds then label ∷ [] else []

-- the reply right, if the message mentions one
unfoldable pub local_words : ℕ → ℕ → List (List ℕ)
local_words disposition name =
    if disposition == 0 && name == 0 then [] else codes "local" ∷ value_word Disposition disposition
    ∷ value_word Hexadecimal name ∷ []

-- the six words at the front of a message
abbrev pub header_of : List ℕ → Header
header_of message = record {
  bits = little_number 4 message;
  size = little_number 4 (drop 4 message);
  remote = little_number 4 (drop 8 message);
  local = little_number 4 (drop 12 message);
  seqno = little_number 4 (drop 16 message);
  id = little_number 4 (drop 20 message);
}

unfoldable pub header_words : Header → List (List ℕ)
header_words h =
    (value_word Disposition (h.bits % 0x100) ∷ value_word Hexadecimal h.remote ∷ [])
    ++ local_words (h.bits / 0x100 % 0x100) h.local
    ++ (codes "id" ∷ value_word Decimal h.id ∷ []) ++ flag_words (codes "complex") (nat_le 0x8000_0000 h.bits)
    ++ optional_words (codes "bits") Hexadecimal (h.bits / 0x1_0000 % 0x8000)
    ++ optional_words (codes "size") Decimal h.size
    ++ optional_words (codes "seqno") Decimal h.seqno

-- A message with a whole header is written by its fields, and a shorter one as bytes.
unfoldable pub message_words : List ℕ → List (List ℕ)
message_words message =
    if nat_lt (length message) 24 then codes "bytes" ∷ bytes_word message ∷ []
    else header_words (header_of message) ++ body_words (drop 24 message)
