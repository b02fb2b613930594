-- Messages in bytes: a header of six words, and a body. (Kernel Interfaces, mach_msg, mach_msg_header_t.)
use Rattle.std.specs.Prelude.{◌≡◌, ℕ, ◌+◌, ◌/◌, ◌%◌, ◌^◌, ◌≤◌, Bool, ◌==◌, List, ◌++◌, length, drop, if◌then◌else◌}
use Rattle.words.specs.Numbers.{little_number}
use Rattle.words.specs.Words.{word}

-- how many bytes a header has
abbrev pub header_length : ℕ
header_length = 24

-- the words of a header, whose bytes begin the message
abbrev pub bits_of : List ℕ → ℕ
bits_of bytes = little_number 4 bytes

abbrev pub remote_of : List ℕ → ℕ
remote_of bytes = little_number 4 (drop 8 bytes)

abbrev pub local_of : List ℕ → ℕ
local_of bytes = little_number 4 (drop 12 bytes)

abbrev pub id_of : List ℕ → ℕ
id_of bytes = little_number 4 (drop 20 bytes)

abbrev pub body_of : List ℕ → List ℕ
body_of bytes = drop header_length bytes

-- MACH_MSGH_BITS_REMOTE, MACH_MSGH_BITS_LOCAL and MACH_MSGH_BITS_COMPLEX of the bits
abbrev pub remote_disposition : ℕ → ℕ
remote_disposition bits = bits % 2 ^ 8

abbrev pub local_disposition : ℕ → ℕ
local_disposition bits = (bits / 2 ^ 8) % 2 ^ 8

abbrev pub is_complex : ℕ → Bool
is_complex bits = (bits / 2 ^ 31) % 2 == 1

abbrev pub complex_bit : Bool → ℕ
complex_bit complex = if complex then 2 ^ 31 else 0

-- What a send uses of a message's bytes: how many they are, the header's bits by their meaning, the names of the
-- destination and of the reply, the id, and the body. It ignores the words of size and sequence number, and bits 16 to
-- 30 of the word of bits, which belong to no disposition and aren't the complex bit. Messages that differ only in what
-- it ignores have the same used parts.
pub record UsedParts : Type 0 where
  pub size : ℕ
  pub remote_disposition : ℕ
  pub local_disposition : ℕ
  pub complex : Bool
  pub remote : ℕ
  pub local : ℕ
  pub id : ℕ
  pub body : List ℕ

abbrev pub used_parts : List ℕ → UsedParts
used_parts bytes = record {
  size = length bytes;
  remote_disposition = remote_disposition (bits_of bytes);
  local_disposition = local_disposition (bits_of bytes);
  complex = is_complex (bits_of bytes);
  remote = remote_of bytes;
  local = local_of bytes;
  id = id_of bytes;
  body = body_of bytes;
}

-- The bytes have a whole header, and these are the parts that a send uses.
pub record HasUsedParts (bytes : List ℕ) (parts : UsedParts) : Type 0 where
  pub whole : header_length ≤ length bytes
  pub parts_are : parts ≡ used_parts bytes

-- a message's bytes
abbrev pub message_encoding : ℕ → ℕ → ℕ → ℕ → ℕ → List ℕ → List ℕ
message_encoding bits remote local seqno id body =
    word bits ++ (word (header_length + length body)
    ++ (word remote ++ (word local ++ (word seqno ++ (word id ++ body)))))
