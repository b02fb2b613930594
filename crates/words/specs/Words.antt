-- Numbers and frames as bytes. Every number is little-endian.
use Rattle.std.specs.Prelude.{ℕ, ◌<◌, List, ◌++◌, length, slice_index}
use Rattle.byteorder.specs.Endian.{little_bytes}

-- every element is a byte: below 256
abbrev pub AreBytes : List ℕ → Type 0
AreBytes bytes = (i : ℕ) → slice_index bytes i < 256

-- the four bytes of a number below 2 ^ 32
abbrev pub word : ℕ → List ℕ
word n = little_bytes 4 n

-- the eight bytes of a number below 2 ^ 64
abbrev pub long_word : ℕ → List ℕ
long_word n = little_bytes 8 n

-- a frame with a content: the content's length in four bytes, then the content, which is a call's number and its
-- arguments
abbrev pub frame_encoding : List ℕ → List ℕ
frame_encoding content = word (length content) ++ content
