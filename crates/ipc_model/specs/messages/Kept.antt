-- A message as a record keeps it.
use Rattle.std.specs.Prelude.{ℕ, List, [], ◌∷◌, ◌++◌, bit_and}
use Rattle.words.specs.Words.{word}

-- What a send uses of each word of a message's header, as a mask: of the word of bits the two dispositions, which are
-- its low 16 bits, and the complex bit, which is its highest; nothing of the words of size and sequence number; and all
-- of the two names.
abbrev pub used_of_bits : ℕ
used_of_bits = 0x8000ffff

abbrev pub used_of_size : ℕ
used_of_size = 0

abbrev pub used_of_remote : ℕ
used_of_remote = 0xffffffff

abbrev pub used_of_local : ℕ
used_of_local = 0xffffffff

abbrev pub used_of_seqno : ℕ
used_of_seqno = 0

-- These masks in bytes, in the order of the header's words. Of the id, its last word, all is used, and so it has none.
abbrev pub used_bits : List ℕ
used_bits =
    word used_of_bits ++ (word used_of_size ++ (word used_of_remote ++ (word used_of_local ++ word used_of_seqno)))

-- these bits of the first bytes, and all bits of the others
abbrev pub masked : List ℕ → List ℕ → List ℕ
masked [] bytes = bytes
masked (mask ∷ masks) [] = []
masked (mask ∷ masks) (byte ∷ bytes) = bit_and byte mask ∷ masked masks bytes

-- the message with 0 in place of what a send ignores; a message shorter than a header is masked as far as it goes
unfoldable pub canonical_message : List ℕ → List ℕ
canonical_message message = masked used_bits message
