-- Headers, and their encoding in words. (Kernel Interfaces, mach_msg, mach_msg_header_t.)
use Rattle.std.specs.Prelude.{ℕ, ◌+◌, ◌*◌, ◌^◌, ◌<◌, List, [], ◌∷◌, flat_map}
use Rattle.ipc_model.specs.messages.Messages.{UsedParts, complex_bit}
use Rattle.msg_header.specs.declared.header.Header.{Header}
use Rattle.words.specs.Words.{word}

-- the used parts of a message with this header and this body
abbrev pub parts_by : Header → List ℕ → UsedParts
parts_by header body = record {
  size = header.size;
  remote_disposition = header.remote_disposition;
  local_disposition = header.local_disposition;
  complex = header.complex;
  remote = header.remote;
  local = header.local;
  id = header.id;
  body = body;
}

-- the word of bits: MACH_MSGH_BITS of the dispositions, and MACH_MSGH_BITS_COMPLEX
abbrev pub header_bits : Header → ℕ
header_bits header = header.remote_disposition + header.local_disposition * 2 ^ 8 + complex_bit header.complex

-- the bytes of a header with this sequence number
unfoldable pub header_encoding : Header → ℕ → List ℕ
header_encoding header seqno =
    flat_map word (header_bits header ∷ header.size ∷ header.remote ∷ header.local ∷ seqno ∷ header.id ∷ [])

-- the fields of a header fit their bits in the words
pub record HeaderFits (header : Header) : Type 0 where
  pub size : header.size < 2 ^ 32
  pub remote_disposition : header.remote_disposition < 2 ^ 8
  pub local_disposition : header.local_disposition < 2 ^ 8
  pub remote : header.remote < 2 ^ 32
  pub local : header.local < 2 ^ 32
  pub id : header.id < 2 ^ 32
