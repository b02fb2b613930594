-- Reading messages.
use Rattle.std.specs.Prelude.{ℕ, ◌+◌, ◌*◌, Bool, List, ◌++◌, None, Some, Ok, codes, if◌then◌else◌}
use Rattle.words.specs.Words.{word}
use Rattle.script.specs.declared.vocabulary.kind.Kind.TheVariants.{Hexadecimal, Decimal, Disposition}
use Rattle.script.specs.declared.vocabulary.header.Header.{Header}
use Rattle.script.specs.declared.message.Rights.{Rights}
use Rattle.script.specs.Bytes.{bytes_at}
use Rattle.script.specs.Items.{body_at}
use Rattle.script.specs.declared.fault.Expected.TheVariants as expected
use Rattle.script.specs.Reading.{Reading, ◌>>=◌, value_at, bounded_at, label_at, labelled_at, optional_at, flag_at}

-- the encoding of a header followed by a body
unfoldable pub header_encoding : Header → List ℕ → List ℕ
header_encoding h body =
    word h.bits ++ word h.size ++ word h.remote ++ word h.local ++ word h.seqno ++ word h.id ++ body

-- the bits of a header that have no meaning
unfoldable pub further_at : List (List ℕ) → Reading (ℕ × List (List ℕ))
further_at words = elim (label_at (codes "bits") words)
    [ None ↦ Ok (0, words) | Some rest ↦ bounded_at expected.Number Hexadecimal 0x8000 rest ]

unfoldable pub local_at : List (List ℕ) → Reading (ℕ × ℕ × List (List ℕ))
local_at words = elim (label_at (codes "local") words) [
  | None ↦ Ok (0, 0, words)
  | Some rest ↦ bounded_at expected.Number Disposition 0x100 rest >>= λ d. value_at Hexadecimal d.1 >>= λ n. Ok
      (d.0, n.0, n.1)
]

unfoldable pub rights_at : List (List ℕ) → Reading (Rights × List (List ℕ))
rights_at words = do
  d ← bounded_at expected.Message Disposition 0x100 words
  remote ← value_at Hexadecimal d.1
  local ← local_at remote.1
  Ok (record { remote_disposition = d.0; remote = remote.0; local_disposition = local.0; local = local.1 }, local.2)

abbrev pub bits_of : Rights → ℕ → Bool → ℕ
bits_of rights further complex =
    rights.remote_disposition + rights.local_disposition * 0x100 + further * 0x1_0000 +
    (if complex then 0x8000_0000 else 0)

unfoldable pub header_at : List (List ℕ) → Reading (Header × List (List ℕ))
header_at words = do
  rights ← rights_at words
  id ← labelled_at (codes "id") Decimal rights.1
  further ← further_at (flag_at (codes "complex") id.1).1
  size ← optional_at (codes "size") Decimal further.1
  seqno ← optional_at (codes "seqno") Decimal size.1
  Ok (
    record {
      bits = bits_of rights.0 further.0 (flag_at (codes "complex") id.1).0;
      size = size.0;
      remote = rights.0.remote;
      local = rights.0.local;
      seqno = seqno.0;
      id = id.0;
    },
    seqno.1,
  )

unfoldable pub message_at : List (List ℕ) → Reading (List ℕ × List (List ℕ))
message_at words = elim (label_at (codes "bytes") words) [
  | Some rest ↦ bytes_at rest
  | None ↦ header_at words >>= λ h. body_at h.1 >>= λ b. Ok (header_encoding h.0 b.0, b.1)
]
