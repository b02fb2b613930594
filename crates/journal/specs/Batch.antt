-- Records that are stored together, as the encoding of one batch.
use Rattle.std.specs.Prelude.{◌≡◌, ℕ, ◌-◌, ◌+◌, List, [], ◌∷◌, ◌++◌, length, take, drop, replicate, refl}
use Rattle.std.specs.Coded.{Coded, code_by, coded×, coded_ℕ, coded_list}
use Rattle.ipc_model.specs.declared.record.Record.{Record}
use Rattle.ipc_model.specs.encodings.Encodings.{records_encoding}
use Rattle.ipc_model.specs.store.Store.{closed_gate}
use Rattle.words.specs.Words.{word, long_word}

-- The number of records in a batch, and their encodings in sequence.
pub record BatchValue : Type 0 where
  pub count : ℕ
  pub body : List ℕ

abbrev pub batch_code : Coded BatchValue
batch_code =
    code_by (ℕ × List ℕ) (coded× coded_ℕ (coded_list coded_ℕ)) (λ b. (b.count, b.body))
    (λ p. record { count = p.0; body = p.1 }) (λ _. refl)

-- no records
abbrev pub empty_batch : BatchValue
empty_batch = record { count = 0; body = [] }

-- the batch with one more record, which has this encoding
abbrev pub with_encoding : BatchValue → List ℕ → BatchValue
with_encoding batch encoding = record { count = batch.count + 1; body = batch.body ++ encoding }

-- the batch without its last record, whose encoding has this length
abbrev pub without_last : BatchValue → ℕ → BatchValue
without_last batch size = record { count = batch.count - 1; body = take (length batch.body - size) batch.body }

-- the bytes after the batch's gate: the number of records, the length of their encodings, and the encodings
unfoldable pub content_of : BatchValue → List ℕ
content_of batch = word batch.count ++ (long_word (length batch.body) ++ batch.body)

-- the bytes after a batch's first twelve, which hold its count and length, and before the gate at the end
abbrev pub body_of : List ℕ → List ℕ
body_of encoding = drop 12 (take (length encoding - 1) encoding)

-- the bytes of a batch, where no bytes mean a batch without records
abbrev pub padded : List ℕ → List ℕ
padded [] = replicate 13 0
padded encoding = encoding

abbrev pub value_of : ℕ → List ℕ → BatchValue
value_of count encoding = record { count = count; body = body_of encoding }

-- These bytes are a batch with this many records, and a closed gate after it.
abbrev pub IsWhole : ℕ → List ℕ → Type 0
IsWhole count encoding = encoding ≡ content_of (value_of count encoding) ++ closed_gate ∷ []

-- The batch contains these records, numbered from n.
pub record Holds (n : ℕ) (records : List Record) (batch : BatchValue) : Type 0 where
  pub counted : batch.count ≡ length records
  pub encoding : batch.body ≡ records_encoding n records
