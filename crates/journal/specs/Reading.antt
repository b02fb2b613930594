-- The records that a segment's bytes encode from a place on, as a reader reads them one by one.
use Rattle.std.specs.Prelude.{◌≡◌, ◌↔◌, ◌⊎◌, ℕ, ◌+◌, ◌^◌, ◌<◌, ◌≤◌, List, [], ◌∷◌, ◌++◌, length, drop}
pub use Rattle.codes.specs.declared.limits.TheConstants.{MAX_RECORDS}
use Rattle.ipc_model.specs.declared.record.Record.{Record}
use Rattle.ipc_model.specs.encodings.Encodings.{records_encoding}
use Rattle.words.specs.Words.{word, long_word}
use Rattle.ipc_model.specs.store.Store.{open_gate, batches_encoding, all_records, IsClosed, NoneEmpty, AreRecords}

-- The place of a reader in a segment: its offset, the number of records read so far, and the number and the length in
-- bytes of those that remain in the current batch. Between two batches none remain.
pub record Place : Type 0 where
  pub at : ℕ
  pub number : ℕ
  pub left : ℕ
  pub size : ℕ

-- From this place on the bytes of a segment encode these records, with consecutive numbers: those that remain in the
-- current batch, and those of the open batches after it. The last one ends at offset `end`, before a closed gate or the
-- end of the slot.
pub record EncodesFrom (bytes : List ℕ) (place : Place) (records : List Record) (end : ℕ) : Type 0 where
  pub batch : List Record
  pub batches : List (List Record)
  pub tail : List ℕ
  pub encoding : drop place.at bytes ≡ records_encoding place.number batch
      ++ (batches_encoding (place.number + length batch) batches ++ tail)
  pub counted : length batch ≡ place.left
  pub sized : length (records_encoding place.number batch) ≡ place.size
  pub closed : IsClosed tail
  pub none_empty : NoneEmpty batches
  pub flat : records ≡ batch ++ all_records batches
  pub canonical : AreRecords records
  pub bounded : place.number + length records ≤ MAX_RECORDS
  pub ended : end + length tail ≡ length bytes

-- A record leads from one place to another: the records encoded from the first place on are this record, followed by
-- those encoded from the second place on.
pub record Leads (bytes : List ℕ) (old : Place) (entry : Record) (new : Place) : Type 0 where
  pub on : (records : List Record) (end : ℕ) → EncodesFrom bytes old records end
      ↔ ((more : List Record) × (records ≡ entry ∷ more) × EncodesFrom bytes new more end)

-- no record is encoded from this place on
abbrev pub IsLast : List ℕ → Place → Type 0
IsLast bytes place = EncodesFrom bytes place [] place.at

-- no valid list of records is encoded from this place on
abbrev pub IsNothing : List ℕ → Place → Type 0
IsNothing bytes place = (records : List Record) (end : ℕ) → EncodesFrom bytes place records end → ⊥

-- The bytes are the rest of a batch with remaining records, or begin with the head of the next batch: an open gate, the
-- number of its records, and their length. `content` follows the head.
abbrev pub IsInBatch : ℕ → ℕ → List ℕ → ℕ → ℕ → List ℕ → Type 0
IsInBatch left size bytes count length_of content =
    ((0 < left) × (count ≡ left) × (length_of ≡ size) × (content ≡ bytes))
    ⊎ ((left ≡ 0) × (size ≡ 0) × (0 < count) × (count < 2 ^ 32) × (length_of < 2 ^ 64)
    × (bytes ≡ open_gate ∷ (word count ++ (long_word length_of ++ content))))

-- no record remains in the current batch, and these bytes don't begin with an open gate
abbrev pub IsAfterBatches : ℕ → ℕ → List ℕ → Type 0
IsAfterBatches left size bytes = (left ≡ 0) × (size ≡ 0) × IsClosed bytes
