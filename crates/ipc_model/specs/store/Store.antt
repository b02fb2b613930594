-- The encodings of the store's slots.
use Rattle.std.specs.Prelude.{◌≡◌, ◌≢◌, ◌⊎◌, ℕ, ◌+◌, ◌-◌, ◌^◌, ◌<◌, ◌≤◌, List, [], ◌∷◌, ◌++◌, length, take}
use Rattle.codes.specs.StoreVersion.{current, greatest_limit, version_number}
use Rattle.codes.specs.declared.limits.TheConstants.{MAX_RECORDS}
use Rattle.codes.specs.declared.store_version.StoreVersion.{StoreVersion}
use Rattle.codes.specs.declared.store_version.StoreVersion.TheVariants.{One, Two}
use Rattle.ipc_model.specs.declared.call.Call.{Call}
use Rattle.ipc_model.specs.declared.call.Call.TheVariants.{Plain, Numbered}
use Rattle.ipc_model.specs.declared.plain_call.PlainCall.TheVariants.{SetQlimit}
use Rattle.ipc_model.specs.declared.record.Record.{Record}
use Rattle.words.specs.Words.{word, long_word}
use Rattle.ipc_model.specs.encodings.Encodings.{records_encoding, IsRecord}

-- A gate with this byte is open; with any other it is closed. A closed gate is written as 0.
abbrev pub open_gate : ℕ
open_gate = 90

abbrev pub closed_gate : ℕ
closed_gate = 0

-- after a slot's gate: the version and six zero bytes, and then the epoch
abbrev pub epoch_encoding_of : StoreVersion → ℕ → List ℕ
epoch_encoding_of version epoch = version_number version ∷ 0 ∷ 0 ∷ 0 ∷ 0 ∷ 0 ∷ 0 ∷ long_word epoch

-- a segment slot's header
abbrev pub segment_header_of : StoreVersion → ℕ → ℕ → List ℕ
segment_header_of version gate epoch = gate ∷ epoch_encoding_of version epoch

-- after an image slot's gate: the version, the epoch, the length of the image's encoding, and the encoding
abbrev pub image_content_of : StoreVersion → ℕ → List ℕ → List ℕ
image_content_of version epoch encoding =
    epoch_encoding_of version epoch ++ (long_word (length encoding) ++ encoding)

-- the same as they are written, in the current version
abbrev pub epoch_encoding : ℕ → List ℕ
epoch_encoding = epoch_encoding_of current

abbrev pub segment_header : ℕ → ℕ → List ℕ
segment_header = segment_header_of current

abbrev pub image_content : ℕ → List ℕ → List ℕ
image_content = image_content_of current

-- after a batch's gate: the number of records, the number of their bytes, and the records, numbered from n
unfoldable pub batch_encoding : ℕ → List Record → List ℕ
batch_encoding n records =
    word (length records) ++ (long_word (length (records_encoding n records)) ++ records_encoding n records)

-- open batches, one after another
abbrev pub batches_encoding : ℕ → List (List Record) → List ℕ
batches_encoding n [] = []
batches_encoding n (batch ∷ batches) =
    open_gate ∷ (batch_encoding n batch ++ batches_encoding (n + length batch) batches)

-- the byte in a gate's place is no open gate, or there is none
abbrev pub IsClosed : List ℕ → Type 0
IsClosed [] = Unit {0}
IsClosed (gate ∷ rest) = gate ≢ open_gate

-- no batch is empty
abbrev pub NoneEmpty : List (List Record) → Type 0
NoneEmpty [] = Unit {0}
NoneEmpty (batch ∷ batches) = (0 < length batch) × NoneEmpty batches

abbrev pub all_records : List (List Record) → List Record
all_records [] = []
all_records (batch ∷ batches) = batch ++ all_records batches

-- records that a segment may hold
abbrev pub AreRecords : List Record → Type 0
AreRecords [] = Unit {0}
AreRecords (first ∷ records) = IsRecord first × AreRecords records

-- Bytes after a segment's header encode these records: they stand in open batches, whole and numbered from 0, and then
-- comes a gate that isn't open, or nothing.
pub record EncodesBatches (bytes : List ℕ) (records : List Record) : Type 0 where
  pub batches : List (List Record)
  pub rest : List ℕ
  pub encoding : bytes ≡ batches_encoding 0 batches ++ rest
  pub closed : IsClosed rest
  pub none_empty : NoneEmpty batches
  pub flat : records ≡ all_records batches
  pub canonical : AreRecords records
  pub bounded : length records ≤ MAX_RECORDS

-- A queue may have this limit in a slot of a version. The current version's greatest is the machine's, which isn't
-- asked again.
abbrev pub IsLimitOf : StoreVersion → ℕ → Type 0
IsLimitOf One limit = limit ≤ greatest_limit One
IsLimitOf Two limit = Unit {0}

-- no call of a segment's records sets another limit, and none of version 1 is numbered
abbrev pub IsWithin : StoreVersion → Call → Type 0
IsWithin version (Plain (SetQlimit name limit)) = IsLimitOf version limit
IsWithin One (Numbered numbered) = ⊥
IsWithin version call = Unit {0}

abbrev pub AreWithin : StoreVersion → List Record → Type 0
AreWithin version [] = Unit {0}
AreWithin version (first ∷ records) = IsWithin version first.call × AreWithin version records

-- A segment of version 1 isn't of the last epoch, since the store goes on in the next one, in version 2.
abbrev pub LeavesAnEpoch : StoreVersion → ℕ → Type 0
LeavesAnEpoch One epoch = epoch + 1 < 2 ^ 64
LeavesAnEpoch Two epoch = Unit {0}

-- An open segment of this epoch, of either version, encodes these records: those of its batches up to the first gate
-- that isn't open.
pub record EncodesSegment (epoch : ℕ) (bytes : List ℕ) (records : List Record) : Type 0 where
  pub version : StoreVersion
  pub content : List ℕ
  pub encoding : bytes ≡ segment_header_of version open_gate epoch ++ content
  pub encoded : EncodesBatches content records
  pub within : AreWithin version records
  pub next : LeavesAnEpoch version epoch

-- A segment in use: after its batches stands one closed gate and nothing else.
pub record IsInUseOf (version : StoreVersion) (epoch : ℕ) (bytes : List ℕ) (records : List Record) : Type 0 where
  pub content : List ℕ
  pub encoding : bytes ≡ segment_header_of version open_gate epoch ++ content
  pub encoded : EncodesBatches content records
  pub within : AreWithin version records
  pub next : LeavesAnEpoch version epoch
  pub ended : length encoded.rest ≡ 1

-- and one to which batches are appended
abbrev pub IsInUse : ℕ → List ℕ → List Record → Type 0
IsInUse = IsInUseOf current

-- a segment that ends in a closed gate, with one more batch in that gate's place, and a closed gate after it
abbrev pub with_batch : List ℕ → List ℕ → List ℕ
with_batch segment encoding = take (length segment - 1) segment ++ (open_gate ∷ (encoding ++ closed_gate ∷ []))

-- What a crash during the append of a batch may leave of a segment: the segment as it was, with any bytes after it; or
-- any byte in the place of its last gate, and after that the batch's encoding and a closed gate.
abbrev pub IsMidAppend : List ℕ → List ℕ → List ℕ → Type 0
IsMidAppend old encoding new =
    ((tail : List ℕ) × (new ≡ old ++ tail))
    ⊎ ((gate : ℕ) × (new ≡ take (length old - 1) old ++ (gate ∷ (encoding ++ closed_gate ∷ []))))
