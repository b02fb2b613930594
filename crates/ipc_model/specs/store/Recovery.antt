-- What the four slots of a store encode, and what is recovered from them: one static reading, for every epoch.
use Rattle.std.specs.Prelude.{◌≡◌, ◌⊎◌, ℕ, suc, ◌+◌, ◌%◌, ◌^◌, ◌<◌, ◌≤◌, ◌∷◌, [], ◌++◌, List, length, take, drop, slice_index, Some}
use Rattle.std.specs.FinMap as finmap
use Rattle.codes.specs.StoreVersion.{IsNoVersion, current}
use Rattle.codes.specs.declared.store_version.StoreVersion.{StoreVersion}
use Rattle.codes.specs.declared.store_version.StoreVersion.TheVariants.{One, Two}
use Rattle.ipc_model.specs.declared.port.PortState.{PortState}
use Rattle.ipc_model.specs.declared.record.Record.{Record}
use Rattle.ipc_model.specs.state.Circular.{Acyclic}
use Rattle.ipc_model.specs.encodings.Images.{image_encoding_of}
use Rattle.ipc_model.specs.state.Lawful.{ShortQueues}
use Rattle.ipc_model.specs.state.LawfulState.{LawfulState}
use Rattle.ipc_model.specs.state.State.{State, opening_state}
use Rattle.ipc_model.specs.calls.Step.{Run}
use Rattle.ipc_model.specs.store.Store.{EncodesSegment, IsClosed, IsLimitOf, open_gate, segment_header_of, image_content_of}

-- The bytes of a store's slots: two for images and two for segments, each by its number, 0 or 1. Epoch e uses the
-- slots of number e % 2.
pub record Slots : Type 0 where
  pub image : ℕ → List ℕ
  pub segment : ℕ → List ℕ

-- how many bytes the headers of an image slot and of a segment slot have
abbrev pub image_header : ℕ
image_header = 24

abbrev pub segment_header_length : ℕ
segment_header_length = 16

-- A slot with a header of this many bytes is open: it holds the whole header, which begins with an open gate.
abbrev pub IsOpen : ℕ → List ℕ → Type 0
IsOpen header slot = (header ≤ length slot) × (take 1 slot ≡ open_gate ∷ [])

-- The header is that of an open slot, of a version and of this epoch, which is one of the slot's number.
pub record IsOfEpoch (number epoch : ℕ) (slot : List ℕ) : Type 0 where
  pub version : StoreVersion
  pub rest : List ℕ
  pub encoding : slot ≡ segment_header_of version open_gate epoch ++ rest
  pub fits : epoch < 2 ^ 64
  pub of_number : epoch % 2 ≡ number

-- the version that a header says, in the byte after the gate
abbrev pub version_of : List ℕ → ℕ
version_of slot = slice_index slot 1

-- What the header of a slot says is one of three: the slot isn't open, since its gate is closed or it is too short for
-- a header;
abbrev pub IsNotOpen : ℕ → List ℕ → Type 0
IsNotOpen header slot = IsOpen header slot → ⊥

-- it is open, of a version and of this epoch;
abbrev pub IsOpenOfEpoch : ℕ → ℕ → ℕ → List ℕ → Type 0
IsOpenOfEpoch header number epoch slot = IsOpen header slot × IsOfEpoch number epoch slot

-- or it is open, and says a version that there isn't. With any other header a store is damaged.
abbrev pub HasOtherVersion : ℕ → List ℕ → Type 0
HasOtherVersion header slot = IsOpen header slot × IsNoVersion (version_of slot)

-- a slot that is open is of an epoch
abbrev pub HasHeader : ℕ → ℕ → List ℕ → Type 0
HasHeader header number slot = IsOpen header slot → (epoch : ℕ) × IsOfEpoch number epoch slot

-- each of the four slots has one, if it is open
abbrev pub HeadersFit : Slots → Type 0
HeadersFit slots =
    (number : ℕ) → number < 2 → HasHeader image_header number (slots.image number)
    × HasHeader segment_header_length number (slots.segment number)

-- The store is new: no image is open, and a segment that is open is of epoch 0 and has no open batch.
pub record IsNew (slots : Slots) : Type 0 where
  pub no_image : (number : ℕ) → number < 2 → IsNotOpen image_header (slots.image number)
  pub unused : (number epoch : ℕ) → number < 2 → IsOpen segment_header_length (slots.segment number)
      → IsOfEpoch number epoch (slots.segment number)
      → (epoch ≡ 0) × IsClosed (drop segment_header_length (slots.segment number))

-- each queue has a limit of the version
abbrev pub HasLimits : StoreVersion → State → Type 0
HasLimits version state =
    (serial : ℕ) (port : PortState) → finmap.get state.ipc.ports serial ≡ Some port → IsLimitOf version port.limit

-- in version 1 no space keeps a reply
abbrev pub KeepsWhatItMay : StoreVersion → State → Type 0
KeepsWhatItMay One state = state.kept ≡ finmap.empty
KeepsWhatItMay Two state = Unit {0}

-- These bytes are the image of this state, which is lawful and acyclic, and whose queues are short.
pub record IsImageIn (version : StoreVersion) (encoding : List ℕ) (state : State) : Type 0 where
  pub encoding_is : encoding ≡ image_encoding_of version state
  pub lawful : LawfulState state
  pub acyclic : Acyclic state.ipc
  pub short : ShortQueues state.ipc
  pub limits : HasLimits version state
  pub kept : KeepsWhatItMay version state

-- and as an image is written
abbrev pub IsImageOf : List ℕ → State → Type 0
IsImageOf = IsImageIn current

-- An open image of this epoch, of either version, holds the encoding of this state, which is lawful and acyclic. Bytes
-- past the encoding aren't read.
pub record HoldsImage (epoch : ℕ) (slot : List ℕ) (state : State) : Type 0 where
  pub version : StoreVersion
  pub rest : List ℕ
  pub encoding : slot ≡ (open_gate ∷ image_content_of version epoch (image_encoding_of version state)) ++ rest
  pub fits : length (image_encoding_of version state) < 2 ^ 64
  pub lawful : LawfulState state
  pub acyclic : Acyclic state.ipc
  pub short : ShortQueues state.ipc
  pub limits : HasLimits version state
  pub kept : KeepsWhatItMay version state

-- The other segment slot isn't open, and adds nothing;
abbrev pub ClosedAddsNothing : List ℕ → List Record → Type 0
ClosedAddsNothing slot next = IsNotOpen segment_header_length slot × (next ≡ [])

-- or it is of the previous epoch, and adds nothing;
abbrev pub FormerAddsNothing : ℕ → List ℕ → List Record → Type 0
FormerAddsNothing epoch slot next =
    (before : ℕ) × (suc before ≡ epoch) × IsOfEpoch (before % 2) before slot × (next ≡ [])

-- or it is of the next epoch, and adds that epoch's records.
abbrev pub NextAddsRecords : ℕ → List ℕ → List Record → Type 0
NextAddsRecords epoch slot next = (epoch + 1 < 2 ^ 64) × EncodesSegment (epoch + 1) slot next

-- What the other segment slot adds to the records of an epoch.
abbrev pub Continues : ℕ → List ℕ → List Record → Type 0
Continues epoch slot next =
    ClosedAddsNothing slot next ⊎ (FormerAddsNothing epoch slot next ⊎ NextAddsRecords epoch slot next)

-- A store in use: the open image of the greatest epoch, the records of that epoch's segment, and then those of the next
-- epoch's segment where that follows.
pub record IsStored (slots : Slots) (base : State) (records : List Record) : Type 0 where
  pub epoch : ℕ
  pub fits : epoch < 2 ^ 64
  pub image : HoldsImage epoch (slots.image (epoch % 2)) base
  pub latest : (number other : ℕ) → number < 2 → IsOpen image_header (slots.image number)
      → IsOfEpoch number other (slots.image number) → other ≤ epoch
  pub first : List Record
  pub next : List Record
  pub segment : EncodesSegment epoch (slots.segment (epoch % 2)) first
  pub other : Continues epoch (slots.segment ((epoch + 1) % 2)) next
  pub joined : records ≡ first ++ next

-- What a disk encodes: the state that the records begin from, and the records.
pub record Encodes (slots : Slots) (base : State) (records : List Record) : Type 0 where
  pub headers : HeadersFit slots
  pub reading : (IsNew slots × (base ≡ opening_state) × (records ≡ [])) ⊎ IsStored slots base records

-- What is recovered: the end of the run that the disk encodes. There is one exactly where the records are steps.
pub record Recovered (slots : Slots) (state : State) : Type 0 where
  pub base : State
  pub records : List Record
  pub encoded : Encodes slots base records
  pub run : Run base records state

-- Why nothing is recovered: some open slot says a version that there isn't,
abbrev pub IsOtherVersion : Slots → Type 0
IsOtherVersion slots =
    (number : ℕ) × (number < 2) ×
    (HasOtherVersion image_header (slots.image number)
    ⊎ HasOtherVersion segment_header_length (slots.segment number))

-- or none is, and the disk encodes no run.
abbrev pub IsDamaged : Slots → Type 0
IsDamaged slots = (IsOtherVersion slots → ⊥) × ((state : State) → Recovered slots state → ⊥)
