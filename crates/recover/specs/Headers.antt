-- The headers of slots.
use Rattle.std.specs.Prelude.{◌≢◌, ℕ, ◌%◌, List, [], ◌∷◌, Option, MatchOption}
use Rattle.codes.specs.StoreVersion.{version_number}
use Rattle.codes.specs.declared.store_version.StoreVersion.{StoreVersion}
use Rattle.disk.specs.Slots.{Slots}
use Rattle.ipc_model.specs.store.Recovery.{HasOtherVersion, IsNotOpen, IsOfEpoch, IsOpen, IsOpenOfEpoch, image_header, segment_header_length}
use Rattle.ipc_model.specs.store.Store.{open_gate}
use Rattle.recover.specs.declared.headers.Header.{Header}
use Rattle.recover.specs.declared.headers.Header.TheVariants.{Closed, Open, OtherVersion, Unreadable}

-- the bytes with which an open slot of a version begins, before its epoch
abbrev pub version_front : StoreVersion → List ℕ
version_front version = open_gate ∷ version_number version ∷ 0 ∷ 0 ∷ 0 ∷ 0 ∷ 0 ∷ 0 ∷ []

-- a slot is open and of a known version, but the rest of its header isn't valid
abbrev pub IsUnreadable : ℕ → List ℕ → Type 0
IsUnreadable length slot =
    IsOpen length slot × (HasOtherVersion length slot → ⊥) × ((number epoch : ℕ) → IsOfEpoch number epoch slot → ⊥)

-- a slot with a header of this length has this header
abbrev pub Says : ℕ → List ℕ → Header → Type 0
Says length slot Closed = IsNotOpen length slot
Says length slot (Open epoch) = IsOpenOfEpoch length (epoch % 2) epoch slot
Says length slot OtherVersion = HasOtherVersion length slot
Says length slot Unreadable = IsUnreadable length slot

-- A slot with this number isn't open, or it is open with this epoch.
abbrev pub Tells : ℕ → ℕ → List ℕ → Option ℕ → Type 0
Tells length number slot found =
    MatchOption found (IsNotOpen length slot) (λ epoch. IsOpenOfEpoch length number epoch slot)

-- A header that a slot with this number can't have.
abbrev pub IsForeign : Header → ℕ → Type 0
IsForeign Closed number = ⊥
IsForeign (Open epoch) number = epoch % 2 ≢ number
IsForeign OtherVersion number = Unit {0}
IsForeign Unreadable number = Unit {0}

-- the four slots as in `Tells`
pub record TellAll (slots : Slots) (a b c d : Option ℕ) : Type 0 where
  pub image0 : Tells image_header 0 slots.image0 a
  pub image1 : Tells image_header 1 slots.image1 b
  pub segment0 : Tells segment_header_length 0 slots.segment0 c
  pub segment1 : Tells segment_header_length 1 slots.segment1 d

-- the headers of the four slots
pub record SayAll (slots : Slots) (a b c d : Header) : Type 0 where
  pub image0 : Says image_header slots.image0 a
  pub image1 : Says image_header slots.image1 b
  pub segment0 : Says segment_header_length slots.segment0 c
  pub segment1 : Says segment_header_length slots.segment1 d
