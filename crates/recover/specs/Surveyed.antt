-- The kind of a store, by the headers of its slots.
use Rattle.std.specs.Prelude.{◌≡◌, ◌⊎◌, ℕ, ◌+◌, ◌%◌, ◌^◌, ◌<◌, ◌≤◌, Bool, true, false, Option, None, Some}
use Rattle.codes.specs.StoreVersion.{version_number}
use Rattle.codes.specs.declared.store_version.StoreVersion.{StoreVersion}
use Rattle.codes.specs.declared.store_version.StoreVersion.TheVariants.{One, Two}
use Rattle.disk.specs.Slots.{Slots, slot_of}
use Rattle.ipc_model.specs.store.Recovery.{HeadersFit, IsNotOpen, IsOfEpoch, IsOpen, image_header, segment_header_length, version_of}
use Rattle.slot_steps.specs.Steps.{image_slot, segment_slot}
use Rattle.store_layout.specs.Standing.{as_written, IsPassedImage, IsPassedSegment}
use Rattle.recover.specs.declared.survey.Latest.{Latest}
use Rattle.recover.specs.declared.survey.Latest.TheVariants as latest
use Rattle.recover.specs.declared.survey.Survey.{Survey}
use Rattle.recover.specs.declared.survey.Survey.TheVariants.{New, InUse}

-- another segment belongs to the epoch just before this one, or isn't open
abbrev pub Adjoins : ℕ → Option ℕ → Type 0
Adjoins epoch None = Unit {0}
Adjoins epoch (Some other) = other + 1 ≡ epoch

-- another image belongs to an earlier epoch, or isn't open
abbrev pub IsLatest : ℕ → Option ℕ → Type 0
IsLatest epoch None = Unit {0}
IsLatest epoch (Some other) = other < epoch

-- another image belongs to no later epoch, or isn't open
abbrev pub IsNoLater : ℕ → Option ℕ → Type 0
IsNoLater epoch None = Unit {0}
IsNoLater epoch (Some other) = other ≤ epoch

-- the latest of two images, by their epochs
abbrev pub IsLatestOf : Option ℕ → Option ℕ → Latest → Type 0
IsLatestOf first second latest.None = (first ≡ None) × (second ≡ None)
IsLatestOf first second (latest.First epoch) = (first ≡ Some epoch) × IsLatest epoch second
IsLatestOf first second (latest.Second epoch) = (second ≡ Some epoch) × IsNoLater epoch first

-- No image is open, segment 1 isn't open, and segment 0 is of epoch 0 if it is open.
pub record IsUnused (slots : Slots) : Type 0 where
  pub headers : HeadersFit (as_written slots)
  pub no_image : (number : ℕ) → number < 2 → IsNotOpen image_header ((as_written slots).image number)
  pub second : IsNotOpen segment_header_length slots.segment1
  pub first : IsOpen segment_header_length slots.segment0 → IsOfEpoch 0 0 slots.segment0

-- the next epoch's segment is open, or the other segment slot is ignored
abbrev pub OtherSegment : Slots → ℕ → Bool → Type 0
OtherSegment slots epoch true =
    (epoch + 1 < 2 ^ 64) × IsOfEpoch ((epoch + 1) % 2) (epoch + 1) (slot_of slots (segment_slot (epoch + 1)))
OtherSegment slots epoch false = IsPassedSegment epoch (slot_of slots (segment_slot (epoch + 1)))

-- The image of an epoch is open, and no later one. Its segment is open. The other segment is the next epoch's, or is
-- ignored.
pub record IsInUse (slots : Slots) (epoch : ℕ) (follows : Bool) : Type 0 where
  pub fits : epoch < 2 ^ 64
  pub image_open : IsOpen image_header (slot_of slots (image_slot epoch))
  pub image : IsOfEpoch (epoch % 2) epoch (slot_of slots (image_slot epoch))
  pub other_image : IsPassedImage epoch (slot_of slots (image_slot (epoch + 1)))
  pub segment : IsOfEpoch (epoch % 2) epoch (slot_of slots (segment_slot epoch))
  pub other : OtherSegment slots epoch follows

abbrev pub Surveys : Slots → Survey → Type 0
Surveys slots New = IsUnused slots
Surveys slots (InUse epoch follows) = IsInUse slots epoch follows

-- if the next epoch's segment is open, its number fits a word
abbrev pub FitsNext : Survey → Type 0
FitsNext New = Unit {0}
FitsNext (InUse epoch true) = epoch + 1 < 2 ^ 64
FitsNext (InUse epoch false) = Unit {0}

-- the epoch after a segment of this version and epoch: a store of version 1 continues in the next one
abbrev pub epoch_after : StoreVersion → ℕ → ℕ
epoch_after One epoch = epoch + 1
epoch_after Two epoch = epoch

-- A store whose last segment is that of an epoch continues in `next`.
pub record Continues (slots : Slots) (epoch next : ℕ) : Type 0 where
  pub version : StoreVersion
  pub says : version_of (slot_of slots (segment_slot epoch)) ≡ version_number version
  pub is : next ≡ epoch_after version epoch

-- The epoch in which a store with these slots is opened: 0 if it is new, else that of its last segment, or the next one
-- if that segment is of version 1.
abbrev pub OpensInEpoch : Slots → ℕ → Type 0
OpensInEpoch slots next =
    (IsUnused slots × (next ≡ 0))
    ⊎ (((epoch : ℕ) × IsInUse slots epoch false × Continues slots epoch next)
    ⊎ ((epoch : ℕ) × IsInUse slots epoch true × Continues slots (epoch + 1) next))
