-- The contents of the slots of a store in use, outside and during a checkpoint.
use Rattle.std.specs.Prelude.{◌≡◌, ◌⊎◌, ℕ, suc, ◌+◌, ◌%◌, ◌^◌, ◌<◌, ◌==◌, List, if◌then◌else◌}
use Rattle.disk.specs.Slots.{Slots, slot_of}
use Rattle.ipc_model.specs.declared.record.Record.{Record}
use Rattle.ipc_model.specs.state.State.{State}
use Rattle.ipc_model.specs.store.Recovery as written
use Rattle.ipc_model.specs.store.Recovery.{HoldsImage, IsNotOpen, IsOfEpoch, image_header, segment_header_length}
use Rattle.ipc_model.specs.store.Store.{EncodesSegment}
use Rattle.slot_steps.specs.Steps.{image_slot, segment_slot}

-- the slots by number, as in the abstract specification
abbrev pub as_written : Slots → written.Slots
as_written slots = record {
  image = λ n. if n == 0 then slots.image0 else slots.image1;
  segment = λ n. if n == 0 then slots.segment0 else slots.segment1;
}

-- the slot has an image of an earlier epoch, or a segment of the epoch just before
abbrev pub IsEarlierImage : ℕ → List ℕ → Type 0
IsEarlierImage epoch slot = (before : ℕ) × (before < epoch) × IsOfEpoch ((epoch + 1) % 2) before slot

abbrev pub IsFormerSegment : ℕ → List ℕ → Type 0
IsFormerSegment epoch slot = (before : ℕ) × (suc before ≡ epoch) × IsOfEpoch (before % 2) before slot

-- An image slot that is ignored in an epoch: it isn't open, or its image is of an earlier epoch.
abbrev pub IsPassedImage : ℕ → List ℕ → Type 0
IsPassedImage epoch slot = IsNotOpen image_header slot ⊎ IsEarlierImage epoch slot

-- A segment slot that is ignored in an epoch: it isn't open, or it is of the epoch just before.
abbrev pub IsPassedSegment : ℕ → List ℕ → Type 0
IsPassedSegment epoch slot = IsNotOpen segment_header_length slot ⊎ IsFormerSegment epoch slot

-- Outside a checkpoint, and during one until the next segment is opened: the image of an epoch, and the records of its
-- segment.
pub record InOne (slots : Slots) (epoch : ℕ) (base : State) (records : List Record) : Type 0 where
  pub fits : epoch < 2 ^ 64
  pub image : HoldsImage epoch (slot_of slots (image_slot epoch)) base
  pub segment : EncodesSegment epoch (slot_of slots (segment_slot epoch)) records
  pub other_image : IsPassedImage epoch (slot_of slots (image_slot (epoch + 1)))
  pub other_segment : IsPassedSegment epoch (slot_of slots (segment_slot (epoch + 1)))

-- During a checkpoint from then on, until the next image is finished: the image, the records of its segment, and those
-- of the next segment.
pub record InTwo (slots : Slots) (epoch : ℕ) (base : State) (first next : List Record) : Type 0 where
  pub fits : epoch + 1 < 2 ^ 64
  pub image : HoldsImage epoch (slot_of slots (image_slot epoch)) base
  pub segment : EncodesSegment epoch (slot_of slots (segment_slot epoch)) first
  pub other_image : IsPassedImage epoch (slot_of slots (image_slot (epoch + 1)))
  pub next_segment : EncodesSegment (epoch + 1) (slot_of slots (segment_slot (epoch + 1))) next
