-- The contents that are read from a store.
use Rattle.std.specs.Prelude.{◌≡◌, ◌⊎◌, ℕ, ◌+◌, ◌%◌, ◌<◌, List, length}
use Rattle.disk.specs.Slots.{Slots, slot_of}
use Rattle.ipc_model.specs.calls.Step.{Run}
use Rattle.ipc_model.specs.declared.record.Record.{Record}
use Rattle.ipc_model.specs.state.State.{State}
use Rattle.ipc_model.specs.store.Recovery.{HoldsImage, IsNotOpen, IsOfEpoch, IsOpen, Encodes, image_header}
use Rattle.slot_steps.specs.Steps.{image_slot, segment_slot}
use Rattle.store_layout.specs.Standing.{as_written, IsPassedImage}
use Rattle.recover.specs.Replayed.{ReplaysAll}

-- the image and the segment of an epoch are open
pub record HasOwn (slots : Slots) (epoch : ℕ) : Type 0 where
  pub image_open : IsOpen image_header (slot_of slots (image_slot epoch))
  pub image : IsOfEpoch (epoch % 2) epoch (slot_of slots (image_slot epoch))
  pub segment : IsOfEpoch (epoch % 2) epoch (slot_of slots (segment_slot epoch))

-- The state after an epoch's image and the `count` records of its segment, whose last batch ends at offset `end`.
pub record ReadsOne (slots : Slots) (epoch : ℕ) (state : State) (count end : ℕ) : Type 0 where
  pub base : State
  pub image : HoldsImage epoch (slot_of slots (image_slot epoch)) base
  pub replays : ReplaysAll epoch (slot_of slots (segment_slot epoch)) base state count end

-- no image is open and the epoch is 0, or the image of this epoch is the latest
abbrev pub IsLatestEpoch : Slots → ℕ → Type 0
IsLatestEpoch slots epoch =
    (((number : ℕ) → number < 2 → IsNotOpen image_header ((as_written slots).image number)) × (epoch ≡ 0))
    ⊎ (IsOpen image_header (slot_of slots (image_slot epoch))
    × IsOfEpoch (epoch % 2) epoch (slot_of slots (image_slot epoch))
    × IsPassedImage epoch (slot_of slots (image_slot (epoch + 1))))

-- The contents that slots encode: the epoch of the image, `count` records in the segments, and the state after them.
pub record Reads (slots : Slots) (epoch count : ℕ) (state : State) : Type 0 where
  pub latest : IsLatestEpoch slots epoch
  pub base : State
  pub records : List Record
  pub encoded : Encodes (as_written slots) base records
  pub run : Run base records state
  pub counted : count ≡ length records
