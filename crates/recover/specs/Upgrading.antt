-- A store in use that was read, and its upgrade if its segment is of version 1.
use Rattle.std.specs.Prelude.{◌≡◌, ℕ, ◌+◌, ◌%◌, ◌^◌, ◌<◌, Option, None, Some}
use Rattle.checkpoint.specs.Images.{ImageValue, open_image, unwritten}
use Rattle.codes.specs.StoreVersion.{version_number}
use Rattle.codes.specs.declared.store_version.StoreVersion.{StoreVersion}
use Rattle.codes.specs.declared.store_version.StoreVersion.TheVariants.{One, Two}
use Rattle.disk.specs.Moments.{View}
use Rattle.disk.specs.Slots.{Slots, slot_of}
use Rattle.ipc_model.specs.encodings.Images.{image_encoding}
use Rattle.ipc_model.specs.state.State.{State}
use Rattle.ipc_model.specs.store.Recovery.{HoldsImage, IsOfEpoch, version_of}
use Rattle.journal.specs.declared.segment.Segment.{Segment}
use Rattle.slot_steps.specs.Steps.{segment_slot}
use Rattle.store_layout.specs.Standing.{InOne}
use Rattle.recover.specs.AtRest.{IsAtRest}
use Rattle.recover.specs.Replayed.{ReplaysAll}

-- The image that the version of an epoch's segment requires: for version 1 the next epoch's, with this state, and none
-- for the current version.
abbrev pub IsUpgradeOf : StoreVersion → ℕ → State → Option ImageValue → Type 0
IsUpgradeOf One epoch state image =
    (epoch + 1 < 2 ^ 64) × (image ≡ Some (unwritten (epoch + 1) (image_encoding state)))
    × HoldsImage (epoch + 1) (open_image (epoch + 1) (image_encoding state)) state
IsUpgradeOf Two epoch state image = image ≡ None

-- the epoch in which a store continues after such an upgrade
abbrev pub upgraded_epoch : ℕ → Option ImageValue → ℕ
upgraded_epoch epoch None = epoch
upgraded_epoch epoch (Some image) = epoch + 1

-- A store that was read in order to continue in an epoch. The `count` records of its segment lead from the image to the
-- state, and the last batch ends at offset `end`. The other slots are ignored.
pub record IsRead (slots : Slots) (epoch : ℕ) (state : State) (count end : ℕ) : Type 0 where
  pub base : State
  pub header : IsOfEpoch (epoch % 2) epoch (slot_of slots (segment_slot epoch))
  pub replays : ReplaysAll epoch (slot_of slots (segment_slot epoch)) base state count end
  pub one : InOne slots epoch base replays.records

-- A store that was read, with the image that its segment's version requires. Its segment isn't ended yet.
pub record IsToEnd (disk : View) (state : State) (segment : Segment) (end : ℕ) (upgrade : Option ImageValue)
    : Type 0 where
  pub at_rest : IsAtRest disk
  pub read : IsRead disk.seen segment.epoch state segment.records end
  pub version : StoreVersion
  pub says : version_of (slot_of disk.seen (segment_slot segment.epoch)) ≡ version_number version
  pub upgraded : IsUpgradeOf version segment.epoch state upgrade
