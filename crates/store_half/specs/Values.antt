-- The values of the store half in contracts.
use Rattle.std.specs.Prelude.{◌≡◌, ℕ, ◌+◌, ◌-◌, ◌<◌, ◌≤◌, Bool, List, Option, None, Some, length, refl}
use Rattle.std.specs.Coded.{Coded, code_by, coded×, coded_ℕ, coded_bool, coded_list, coded_option}
use Rattle.checkpoint.specs.Images.{HoldsAfter, first_pieces}
use Rattle.disk.specs.Moments.{View}
use Rattle.disk.specs.Slots.{slot_of}
use Rattle.image.specs.Rows.{snapshot_encoding}
use Rattle.ipc_model.specs.world.World.{pieces_of}
use Rattle.journal.specs.declared.segment.Segment.{Segment}
use Rattle.slot_steps.specs.Steps.{image_slot, segment_slot}
use Rattle.store_half.specs.declared.under_way.Making.{Making}
use Rattle.store_half.specs.declared.under_way.Making.TheVariants.{Cut, Image}

-- A snapshot of the state at the end of an epoch, as the encoding of an image; the epoch that begins with it; and the
-- number of records in the log of the epoch before.
pub record CutValue : Type 0 where
  pub epoch : ℕ
  pub log : ℕ
  pub encoding : List ℕ

abbrev pub cut_code : Coded CutValue
cut_code =
    code_by (ℕ × (ℕ × List ℕ)) (coded× coded_ℕ (coded× coded_ℕ (coded_list coded_ℕ)))
    (λ c. (c.epoch, (c.log, c.encoding))) (λ p. record { epoch = p.0; log = p.1.0; encoding = p.1.1 }) (λ _. refl)

-- A checkpoint under way: the epoch that begins; the number of records that the former epoch's segment must hold before
-- the next one is opened; how many of the three steps of rotating are done; the encoding of the image; and how many of
-- its steps are done, of which the first closes the slot and the others write the pieces.
pub record CheckpointValue : Type 0 where
  pub epoch : ℕ
  pub log : ℕ
  pub rolled : ℕ
  pub encoding : List ℕ
  pub imaged : ℕ

abbrev pub checkpoint_code : Coded CheckpointValue
checkpoint_code =
    code_by (ℕ × (ℕ × (ℕ × (List ℕ × ℕ))))
    (coded× coded_ℕ (coded× coded_ℕ (coded× coded_ℕ (coded× (coded_list coded_ℕ) coded_ℕ))))
    (λ c. (c.epoch, (c.log, (c.rolled, (c.encoding, c.imaged)))))
    (λ p. record { epoch = p.0; log = p.1.0; rolled = p.1.1.0; encoding = p.1.1.1.0; imaged = p.1.1.1.1 }) (λ _. refl)

-- a checkpoint of which nothing is done
abbrev pub begun : CutValue → CheckpointValue
begun cut = record { epoch = cut.epoch; log = cut.log; rolled = 0; encoding = cut.encoding; imaged = 0 }

-- the encoding of the next image, from the snapshot or from the image in memory
abbrev pub encoding_of : Making → List ℕ
encoding_of (Cut snapshot) = snapshot_encoding snapshot
encoding_of (Image image) = image.encoding

abbrev pub imaged_of : Making → ℕ
imaged_of (Cut snapshot) = 0
imaged_of (Image image) = image.written + 1

-- an image in memory is of this epoch
abbrev pub IsOfEpoch : ℕ → Making → Type 0
IsOfEpoch epoch (Cut snapshot) = Unit {0}
IsOfEpoch epoch (Image image) = (image.epoch ≡ epoch) × (image.written ≤ pieces_of image.encoding)

-- The store half: the disk, the segment in use, true if the device has failed since the store was opened, and the
-- checkpoint under way.
pub record StoreValue (D : Type 0) : Type 0 where
  pub disk : D
  pub segment : Segment
  pub failed : Bool
  pub checkpoint : Option CheckpointValue

abbrev pub store_code : {D : Type 0} → Coded D → Coded (StoreValue D)
store_code {D = D} code =
    code_by (D × (ℕ × (ℕ × (Bool × Option CheckpointValue))))
    (coded× code (coded× coded_ℕ (coded× coded_ℕ (coded× coded_bool (coded_option checkpoint_code)))))
    (λ s. (s.disk, (s.segment.epoch, (s.segment.records, (s.failed, s.checkpoint)))))
    (λ p. record {
      disk = p.0;
      segment = record { epoch = p.1.0; records = p.1.1.0 };
      failed = p.1.1.1.0;
      checkpoint = p.1.1.1.1;
    }) (λ _. refl)

-- The next segment's slot isn't empty after the first step of rotating. After the image's slot is closed, it holds the
-- pieces that were written, after the gate and the header.
pub record IsMade (view : View) (segment : Segment) (checkpoint : CheckpointValue) : Type 0 where
  pub header : 0 < checkpoint.rolled → 0 < length (slot_of view.seen (segment_slot checkpoint.epoch))
  pub pieces : 0 < checkpoint.imaged
      → HoldsAfter (slot_of view.seen (image_slot checkpoint.epoch))
      (first_pieces (checkpoint.imaged - 1) checkpoint.encoding)

-- the epochs of a checkpoint under way: the segment in use is the former epoch's until the next one is opened
pub record IsUnderWay (segment : Segment) (checkpoint : CheckpointValue) : Type 0 where
  pub steps : checkpoint.rolled ≤ 3
  pub before : checkpoint.rolled < 3 → checkpoint.epoch ≡ segment.epoch + 1
  pub after : checkpoint.rolled ≡ 3 → checkpoint.epoch ≡ segment.epoch
  pub images : checkpoint.imaged ≤ pieces_of checkpoint.encoding + 1

abbrev pub AreEpochs : Segment → Option CheckpointValue → Type 0
AreEpochs segment None = Unit {0}
AreEpochs segment (Some checkpoint) = IsUnderWay segment checkpoint

abbrev pub AreMade : View → Segment → Option CheckpointValue → Type 0
AreMade view segment None = Unit {0}
AreMade view segment (Some checkpoint) = IsMade view segment checkpoint

-- The contents of the slots until the device fails.
pub record HasShape (view : View) (segment : Segment) (checkpoint : Option CheckpointValue) : Type 0 where
  -- a closed gate follows the last batch
  pub gate : 0 < length (slot_of view.seen (segment_slot segment.epoch))
  pub made : AreMade view segment checkpoint
