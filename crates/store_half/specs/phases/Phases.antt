-- The invariant of a store's disk between the steps of the store half: outside a checkpoint, and in each of its two
-- phases.
use Rattle.std.specs.Prelude.{◌≡◌, ◌⊎◌, ℕ, ◌+◌, ◌^◌, ◌<◌, List, [], ◌∷◌, ◌++◌, Option, None, Some, length, drop}
use Rattle.disk.specs.Moments.{View}
use Rattle.disk.specs.Slots.{Slots, slot_of, with_slot}
use Rattle.ipc_model.specs.calls.Step.{Run}
use Rattle.ipc_model.specs.declared.record.Record.{Record}
use Rattle.ipc_model.specs.state.State.{State}
use Rattle.ipc_model.specs.store.Recovery.{IsImageOf}
use Rattle.ipc_model.specs.store.Store.{IsClosed, IsInUse, closed_gate, epoch_encoding}
use Rattle.journal.specs.declared.segment.Segment.{Segment}
use Rattle.recover.proofs.Rest.{IsAtRestBut}
use Rattle.recover.specs.AtRest.{IsAtRest}
use Rattle.recover.specs.Kept.{IsKept}
use Rattle.slot_steps.specs.Steps.{IsShut, image_slot, segment_slot}
use Rattle.store_layout.specs.Standing.{InOne, InTwo, IsPassedImage}
use Rattle.store_half.specs.Values.{CheckpointValue}

-- The next epoch's image is being made. A crash leaves the other slots as reads return them. Until the image's slot is
-- closed, the same holds of that slot, which is ignored. From then on a crash leaves no open gate there.
pub record IsImaging (disk : View) (epoch imaged : ℕ) : Type 0 where
  pub rest : IsAtRestBut (image_slot (epoch + 1)) disk
  pub untouched : imaged ≡ 0 → IsAtRest disk
  pub passed : imaged ≡ 0 → IsPassedImage epoch (slot_of disk.seen (image_slot (epoch + 1)))
  pub shut : 0 < imaged → IsShut disk (image_slot (epoch + 1))

-- The slots as reads return them, but with the image's slot empty. Once that slot is closed, contracts describe what a
-- crash leaves of it, and not what reads return.
abbrev pub without_image : View → ℕ → Slots
without_image disk epoch = with_slot disk.seen (image_slot (epoch + 1)) []

-- The effect of the first two steps of rotating on the next segment's slot: a closed gate, then the header after it.
pub record IsRolling (slot : List ℕ) (epoch rolled : ℕ) : Type 0 where
  pub begun : 0 < rolled → 0 < length slot
  pub closed : 0 < rolled → IsClosed slot
  pub header : rolled ≡ 2 → drop 1 slot ≡ epoch_encoding epoch ++ closed_gate ∷ []

-- The first phase, until the next segment is opened: the state of the store is the one that the image of the epoch in
-- use and its segment encode.
pub record InFirst (disk : View) (segment : Segment) (checkpoint : CheckpointValue) (state : State) : Type 0 where
  pub before : checkpoint.rolled < 3
  pub next : checkpoint.epoch ≡ segment.epoch + 1
  pub fits : segment.epoch + 1 < 2 ^ 64
  pub imaging : IsImaging disk segment.epoch checkpoint.imaged
  pub rolling : IsRolling (slot_of disk.seen (segment_slot (segment.epoch + 1))) (segment.epoch + 1) checkpoint.rolled
  pub base : State
  pub records : List Record
  pub stands : InOne (without_image disk segment.epoch) segment.epoch base records
  pub in_use : IsInUse segment.epoch (slot_of disk.seen (segment_slot segment.epoch)) records
  pub run : Run base records state
  pub counted : segment.records ≡ length records

-- The second phase, until the next image is finished: the state of the store is the one that the image of the former
-- epoch, its whole segment and the segment in use encode. The checkpoint's state is the one after the former segment.
pub record InSecond (disk : View) (segment : Segment) (checkpoint : CheckpointValue) (mid state : State) : Type 0 where
  pub after : checkpoint.rolled ≡ 3
  pub former : ℕ
  pub next : segment.epoch ≡ former + 1
  pub epoch : checkpoint.epoch ≡ former + 1
  pub imaging : IsImaging disk former checkpoint.imaged
  pub base : State
  pub first : List Record
  pub records : List Record
  pub stands : InTwo (without_image disk former) former base first records
  pub in_use : IsInUse (former + 1) (slot_of disk.seen (segment_slot (former + 1))) records
  pub run_first : Run base first mid
  pub run : Run mid records state
  pub counted : segment.records ≡ length records

-- a checkpoint under way, whose image is of the state `mid`
pub record IsCheckpointing (disk : View) (segment : Segment) (checkpoint : CheckpointValue)
    (mid state : State) : Type 0 where
  pub image : IsImageOf checkpoint.encoding mid
  pub phase : InFirst disk segment checkpoint state ⊎ InSecond disk segment checkpoint mid state

-- The invariant of a store whose records lead to `state`, outside a checkpoint, or during one whose image is of `mid`.
abbrev pub Keeps : View → Segment → Option CheckpointValue → State → State → Type 0
Keeps disk segment None mid state = IsKept disk segment state
Keeps disk segment (Some checkpoint) mid state = IsCheckpointing disk segment checkpoint mid state
