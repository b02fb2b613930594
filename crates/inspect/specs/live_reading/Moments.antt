-- The moments of a store in use, as its server changes it while a reader reads it.
use Rattle.std.specs.Prelude.{◌≡◌, ◌⊎◌, ℕ, ◌+◌, ◌*◌, ◌^◌, ◌<◌, ◌≤◌, Bool, true, false, if◌then◌else◌, List, [], ◌++◌, length}
use Rattle.codes.specs.declared.limits.TheConstants.{MAX_RECORDS}
use Rattle.disk.specs.Slots.{Slots, slot_of}
use Rattle.ipc_model.specs.calls.Step.{Run}
use Rattle.ipc_model.specs.declared.record.Record.{Record}
use Rattle.ipc_model.specs.state.State.{State}
use Rattle.ipc_model.specs.store.Recovery.{HoldsImage}
use Rattle.ipc_model.specs.store.Store.{AreRecords, IsClosed, NoneEmpty, all_records, batches_encoding, open_gate, segment_header}
use Rattle.slot_steps.specs.Steps.{image_slot, segment_slot}
use Rattle.store_layout.specs.Standing.{IsPassedImage, IsPassedSegment}

-- the front of a segment: its header and its open batches
abbrev pub front : ℕ → List (List Record) → List ℕ
front epoch batches = segment_header open_gate epoch ++ batches_encoding 0 batches

-- A segment of an epoch holds these batches, followed by a closed gate or nothing.
pub record HoldsBatches (epoch : ℕ) (slot : List ℕ) (batches : List (List Record)) : Type 0 where
  pub beyond : List ℕ
  pub encoding : slot ≡ front epoch batches ++ beyond
  pub closed : IsClosed beyond
  pub none_empty : NoneEmpty batches
  pub canonical : AreRecords (all_records batches)
  pub bounded : length (all_records batches) ≤ MAX_RECORDS

-- the other segment, which is ignored, or is the next one
abbrev pub OtherSegment : Bool → ℕ → List ℕ → List (List Record) → Type 0
OtherSegment false epoch slot next = IsPassedSegment epoch slot × (next ≡ [])
OtherSegment true epoch slot next = HoldsBatches (epoch + 1) slot next

-- A store in use at one moment: an epoch's image, the batches of its segment and, once the store has rotated to the
-- next epoch's segment, the batches of that one; and the state after all of these records.
pub record Moment : Type 0 where
  pub slots : Slots
  pub epoch : ℕ
  pub has_turned : Bool
  pub base : State
  pub first : List (List Record)
  pub next : List (List Record)
  pub fits : epoch + 1 < 2 ^ 64
  pub image : HoldsImage epoch (slot_of slots (image_slot epoch)) base
  pub segment : HoldsBatches epoch (slot_of slots (segment_slot epoch)) first
  pub other_image : IsPassedImage epoch (slot_of slots (image_slot (epoch + 1)))
  pub other_segment : OtherSegment has_turned epoch (slot_of slots (segment_slot (epoch + 1))) next
  pub state : State
  pub run : Run base (all_records first ++ all_records next) state

-- the progress of a store: each epoch has two halves
abbrev pub place : Moment → ℕ
place m = 2 * m.epoch + (if m.has_turned then 1 else 0)

-- Two moments in the same half of an epoch: batches are appended to the segment in use. The image, and a segment that
-- is full, are unchanged.
pub record Appends (before now : Moment) : Type 0 where
  pub epoch : now.epoch ≡ before.epoch
  pub half : now.has_turned ≡ before.has_turned
  pub image : slot_of now.slots (image_slot before.epoch) ≡ slot_of before.slots (image_slot before.epoch)
  pub base : now.base ≡ before.base
  pub first_more : List (List Record)
  pub first : now.first ≡ before.first ++ first_more
  pub full : before.has_turned ≡ true → first_more ≡ []
  pub next_more : List (List Record)
  pub next : now.next ≡ before.next ++ next_more

-- The same or a later moment: batches were appended since, or the store is in a later half of an epoch.
abbrev pub Later : Moment → Moment → Type 0
Later before now = Appends before now ⊎ (place before < place now)
