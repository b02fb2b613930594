-- The gates after the batches of segments, and slots that represent a state.
use Rattle.std.specs.Prelude.{ℕ, ◌+◌, ◌%◌, ◌^◌, ◌<◌, List, length}
use Rattle.disk.specs.Slots.{Slots}
use Rattle.ipc_model.specs.declared.record.Record.{Record}
use Rattle.ipc_model.specs.state.State.{State}
use Rattle.ipc_model.specs.store.Recovery.{IsOfEpoch, Recovered}
use Rattle.ipc_model.specs.store.Store.{EncodesSegment}
use Rattle.store_layout.specs.Standing.{as_written}

-- The batches of an open segment, or its header if it has none, are followed by at least one byte: a closed gate. A
-- segment that isn't open needs no such byte.
abbrev pub HasLastGate : List ℕ → Type 0
HasLastGate segment =
    (epoch : ℕ) (records : List Record) → (segment_is : EncodesSegment epoch segment records)
    → 0 < length segment_is.encoded.rest

-- the slot of the other segment holds a segment of the next epoch
abbrev pub IsFollowed : Slots → ℕ → Type 0
IsFollowed slots epoch = IsOfEpoch ((epoch + 1) % 2) (epoch + 1) ((as_written slots).segment ((epoch + 1) % 2))

-- The last segment, which is open and not followed, has its last gate. Opening a store ends that segment after its
-- batches. A segment that is followed gets no more records, and opening doesn't write to it.
pub record HaveLastGates (slots : Slots) : Type 0 where
  pub last : (epoch : ℕ) (records : List Record) → epoch < 2 ^ 64
      → (segment_is : EncodesSegment epoch ((as_written slots).segment (epoch % 2)) records)
      → (IsFollowed slots epoch → ⊥) → 0 < length segment_is.encoded.rest

-- Slots that represent a state: it is recovered from them, and their last segment has its last gate, so that a crash
-- during an opening leaves slots that represent it too.
pub record StandForState (state : State) (slots : Slots) : Type 0 where
  pub recovered : Recovered (as_written slots) state
  pub gates : HaveLastGates slots
