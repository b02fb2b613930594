-- The replay of a segment's records.
use Rattle.std.specs.Prelude.{◌≡◌, ℕ, ◌+◌, ◌-◌, ◌≤◌, List, length, drop}
use Rattle.codes.specs.StoreVersion.{version_number}
use Rattle.codes.specs.declared.store_version.StoreVersion.{StoreVersion}
use Rattle.ipc_laws.specs.Counted.{EncodesCounted}
use Rattle.ipc_model.specs.calls.Step.{Run}
use Rattle.ipc_model.specs.declared.record.Record.{Record}
use Rattle.ipc_model.specs.state.State.{State}
use Rattle.ipc_model.specs.store.Recovery.{version_of}
use Rattle.ipc_model.specs.store.Store.{AreWithin, EncodesSegment, LeavesAnEpoch}
use Rattle.journal.specs.Reading.{Place, EncodesFrom}

-- The records that a segment of a version encodes from this place on lead from one state to another. After them `count`
-- records were read in all, and the last batch ends at offset `end`.
pub record ReplaysFrom (version : StoreVersion) (segment : List ℕ) (place : Place) (old new : State)
    (count end : ℕ) : Type 0 where
  pub records : List Record
  pub encoded : EncodesFrom segment place records end
  pub within : AreWithin version records
  pub run : Run old records new
  pub counted : count ≡ place.number + length records

-- The `count` records of an epoch's segment, after its header, lead from one state to another, and the last batch ends
-- at offset `end`. The header contains the version.
pub record ReplaysAll (epoch : ℕ) (segment : List ℕ) (old new : State) (count end : ℕ) : Type 0 where
  pub version : StoreVersion
  pub says : version_of segment ≡ version_number version
  pub next : LeavesAnEpoch version epoch
  pub records : List Record
  pub within : AreWithin version records
  pub encoded : EncodesCounted (drop 16 segment) records (end - 16)
  pub run : Run old records new
  pub counted : count ≡ length records
  pub beyond : 16 ≤ end
  pub inside : end ≤ length segment

-- no list of records that an epoch's segment encodes is a run from this state
abbrev pub ReplaysNone : ℕ → List ℕ → State → Type 0
ReplaysNone epoch segment state =
    (records : List Record) (new : State) → EncodesSegment epoch segment records → Run state records new → ⊥
