-- A checkpoint between the calls of a single connection.
use Rattle.std.specs.Prelude.{◌≡◌, ◌⊎◌, ℕ, ◌+◌, ◌-◌, ◌^◌, ◌<◌, ◌≤◌, true, false, Option, None, Some, Result, OnOk, is_some}
use Rattle.disk.specs.Moments.{View, Passes}
use Rattle.ipc_model.specs.state.State.{State}
use Rattle.ipc_model.specs.store.Recovery.{IsImageOf}
use Rattle.store_half.specs.phases.Phases.{Keeps}
use Rattle.store_layout.specs.Gates.{StandForState}
use Rattle.store_half.specs.Changes.{CanFinish, ClosesImage, Finishes, HasImaged, HasPieceLeft, RollsClose, RollsHead, RollsOpen, WritesPiece}
use Rattle.store_half.specs.Values.{CheckpointValue, CutValue, StoreValue, begun}
use Rattle.system.specs.Core.{SystemValue}

-- a store that is kept with this state, whatever state a checkpoint under way is of
abbrev pub IsStanding : {D : Type 0} → (D → View) → StoreValue D → State → Type 0
IsStanding view store state = (mid : State) × Keeps (view store.disk) store.segment store.checkpoint mid state

-- If the store is kept with the core's state before, it is kept with it at `Ok`.
abbrev pub StaysStanding : {D T E : Type 0} → (D → View) → SystemValue D → SystemValue D → Result T E → Type 0
StaysStanding view old new result =
    IsStanding view old.store old.core.kernel → OnOk result (IsStanding view new.store new.core.kernel)

-- If the store is kept with the core's state before, a crash leaves what stands for that state at each moment since
-- then.
abbrev pub RecoversSince : {D : Type 0} → (D → View) → SystemValue D → SystemValue D → Type 0
RecoversSince view old new =
    IsStanding view old.store old.core.kernel
    → Passes (view old.store.disk) (view new.store.disk) (StandForState old.core.kernel)

-- No step of a checkpoint's rotation is done, and the segment in use holds the whole log of its epoch.
pub record IsFirstStep {D : Type 0} (store : StoreValue D) : Type 0 where
  pub checkpoint : CheckpointValue
  pub under_way : store.checkpoint ≡ Some checkpoint
  pub none_rolled : checkpoint.rolled ≡ 0
  pub whole : store.segment.records ≡ checkpoint.log
  pub unfailed : store.failed ≡ false

-- The next segment is in use, without a record.
pub record IsRolledOver {D : Type 0} (old new : StoreValue D) : Type 0 where
  pub checkpoint : CheckpointValue
  pub under_way : old.checkpoint ≡ Some checkpoint
  pub segment : new.segment ≡ record { epoch = checkpoint.epoch; records = 0 }
  pub still : is_some new.checkpoint ≡ true
  pub unfailed : new.failed ≡ false

module _ {D : Type 0} (honest : Type 0) (view : D → View) where
  -- The three steps of rotating came one after another: the next segment is in use.
  pub record RollsOver (old new : StoreValue D) : Type 0 where
    pub closed : StoreValue D
    pub headed : StoreValue D
    pub closes : RollsClose honest view old closed
    pub heads : RollsHead honest view closed headed
    pub opens : RollsOpen honest view headed new

  -- The next epoch began: a checkpoint of this state is under way, and the next segment is in use.
  pub record BeginsNext (state : State) (old new : StoreValue D) : Type 0 where
    pub cut : CutValue
    pub epoch : cut.epoch ≡ old.segment.epoch + 1
    pub log : cut.log ≡ old.segment.records
    pub image : IsImageOf cut.encoding state
    pub rolls : RollsOver (record old { checkpoint = Some (begun cut) }) new

  -- What is done where no checkpoint is under way: the next epoch begins, if the segment in use has this many records
  -- and there is a next epoch; otherwise nothing changes.
  abbrev pub GoesOnInEpoch : ℕ → State → StoreValue D → StoreValue D → Type 0
  GoesOnInEpoch records state old new =
      (((old.segment.records < records) ⊎ (2 ^ 64 - 1 ≤ old.segment.epoch)) × (new ≡ old))
      ⊎ ((records ≤ old.segment.records) × (old.segment.epoch < 2 ^ 64 - 1) × BeginsNext state old new)

  -- What is done for an image whose slot was closed: a piece is written if one is left, else the image is finished if
  -- it can be; otherwise nothing changes.
  abbrev pub GoesOnPieces : StoreValue D → StoreValue D → Type 0
  GoesOnPieces old new =
      WritesPiece honest view old new
      ⊎ (Finishes honest view old new
      ⊎ ((HasPieceLeft old.checkpoint → ⊥) × (CanFinish old.checkpoint → ⊥) × (new ≡ old)))

  -- What is done where a checkpoint is under way: its image's slot is closed, if that wasn't done, else the image
  -- continues.
  abbrev pub GoesOnImage : StoreValue D → StoreValue D → Type 0
  GoesOnImage old new = ClosesImage honest view old new ⊎ ((HasImaged old.checkpoint 0 → ⊥) × GoesOnPieces old new)

  -- What is done between two calls, by the checkpoint that is under way.
  abbrev pub GoesOn : ℕ → State → Option CheckpointValue → StoreValue D → StoreValue D → Type 0
  GoesOn records state None old new = GoesOnInEpoch records state old new
  GoesOn records state (Some checkpoint) old new = GoesOnImage old new

-- What is due between two calls allocates: the state's copy, or its image.
abbrev pub TakesMemory : {D : Type 0} → ℕ → StoreValue D → Option CheckpointValue → Type 0
TakesMemory records store None = (records ≤ store.segment.records) × (store.segment.epoch < 2 ^ 64 - 1)
TakesMemory records store (Some checkpoint) = checkpoint.imaged ≡ 0
