-- The effect of each step of the store half, on one slot.
use Rattle.std.specs.Prelude.{◌≡◌, ◌⊎◌, ℕ, ◌+◌, ◌<◌, ◌^◌, Bool, true, false, [], ◌∷◌, ◌++◌, Option, None, Some, Result, length, take, drop, IfErr, IfNone, IfOk, IfSome, MatchBool}
use Rattle.checkpoint.specs.Images.{IsFinishing, open_image}
use Rattle.disk.specs.Moments.{View, Follows, IsSynced, Passes}
use Rattle.disk.specs.Slots.{Slots, slot_of, with_slot}
use Rattle.ipc_model.specs.store.Store.{IsClosed, IsMidAppend, closed_gate, epoch_encoding, open_gate, with_batch}
use Rattle.ipc_model.specs.world.World.{pieces_of}
use Rattle.journal.specs.Batch.{BatchValue, content_of}
use Rattle.store_fault.specs.declared.fault.StoreFault.{StoreFault}
use Rattle.store_fault.specs.declared.fault.StoreFault.TheVariants.{Device, Failed, NoMemory}
use Rattle.slot_steps.specs.Steps.{ClearsSlot, FindsSlotClear, HasSomeGate, IsClosing, IsShut, IsStillClosed, image_slot, segment_slot}
use Rattle.store_half.specs.declared.clearing.TheConstants.{CLEARED_BYTES}
use Rattle.store_half.specs.Values.{CheckpointValue, StoreValue}

-- the contents after a crash while a batch is appended to an epoch's segment
abbrev pub PassesAppend : ℕ → View → View → BatchValue → Type 0
PassesAppend epoch old new batch =
    Passes old new (Follows old (segment_slot epoch) (λ before after. IsMidAppend before (content_of batch) after))

-- a batch was appended to an epoch's segment
abbrev pub IsAppended : ℕ → Slots → Slots → BatchValue → Type 0
IsAppended epoch old new batch =
    new ≡ with_slot old (segment_slot epoch) (with_batch (slot_of old (segment_slot epoch)) (content_of batch))

-- The next step of a checkpoint.

abbrev pub IsRolled : Option CheckpointValue → ℕ → Type 0
IsRolled None steps = ⊥
IsRolled (Some checkpoint) steps = checkpoint.rolled ≡ steps

-- the next segment may be opened: the one in use holds its epoch's whole log
abbrev pub CanOpen : {D : Type 0} → StoreValue D → Option CheckpointValue → Type 0
CanOpen store None = ⊥
CanOpen store (Some checkpoint) = (checkpoint.rolled ≡ 2) × (store.segment.records ≡ checkpoint.log)

abbrev pub HasImaged : Option CheckpointValue → ℕ → Type 0
HasImaged None steps = ⊥
HasImaged (Some checkpoint) steps = checkpoint.imaged ≡ steps

abbrev pub HasPieceLeft : Option CheckpointValue → Type 0
HasPieceLeft None = ⊥
HasPieceLeft (Some checkpoint) = (0 < checkpoint.imaged) × (checkpoint.imaged < pieces_of checkpoint.encoding + 1)

abbrev pub CanFinish : Option CheckpointValue → Type 0
CanFinish None = ⊥
CanFinish (Some checkpoint) = (checkpoint.imaged ≡ pieces_of checkpoint.encoding + 1) × (checkpoint.rolled ≡ 3)

-- the slot of the next epoch's segment may be cleared
abbrev pub CanClear : {D : Type 0} → StoreValue D → Type 0
CanClear store = (store.checkpoint ≡ None) × (store.segment.epoch + 1 < 2 ^ 64)

-- The results of a checkpoint's steps.

-- A step that isn't possible now changes nothing.
abbrev pub IsNotNow : {D : Type 0} → StoreValue D → Type 0 → StoreValue D → Type 0
IsNotNow old possible new = (old.failed ≡ false) × (possible → ⊥) × (new ≡ old)

-- The device failed in an earlier step, and nothing changed; or it failed in this one.
abbrev pub IsFault : {D : Type 0} → StoreValue D → StoreFault → Type 0 → StoreValue D → Type 0
IsFault old fault fails new = ((fault ≡ Failed) × (old.failed ≡ true) × (new ≡ old)) ⊎ ((fault ≡ Device) × fails)

-- the same for a step that allocates: it may also run out of memory, and then nothing changed
abbrev pub IsFaultOrShortage : {D : Type 0} → StoreValue D → StoreFault → Type 0 → Type 0 → StoreValue D → Type 0
IsFaultOrShortage old fault possible fails new =
    IsFault old fault fails new ⊎ ((fault ≡ NoMemory) × (old.failed ≡ false) × possible × (new ≡ old))

-- A step returns true if it was done, and false if it isn't possible now.
abbrev pub IsDoneIf : {D : Type 0} → StoreValue D → (possible done : Type 0) → StoreValue D → Result Bool StoreFault
    → Type 0
IsDoneIf old possible done new result = IfOk result (λ is_done. MatchBool is_done done (IsNotNow old possible new))

-- The image isn't finished, because that isn't possible now.
abbrev pub FinishNotNow : {D : Type 0} → StoreValue D → StoreValue D → Result (Option ℕ) StoreFault → Type 0
FinishNotNow old new result = IfOk result (λ receipt. IfNone receipt (IsNotNow old (CanFinish old.checkpoint) new))

module _ {D : Type 0} (honest : Type 0) (view : D → View) where
  -- The gate of the next segment's slot is closed.
  pub record RollsClose (old new : StoreValue D) : Type 0 where
    pub checkpoint : CheckpointValue
    pub under_way : old.checkpoint ≡ Some checkpoint
    pub next : checkpoint.rolled ≡ 0
    pub unfailed : old.failed ≡ false
    pub rest : new ≡ record old { disk = new.disk; checkpoint = Some (record checkpoint { rolled = 1 }) }
    pub begun : honest → 0 < length (slot_of (view new.disk).seen (segment_slot checkpoint.epoch))
    pub closed : honest → IsClosed (slot_of (view new.disk).seen (segment_slot checkpoint.epoch))
    pub others : honest → (view new.disk).seen
        ≡ with_slot (view old.disk).seen (segment_slot checkpoint.epoch)
        (slot_of (view new.disk).seen (segment_slot checkpoint.epoch))
    pub synced : honest → IsSynced (view new.disk) (segment_slot checkpoint.epoch)
    pub passes : honest → IsSynced (view old.disk) (segment_slot checkpoint.epoch)
        → Passes (view old.disk) (view new.disk)
        (Follows (view old.disk) (segment_slot checkpoint.epoch) (IsClosing 16))

  -- The next segment's header is written after the gate, and a closed gate after the header.
  pub record RollsHead (old new : StoreValue D) : Type 0 where
    pub checkpoint : CheckpointValue
    pub under_way : old.checkpoint ≡ Some checkpoint
    pub next : checkpoint.rolled ≡ 1
    pub unfailed : old.failed ≡ false
    pub rest : new ≡ record old { disk = new.disk; checkpoint = Some (record checkpoint { rolled = 2 }) }
    pub header : honest → (view new.disk).seen ≡ with_slot (view old.disk).seen (segment_slot checkpoint.epoch)
        (take 1 (slot_of (view old.disk).seen (segment_slot checkpoint.epoch))
        ++ (epoch_encoding checkpoint.epoch ++ closed_gate ∷ []))
    pub synced : honest → IsSynced (view new.disk) (segment_slot checkpoint.epoch)
    pub passes : honest → IsShut (view old.disk) (segment_slot checkpoint.epoch)
        → Passes (view old.disk) (view new.disk) (Follows (view old.disk) (segment_slot checkpoint.epoch) IsStillClosed)

  -- The next segment is open: the next epoch's batches are stored there from now on.
  pub record RollsOpen (old new : StoreValue D) : Type 0 where
    pub checkpoint : CheckpointValue
    pub under_way : old.checkpoint ≡ Some checkpoint
    pub next : checkpoint.rolled ≡ 2
    pub whole : old.segment.records ≡ checkpoint.log
    pub unfailed : old.failed ≡ false
    pub rest : new ≡ record old {
      disk = new.disk;
      segment = record { epoch = checkpoint.epoch; records = 0 };
      checkpoint = Some (record checkpoint { rolled = 3 });
    }
    pub opened : honest → (view new.disk).seen
        ≡ with_slot (view old.disk).seen (segment_slot checkpoint.epoch)
        (open_gate ∷ drop 1 (slot_of (view old.disk).seen (segment_slot checkpoint.epoch)))
    pub synced : honest → IsSynced (view new.disk) (segment_slot checkpoint.epoch)
    pub passes : honest → Passes (view old.disk) (view new.disk)
        (Follows (view old.disk) (segment_slot checkpoint.epoch) HasSomeGate)

  -- The next image is encoded, and its slot closed and cleared.
  pub record ClosesImage (old new : StoreValue D) : Type 0 where
    pub checkpoint : CheckpointValue
    pub under_way : old.checkpoint ≡ Some checkpoint
    pub next : checkpoint.imaged ≡ 0
    pub unfailed : old.failed ≡ false
    pub rest : new ≡ record old { disk = new.disk; checkpoint = Some (record checkpoint { imaged = 1 }) }
    pub others : honest → (view new.disk).seen
        ≡ with_slot (view old.disk).seen (image_slot checkpoint.epoch)
        (slot_of (view new.disk).seen (image_slot checkpoint.epoch))
    pub shut : honest → IsShut (view new.disk) (image_slot checkpoint.epoch)
    pub passes : honest → IsSynced (view old.disk) (image_slot checkpoint.epoch)
        → Passes (view old.disk) (view new.disk) (Follows (view old.disk) (image_slot checkpoint.epoch) (IsClosing 24))

  -- One more piece of the image is in the slot.
  pub record WritesPiece (old new : StoreValue D) : Type 0 where
    pub checkpoint : CheckpointValue
    pub under_way : old.checkpoint ≡ Some checkpoint
    pub next : (0 < checkpoint.imaged) × (checkpoint.imaged < pieces_of checkpoint.encoding + 1)
    pub unfailed : old.failed ≡ false
    pub rest : new ≡ record old {
      disk = new.disk;
      checkpoint = Some (record checkpoint { imaged = checkpoint.imaged + 1 });
    }
    pub others : honest → (view new.disk).seen
        ≡ with_slot (view old.disk).seen (image_slot checkpoint.epoch)
        (slot_of (view new.disk).seen (image_slot checkpoint.epoch))
    pub shut : honest → IsShut (view old.disk) (image_slot checkpoint.epoch)
        → IsShut (view new.disk) (image_slot checkpoint.epoch)
    pub passes : honest → IsShut (view old.disk) (image_slot checkpoint.epoch)
        → Passes (view old.disk) (view new.disk) (Follows (view old.disk) (image_slot checkpoint.epoch) IsStillClosed)

  -- The image is whole, and its gate is open. The checkpoint is over.
  pub record Finishes (old new : StoreValue D) : Type 0 where
    pub checkpoint : CheckpointValue
    pub under_way : old.checkpoint ≡ Some checkpoint
    pub next : (checkpoint.imaged ≡ pieces_of checkpoint.encoding + 1) × (checkpoint.rolled ≡ 3)
    pub unfailed : old.failed ≡ false
    pub rest : new ≡ record old { disk = new.disk; checkpoint = None }
    pub in_use : checkpoint.epoch ≡ old.segment.epoch
    pub fits : length checkpoint.encoding < 2 ^ 64
    pub made : honest → (view new.disk).seen
        ≡ with_slot (view old.disk).seen (image_slot checkpoint.epoch) (open_image checkpoint.epoch checkpoint.encoding)
    pub synced : honest → IsSynced (view new.disk) (image_slot checkpoint.epoch)
    pub passes : honest → IsShut (view old.disk) (image_slot checkpoint.epoch)
        → Passes (view old.disk) (view new.disk)
        (Follows (view old.disk) (image_slot checkpoint.epoch) (IsFinishing checkpoint.epoch checkpoint.encoding))

  -- A step clears the slot of the next epoch's segment, outside a checkpoint.
  pub record Clears (old new : StoreValue D) : Type 0 where
    pub possible : CanClear old
    pub unfailed : old.failed ≡ false
    pub rest : new ≡ record old { disk = new.disk }
    pub clears : honest
        → ClearsSlot 16 CLEARED_BYTES (view old.disk) (view new.disk) (segment_slot (old.segment.epoch + 1))
    pub passes : honest → IsSynced (view old.disk) (segment_slot (old.segment.epoch + 1))
        → Passes (view old.disk) (view new.disk)
        (Follows (view old.disk) (segment_slot (old.segment.epoch + 1)) (IsClosing 16))

  -- No such step is left, and nothing is written.
  pub record FindsClear (old new : StoreValue D) : Type 0 where
    pub possible : CanClear old
    pub unfailed : old.failed ≡ false
    pub rest : new ≡ record old { disk = new.disk }
    pub finds : honest → FindsSlotClear 16 (view old.disk) (view new.disk) (segment_slot (old.segment.epoch + 1))

  -- The device failed during such a step, which was possible.

  pub record FailsToClear (old new : StoreValue D) : Type 0 where
    pub possible : CanClear old
    pub unfailed : old.failed ≡ false
    pub rest : new ≡ record old { disk = new.disk; failed = true }
    pub passes : honest → IsSynced (view old.disk) (segment_slot (old.segment.epoch + 1))
        → Passes (view old.disk) (view new.disk)
        (Follows (view old.disk) (segment_slot (old.segment.epoch + 1)) (IsClosing 16))

  pub record FailsToRollClose (old new : StoreValue D) : Type 0 where
    pub checkpoint : CheckpointValue
    pub under_way : old.checkpoint ≡ Some checkpoint
    pub next : checkpoint.rolled ≡ 0
    pub unfailed : old.failed ≡ false
    pub rest : new ≡ record old { disk = new.disk; failed = true }
    pub passes : honest → IsSynced (view old.disk) (segment_slot checkpoint.epoch)
        → Passes (view old.disk) (view new.disk)
        (Follows (view old.disk) (segment_slot checkpoint.epoch) (IsClosing 16))

  pub record FailsToRollHead (old new : StoreValue D) : Type 0 where
    pub checkpoint : CheckpointValue
    pub under_way : old.checkpoint ≡ Some checkpoint
    pub next : checkpoint.rolled ≡ 1
    pub unfailed : old.failed ≡ false
    pub rest : new ≡ record old { disk = new.disk; failed = true }
    pub passes : honest → IsShut (view old.disk) (segment_slot checkpoint.epoch)
        → Passes (view old.disk) (view new.disk) (Follows (view old.disk) (segment_slot checkpoint.epoch) IsStillClosed)

  pub record FailsToRollOpen (old new : StoreValue D) : Type 0 where
    pub checkpoint : CheckpointValue
    pub under_way : old.checkpoint ≡ Some checkpoint
    pub next : checkpoint.rolled ≡ 2
    pub whole : old.segment.records ≡ checkpoint.log
    pub unfailed : old.failed ≡ false
    pub rest : new ≡ record old { disk = new.disk; failed = true }
    pub passes : honest → Passes (view old.disk) (view new.disk)
        (Follows (view old.disk) (segment_slot checkpoint.epoch) HasSomeGate)

  pub record FailsToCloseImage (old new : StoreValue D) : Type 0 where
    pub checkpoint : CheckpointValue
    pub under_way : old.checkpoint ≡ Some checkpoint
    pub next : checkpoint.imaged ≡ 0
    pub unfailed : old.failed ≡ false
    pub rest : new ≡ record old { disk = new.disk; failed = true }
    pub passes : honest → IsSynced (view old.disk) (image_slot checkpoint.epoch)
        → Passes (view old.disk) (view new.disk) (Follows (view old.disk) (image_slot checkpoint.epoch) (IsClosing 24))

  pub record FailsToWritePiece (old new : StoreValue D) : Type 0 where
    pub checkpoint : CheckpointValue
    pub under_way : old.checkpoint ≡ Some checkpoint
    pub next : (0 < checkpoint.imaged) × (checkpoint.imaged < pieces_of checkpoint.encoding + 1)
    pub unfailed : old.failed ≡ false
    pub rest : new ≡ record old { disk = new.disk; failed = true }
    pub passes : honest → IsShut (view old.disk) (image_slot checkpoint.epoch)
        → Passes (view old.disk) (view new.disk) (Follows (view old.disk) (image_slot checkpoint.epoch) IsStillClosed)

  pub record FailsToFinish (old new : StoreValue D) : Type 0 where
    pub checkpoint : CheckpointValue
    pub under_way : old.checkpoint ≡ Some checkpoint
    pub next : (checkpoint.imaged ≡ pieces_of checkpoint.encoding + 1) × (checkpoint.rolled ≡ 3)
    pub unfailed : old.failed ≡ false
    pub rest : new ≡ record old { disk = new.disk; failed = true }
    pub fits : length checkpoint.encoding < 2 ^ 64
    pub passes : honest → IsShut (view old.disk) (image_slot checkpoint.epoch)
        → Passes (view old.disk) (view new.disk)
        (Follows (view old.disk) (image_slot checkpoint.epoch) (IsFinishing checkpoint.epoch checkpoint.encoding))

  -- The result of each step unless it fails.

  abbrev pub ClearDone : StoreValue D → StoreValue D → Result Bool StoreFault → Type 0
  ClearDone old new result =
      IfOk result (λ is_step. MatchBool is_step (Clears old new) (IsNotNow old (CanClear old) new ⊎ FindsClear old new))

  abbrev pub RollCloseDone : StoreValue D → StoreValue D → Result Bool StoreFault → Type 0
  RollCloseDone old new result = IsDoneIf old (IsRolled old.checkpoint 0) (RollsClose old new) new result

  abbrev pub RollHeadDone : StoreValue D → StoreValue D → Result Bool StoreFault → Type 0
  RollHeadDone old new result = IsDoneIf old (IsRolled old.checkpoint 1) (RollsHead old new) new result

  abbrev pub RollOpenDone : StoreValue D → StoreValue D → Result Bool StoreFault → Type 0
  RollOpenDone old new result = IsDoneIf old (CanOpen old old.checkpoint) (RollsOpen old new) new result

  abbrev pub CloseImageDone : StoreValue D → StoreValue D → Result Bool StoreFault → Type 0
  CloseImageDone old new result = IsDoneIf old (HasImaged old.checkpoint 0) (ClosesImage old new) new result

  abbrev pub WritePieceDone : StoreValue D → StoreValue D → Result Bool StoreFault → Type 0
  WritePieceDone old new result = IsDoneIf old (HasPieceLeft old.checkpoint) (WritesPiece old new) new result

  -- the last step returns the epoch of the image
  abbrev pub FinishDone : StoreValue D → StoreValue D → Result (Option ℕ) StoreFault → Type 0
  FinishDone old new result =
      IfOk result (λ receipt. IfSome receipt (λ finished. (finished ≡ old.segment.epoch) × Finishes old new))

  -- The fault of each step: the device failed, in this step or an earlier one.

  abbrev pub ClearFaults : {T : Type 0} → StoreValue D → StoreValue D → Result T StoreFault → Type 0
  ClearFaults old new result = IfErr result (λ fault. IsFault old fault (FailsToClear old new) new)

  abbrev pub RollCloseFaults : {T : Type 0} → StoreValue D → StoreValue D → Result T StoreFault → Type 0
  RollCloseFaults old new result = IfErr result (λ fault. IsFault old fault (FailsToRollClose old new) new)

  abbrev pub RollHeadFaults : {T : Type 0} → StoreValue D → StoreValue D → Result T StoreFault → Type 0
  RollHeadFaults old new result = IfErr result (λ fault. IsFault old fault (FailsToRollHead old new) new)

  abbrev pub RollOpenFaults : {T : Type 0} → StoreValue D → StoreValue D → Result T StoreFault → Type 0
  RollOpenFaults old new result = IfErr result (λ fault. IsFault old fault (FailsToRollOpen old new) new)

  -- or out of memory
  abbrev pub CloseImageFaults : {T : Type 0} → StoreValue D → StoreValue D → Result T StoreFault → Type 0
  CloseImageFaults old new result =
      IfErr result (λ fault. IsFaultOrShortage old fault (HasImaged old.checkpoint 0) (FailsToCloseImage old new) new)

  abbrev pub WritePieceFaults : {T : Type 0} → StoreValue D → StoreValue D → Result T StoreFault → Type 0
  WritePieceFaults old new result = IfErr result (λ fault. IsFault old fault (FailsToWritePiece old new) new)

  abbrev pub FinishFaults : {T : Type 0} → StoreValue D → StoreValue D → Result T StoreFault → Type 0
  FinishFaults old new result = IfErr result (λ fault. IsFault old fault (FailsToFinish old new) new)
