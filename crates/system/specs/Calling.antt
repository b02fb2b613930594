-- A call whose five events come one after another, on a core in which nothing waits.
use Rattle.std.specs.Prelude.{◌≡◌, ℕ, ◌+◌, ◌<◌, true, false, [], ◌∷◌, None, is_some, if◌then◌else◌}
use Rattle.codes.specs.declared.limits.TheConstants.{MAX_RECORDS}
use Rattle.disk.specs.Moments.{View, IsSynced}
use Rattle.store_half.specs.epoch_log.Logs.{entry_of}
use Rattle.ipc_model.specs.calls.Step.{Step, has_record}
use Rattle.ipc_model.specs.declared.call.Call.{Call}
use Rattle.ipc_model.specs.declared.reply.Reply.{Reply}
use Rattle.ipc_model.specs.encodings.Encodings.{canonical_record, FitsCall, IsRecord}
use Rattle.journal.specs.Batch.{BatchValue, Holds, empty_batch}
use Rattle.slot_steps.specs.Steps.{segment_slot}
use Rattle.store_half.specs.Changes.{IsAppended, PassesAppend}
use Rattle.system.specs.Changes.{FailsToStore, HandsIn, Stores, Takes}
use Rattle.system.specs.Core.{SystemValue}

-- Nothing waits: all records are stored, and their receipts were handed in. The segment in use is the epoch's, the
-- halves agree whether a checkpoint is under way, and the device didn't fail.
pub record IsResting {D : Type 0} (system : SystemValue D) : Type 0 where
  pub none_out : system.core.is_out ≡ false
  pub out : system.out ≡ None
  pub receipt : system.receipt ≡ None
  pub finished : system.finished ≡ None
  pub older : system.core.older ≡ empty_batch
  pub waiting : system.core.log.waiting ≡ empty_batch
  pub epoch : system.store.segment.epoch ≡ system.core.epoch
  pub length : system.core.log.length ≡ system.store.segment.records
  pub handed : system.core.handed ≡ system.core.log.made
  pub is_cut : system.core.is_cut ≡ is_some system.store.checkpoint
  pub unfailed : system.store.failed ≡ false

module _ {D : Type 0} (honest : Type 0) (view : D → View) where
  -- the records that waited were taken, stored, and their receipt was handed in
  pub record StoresAll (old new : SystemValue D) : Type 0 where
    pub taken : SystemValue D
    pub stored : SystemValue D
    pub takes : Takes old taken
    pub stores : Stores honest view taken stored
    pub hands : HandsIn stored new

  -- the device failed while they were stored
  pub record FailsToStoreAll (old new : SystemValue D) : Type 0 where
    pub taken : SystemValue D
    pub takes : Takes old taken
    pub fails : FailsToStore honest view taken new

  -- a call's record, which is about to be stored, as a batch of its own
  pub record IsAlone (old : SystemValue D) (space : ℕ) (c : Call) (answer : Reply) (batch : BatchValue) : Type 0 where
    pub room : old.store.segment.records < MAX_RECORDS
    pub fits : FitsCall c
    pub kept : IsRecord (canonical_record (entry_of space c answer))
    pub holds : Holds old.store.segment.records (entry_of space c answer ∷ []) batch

  -- the record of a call is stored
  pub record IsStored (old : SystemValue D) (space : ℕ) (c : Call) (answer : Reply) (new : SystemValue D) : Type 0 where
    pub batch : BatchValue
    pub alone : IsAlone old space c answer batch
    pub stored : honest → IsAppended old.store.segment.epoch (view old.store.disk).seen (view new.store.disk).seen batch
    pub synced : honest → IsSynced (view new.store.disk) (segment_slot old.store.segment.epoch)
    pub passes : honest → IsSynced (view old.store.disk) (segment_slot old.store.segment.epoch)
        → PassesAppend old.store.segment.epoch (view old.store.disk) (view new.store.disk) batch

  -- A call was made, and its record stored, if it has one; then it was answered.
  pub record Calls (old : SystemValue D) (space : ℕ) (c : Call) (answer : Reply) (new : SystemValue D) : Type 0 where
    pub step : Step old.core.kernel space c answer new.core.kernel
    pub rests : IsResting new
    pub counted : new.store.segment
        ≡ record old.store.segment { records = old.store.segment.records + (if has_record c answer then 1 else 0) }
    pub checkpoint : new.store.checkpoint ≡ old.store.checkpoint
    pub is_cut : new.core.is_cut ≡ old.core.is_cut
    pub unrecorded : has_record c answer ≡ false → (new.core.kernel ≡ old.core.kernel) × (new.store ≡ old.store)
    pub recorded : has_record c answer ≡ true → IsStored old space c answer new

  -- A call was made, and the device failed while its record was stored.
  pub record CallFails (old : SystemValue D) (space : ℕ) (c : Call) (new : SystemValue D) : Type 0 where
    pub answer : Reply
    pub step : Step old.core.kernel space c answer new.core.kernel
    pub recorded : has_record c answer ≡ true
    pub batch : BatchValue
    pub alone : IsAlone old space c answer batch
    pub passes : honest → IsSynced (view old.store.disk) (segment_slot old.store.segment.epoch)
        → PassesAppend old.store.segment.epoch (view old.store.disk) (view new.store.disk) batch
