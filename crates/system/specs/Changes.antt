-- What each event makes of a core.
use Rattle.std.specs.Prelude.{◌≡◌, ◌⊎◌, ℕ, ◌+◌, ◌<◌, ◌≤◌, true, false, None, Some, is_none}
use Rattle.std.specs.FinMap as finmap
use Rattle.codes.specs.declared.limits.TheConstants.{MAX_RECORDS}
use Rattle.disk.specs.Moments.{View, IsSynced}
use Rattle.store_half.specs.epoch_log.Logs.{TakenValue}
use Rattle.ipc_model.specs.declared.call.Call.{Call}
use Rattle.ipc_model.specs.declared.reply.Reply.{Reply}
use Rattle.slot_steps.specs.Steps.{segment_slot}
use Rattle.store_half.specs.Changes.{Finishes, IsAppended, PassesAppend}
use Rattle.store_half.specs.Values.{CutValue, begun}
use Rattle.system.specs.Core.{SystemValue}
use Rattle.system.specs.Halves.{Cuts, Gives, IsFullFor, TakesBatch, TicketValue, with_receipt}

module _ {D : Type 0} where
  -- A call was made, and its ticket given.
  pub record Submits (old : SystemValue D) (space : ℕ) (c : Call) (new : SystemValue D) : Type 0 where
    pub ticket : TicketValue
    pub gives : Gives old.core space c ticket new.core
    pub rest : new ≡ record old {
      core = new.core;
      tickets = record {
        kept = finmap.insert old.tickets.kept old.tickets.given (Some ticket);
        given = old.tickets.given + 1;
      };
    }

  -- Records that waited are out as a batch.
  pub record Takes (old new : SystemValue D) : Type 0 where
    pub taken : TakenValue
    pub takes : TakesBatch old.core taken new.core
    pub rest : new ≡ record old { core = new.core; out = Some taken }

  -- The batch that was out is stored: whole, or nothing of it, at any moment.
  pub record Stores (honest : Type 0) (view : D → View) (old new : SystemValue D) : Type 0 where
    pub taken : TakenValue
    pub out : old.out ≡ Some taken
    pub in_use : taken.epoch ≡ old.store.segment.epoch
    pub unfailed : old.store.failed ≡ false
    pub rest : new ≡ record old {
      store =
          record old.store {
            disk = new.store.disk;
            segment = record old.store.segment { records = old.store.segment.records + taken.batch.count };
          };
      out = None;
      receipt = Some taken.batch.count;
      finished_first = true;
    }
    pub stored : honest → IsAppended old.store.segment.epoch (view old.store.disk).seen
        (view new.store.disk).seen taken.batch
    pub synced : honest → IsSynced (view new.store.disk) (segment_slot old.store.segment.epoch)
    pub passes : honest → IsSynced (view old.store.disk) (segment_slot old.store.segment.epoch)
        → PassesAppend old.store.segment.epoch (view old.store.disk) (view new.store.disk) taken.batch

  -- The device failed while it was stored: the batch is still out, and the store can't be used any more.
  pub record FailsToStore (honest : Type 0) (view : D → View) (old new : SystemValue D) : Type 0 where
    pub taken : TakenValue
    pub out : old.out ≡ Some taken
    pub in_use : taken.epoch ≡ old.store.segment.epoch
    pub unfailed : old.store.failed ≡ false
    pub rest : new ≡ record old { store = record old.store { disk = new.store.disk; failed = true } }
    pub passes : honest → IsSynced (view old.store.disk) (segment_slot old.store.segment.epoch)
        → PassesAppend old.store.segment.epoch (view old.store.disk) (view new.store.disk) taken.batch

  -- The segment has no room for the batch, and nothing changed.
  pub record FindsFull (old new : SystemValue D) : Type 0 where
    pub taken : TakenValue
    pub out : old.out ≡ Some taken
    pub in_use : taken.epoch ≡ old.store.segment.epoch
    pub full : MAX_RECORDS < old.store.segment.records + taken.batch.count
    pub rest : new ≡ old

  -- no batch is out that the segment in use takes
  abbrev pub CannotAppend : SystemValue D → Type 0
  CannotAppend system = (taken : TakenValue) → system.out ≡ Some taken → taken.epoch ≡ system.store.segment.epoch → ⊥

  -- The receipt of a batch was handed in, the oldest that was out;
  pub record HandsReceipt (old new : SystemValue D) : Type 0 where
    pub size : ℕ
    pub receipt : old.receipt ≡ Some size
    pub oldest : (old.finished ≡ None) ⊎ (old.finished_first ≡ false)
    pub rest : new ≡ record old { core = with_receipt old.core size; receipt = None }

  -- or that of an image.
  pub record HandsFinished (old new : SystemValue D) : Type 0 where
    pub epoch : ℕ
    pub finished : old.finished ≡ Some epoch
    pub oldest : (old.receipt ≡ None) ⊎ (old.finished_first ≡ true)
    pub rest : new ≡ record old { core = record old.core { is_cut = false }; finished = None }

  abbrev pub HandsIn : SystemValue D → SystemValue D → Type 0
  HandsIn old new = HandsReceipt old new ⊎ HandsFinished old new

  -- A ticket was answered.
  pub record Answers (old : SystemValue D) (number : ℕ) (answer : Reply) (new : SystemValue D) : Type 0 where
    pub ticket : TicketValue
    pub there : finmap.get old.tickets.kept number ≡ Some (Some ticket)
    pub due : ticket.seen ≤ old.core.handed
    pub answer_is : answer ≡ ticket.answer
    pub rest : new ≡ record old {
      tickets = record { kept = finmap.remove old.tickets.kept number; given = old.tickets.given };
    }

  -- There is no ticket of this number to be answered now.
  abbrev pub IsNotDue : SystemValue D → ℕ → Type 0
  IsNotDue system number =
      (ticket : TicketValue) → finmap.get system.tickets.kept number ≡ Some (Some ticket)
      → system.core.handed < ticket.seen

  abbrev pub IsFullNow : SystemValue D → ℕ → Call → Type 0
  IsFullNow system space c = IsFullFor system.core space c

  -- The next epoch began, and a checkpoint with it.
  pub record BeginsEpoch (old new : SystemValue D) : Type 0 where
    pub cut : CutValue
    pub cuts : Cuts old.core cut new.core
    pub rest : new ≡ record old { core = new.core; store = record old.store { checkpoint = Some (begun cut) } }

  -- The image was finished, whose receipt is out.
  pub record FinishesImage (honest : Type 0) (view : D → View) (old new : SystemValue D) : Type 0 where
    pub finishes : Finishes honest view old.store new.store
    pub rest : new ≡ record old {
      store = new.store;
      finished = Some old.store.segment.epoch;
      finished_first = is_none old.receipt;
    }
