-- What clauses see of the half that makes calls.
use Rattle.std.specs.Prelude.{◌≡◌, ◌⊎◌, ℕ, ◌+◌, ◌-◌, ◌^◌, ◌<◌, ◌≤◌, Bool, true, false, Option, None, Some, refl}
use Rattle.std.specs.Coded.{Coded, code_by, coded×, coded_ℕ, coded_bool}
use Rattle.codes.specs.declared.kern_return.KernReturn.{KernReturn}
use Rattle.codes.specs.declared.limits.TheConstants.{MAX_RECORDS}
use Rattle.store_half.specs.epoch_log.Logs.{EpochLogValue, TakenValue, entry_of, log_after, log_code, next_log}
use Rattle.ipc_model.specs.calls.Step.{Step, has_record}
use Rattle.ipc_model.specs.declared.call.Call.{Call}
use Rattle.ipc_model.specs.declared.reply.Reply.{Reply}
use Rattle.ipc_model.specs.declared.plain_reply.PlainReply.TheVariants.{Message}
use Rattle.ipc_model.specs.declared.reply.Reply.TheVariants as reply
use Rattle.ipc_model.specs.state.State.{State}
use Rattle.ipc_model.specs.state.StateCode.{state_code}
use Rattle.ipc_model.specs.store.Recovery.{IsImageOf}
use Rattle.ipc_model.specs.encodings.Encodings.{canonical_record, FitsCall, IsRecord}
use Rattle.journal.specs.Batch.{BatchValue, batch_code, empty_batch}
use Rattle.store_half.specs.Values.{CutValue}

-- A ticket: the reply that it keeps, and how many of the records that were made its call saw.
pub record TicketValue : Type 0 where
  pub answer : Reply
  pub seen : ℕ

-- the code of what mach_msg answered
abbrev pub message_code : Reply → Option KernReturn
message_code (reply.Plain (Message code size member message)) = Some code
message_code answer = None

-- The half that makes calls: the state, its epoch, the records of the epoch before that wait to be taken, the epoch
-- log, how many of the records that were made are stored according to receipts, whether a batch is out, and whether a
-- checkpoint is under way.
pub record KernelValue : Type 0 where
  pub kernel : State
  pub epoch : ℕ
  pub older : BatchValue
  pub log : EpochLogValue
  pub handed : ℕ
  pub is_out : Bool
  pub is_cut : Bool

abbrev pub kernel_code : Coded KernelValue
kernel_code =
    code_by (State × (ℕ × (BatchValue × (EpochLogValue × (ℕ × (Bool × Bool))))))
    (coded× state_code (coded× coded_ℕ
    (coded× batch_code (coded× log_code (coded× coded_ℕ (coded× coded_bool coded_bool))))))
    (λ k. (k.kernel, (k.epoch, (k.older, (k.log, (k.handed, (k.is_out, k.is_cut)))))))
    (λ p. record {
      kernel = p.0;
      epoch = p.1.0;
      older = p.1.1.0;
      log = p.1.1.1.0;
      handed = p.1.1.1.1.0;
      is_out = p.1.1.1.1.1.0;
      is_cut = p.1.1.1.1.1.1;
    }) (λ _. refl)

-- a half that continues from a state in an epoch, whose log has this many records, all of which are stored
abbrev pub first_half : State → ℕ → ℕ → KernelValue
first_half kernel epoch records = record {
  kernel = kernel;
  epoch = epoch;
  older = empty_batch;
  log = record { length = records; made = 0; waiting = empty_batch };
  handed = 0;
  is_out = false;
  is_cut = false;
}

-- A call was made, and a ticket given: the reply is one of the machine's; the epoch log has the call's record, if there
-- is one; and the ticket saw all records that were made.
pub record Gives (old : KernelValue) (space : ℕ) (c : Call) (ticket : TicketValue) (new : KernelValue) : Type 0 where
  pub step : Step old.kernel space c ticket.answer new.kernel
  pub log : new.log ≡ log_after old.log space c ticket.answer
  pub seen : ticket.seen ≡ new.log.made
  pub room : has_record c ticket.answer ≡ true → old.log.length < MAX_RECORDS
  pub fits : FitsCall c
  pub kept : has_record c ticket.answer ≡ true → IsRecord (canonical_record (entry_of space c ticket.answer))
  pub rest : new ≡ record old { kernel = new.kernel; log = new.log }

-- The epoch log takes no more records, and a step of the call has one.
abbrev pub IsFullFor : KernelValue → ℕ → Call → Type 0
IsFullFor half space c =
    (MAX_RECORDS ≤ half.log.length)
    × ((answer : Reply) × (new : State) × Step half.kernel space c answer new × (has_record c answer ≡ true))

-- Records that waited are out as a batch: those of the epoch before, and if none of these is left, those of the epoch
-- log.
pub record TakesBatch (old : KernelValue) (taken : TakenValue) (new : KernelValue) : Type 0 where
  pub some : 0 < taken.batch.count
  pub none_out : old.is_out ≡ false
  pub which : ((taken.epoch + 1 ≡ old.epoch) × (taken.batch ≡ old.older)
      × (new ≡ record old { older = empty_batch; is_out = true }))
      ⊎ ((old.older.count ≡ 0) × (taken.epoch ≡ old.epoch) × (taken.batch ≡ old.log.waiting)
      × (new ≡ record old { log = record old.log { waiting = empty_batch }; is_out = true }))

-- no record waits, or a batch is out
abbrev pub CannotTake : KernelValue → Type 0
CannotTake half = ((half.older.count ≡ 0) × (half.log.waiting.count ≡ 0)) ⊎ (half.is_out ≡ true)

-- the receipt of this many records was handed in
abbrev pub with_receipt : KernelValue → ℕ → KernelValue
with_receipt half count = record half { handed = half.handed + count; is_out = false }

-- The next epoch may begin: no checkpoint is under way, no record of the epoch before waits, and there is a next epoch.
pub record CanCut (half : KernelValue) : Type 0 where
  pub over : half.is_cut ≡ false
  pub next : half.epoch < 2 ^ 64 - 1
  pub none_older : half.older.count ≡ 0

-- The next epoch began: the copy is the image of the state after the whole epoch log.
pub record Cuts (old : KernelValue) (cut : CutValue) (new : KernelValue) : Type 0 where
  pub can : CanCut old
  pub epoch : cut.epoch ≡ old.epoch + 1
  pub log : cut.log ≡ old.log.length
  pub image : IsImageOf cut.encoding old.kernel
  pub rest : new ≡ record old { epoch = old.epoch + 1; older = old.log.waiting; log = next_log old.log; is_cut = true }
