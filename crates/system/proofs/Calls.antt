-- The five events of a call, one after another.
use Rattle.std.proofs.Common.{◌≡◌, ◌⊎◌, inl, inr, ℕ, ◌+◌, ◌≤◌, ◌<◌, Bool, true, false, List, length, Option, None, Some, Result, Ok, Err, IfErr, refl, sym, ap, subst, ◌∙◌, arith}
use Rattle.std.specs.Prelude.{MatchBool, if◌then◌else◌, is_some}
use Rattle.std.specs.Result.{IsErrAnd}
use Rattle.std.specs.FinMap as finmap
use Rattle.std.proofs.lemmas.List.{append-nil}
use Rattle.codes.specs.declared.limits.TheConstants.{MAX_RECORDS}
use Rattle.disk.specs.Moments.{View, IsSynced}
use Rattle.store_half.specs.epoch_log.Logs.{EpochLogValue, TakenValue, entry_of, with_record}
use Rattle.ipc_laws.specs.MapLaws.{get-here}
use Rattle.ipc_model.specs.calls.Step.{Step, has_record}
use Rattle.ipc_model.specs.declared.call.Call.{Call}
use Rattle.ipc_model.specs.declared.reply.Reply.{Reply}
use Rattle.ipc_model.specs.declared.record.Record.{Record}
use Rattle.ipc_model.specs.state.State.{State}
use Rattle.ipc_model.specs.encodings.Encodings.{record_encoding}
use Rattle.journal.specs.Batch.{BatchValue, empty_batch, with_encoding}
use Rattle.journal.specs.declared.segment.Segment.{Segment}
use Rattle.slot_steps.specs.Steps.{segment_slot}
use Rattle.store_fault.specs.declared.fault.StoreFault.{StoreFault}
use Rattle.store_fault.specs.declared.fault.StoreFault.TheVariants.{Device, Failed, Full}
use Rattle.store_half.specs.phases.Passed.{unrecorded_step}
use Rattle.system.specs.Calling.{Calls, CallFails, FailsToStoreAll, IsAlone, IsResting, IsStored, StoresAll}
use Rattle.store_half.specs.Changes.{IsAppended, PassesAppend}
use Rattle.store_half.specs.Values.{StoreValue}
use Rattle.system.specs.Changes.{Answers, FailsToStore, FindsFull, HandsIn, IsNotDue, Submits, Takes}
use Rattle.system.specs.Core.{SystemValue, TicketsValue}
use Rattle.system.specs.Halves.{CannotTake, KernelValue, TakesBatch, TicketValue, with_receipt}

pub if_err_from : {T E : Type 0} (r : Result T E) (was : E) (P : E → Type 0) → IsErrAnd r (λ fault. fault ≡ was)
    → P was → IfErr r P
if_err_from (Ok x) was P is p = tt
if_err_from (Err fault) was P is p = subst P (sym is) p

pub match_true : (P Q : Type 0) (b : Bool) → b ≡ true → MatchBool b P Q → P
match_true P Q true is p = p
match_true P Q false is p = absurd (cc is)

pub match_false : (P Q : Type 0) (b : Bool) → b ≡ false → MatchBool b P Q → Q
match_false P Q false is q = q
match_false P Q true is q = absurd (cc is)

some_same : {A : Type 0} (o : Option A) (a b : A) → o ≡ Some a → o ≡ Some b → a ≡ b
some_same o a b one two = cc (one, two)

module _ {D : Type 0} (honest : Type 0) (view : D → View) where
  -- A core in which only the epoch log may have records that wait.
  pub record IsReady (old : SystemValue D) : Type 0 where
    pub none_older : old.core.older.count ≡ 0
    pub epoch : old.store.segment.epoch ≡ old.core.epoch
    pub room : 0 < old.core.log.waiting.count → old.store.segment.records + old.core.log.waiting.count ≤ MAX_RECORDS
    pub finished : old.finished ≡ None

  -- the records that it takes are those of the epoch log
  pub record TakesLog (old new : SystemValue D) (taken : TakenValue) : Type 0 where
    pub epoch : taken.epoch ≡ old.core.epoch
    pub batch : taken.batch ≡ old.core.log.waiting
    pub core : new.core ≡ record old.core { log = record old.core.log { waiting = empty_batch }; is_out = true }

  pub takes_log : (old new : SystemValue D) (taken : TakenValue) → old.core.older.count ≡ 0
      → TakesBatch old.core taken new.core → TakesLog old new taken
  takes_log old new taken none takes = elim takes.which as (λ _. TakesLog old new taken) [
    | inl older ↦ absurd (omega (arith, takes.some, none, ap (λ (b : BatchValue). b.count) older.1))
    | inr log ↦ record { epoch = log.1; batch = log.2; core = log.3 }
  ]

  -- if the epoch log has records that wait, they are taken
  pub takes_some : (old new : SystemValue D) → old.core.is_out ≡ false → CannotTake old.core × (new ≡ old)
      → (old.core.log.waiting.count ≡ 0) × (new ≡ old)
  takes_some old new none_out none =
      elim none.0 as (λ _. (old.core.log.waiting.count ≡ 0) × (new ≡ old))
      [ inl empty ↦ (empty.1, none.1) | inr out ↦ absurd (cc (none_out, out)) ]

  -- the segment takes what was taken
  pub taken_epoch : (old taken : SystemValue D) → IsReady old → (takes : Takes old taken)
      → takes.taken.epoch ≡ taken.store.segment.epoch
  taken_epoch old taken ready takes =
      (takes_log old taken takes.taken ready.none_older takes.takes).epoch ∙ sym ready.epoch
      ∙ sym (ap (λ (s : SystemValue D). s.store.segment.epoch) takes.rest)

  -- and there is room for it
  pub has_room : (old taken new : SystemValue D) → IsReady old → Takes old taken → FindsFull taken new → ⊥
  has_room old taken new ready takes full =
      let log = takes_log old taken takes.taken ready.none_older takes.takes in
      let same : full.taken ≡ takes.taken =
      some_same taken.out full.taken takes.taken full.out (ap (λ (s : SystemValue D). s.out) takes.rest) in
      let count : full.taken.batch.count ≡ old.core.log.waiting.count =
      ap (λ (t : TakenValue). t.batch.count) same ∙ ap (λ (b : BatchValue). b.count) log.batch in
      omega (
        arith,
        full.full,
        count,
        ap (λ (s : SystemValue D). s.store.segment.records) takes.rest,
        ready.room (omega (arith, takes.takes.some, ap (λ (b : BatchValue). b.count) log.batch)),
      )

  pub stores_failed : (old taken new : SystemValue D) (fault : StoreFault) → IsReady old → old.store.failed ≡ false
      → Takes old taken
      → ((fault ≡ Failed) × (taken.store.failed ≡ true) × (new ≡ taken))
      ⊎ (((fault ≡ Device) × FailsToStore honest view taken new) ⊎ ((fault ≡ Full) × FindsFull taken new))
      → (fault ≡ Device) × FailsToStoreAll honest view old new
  stores_failed old taken new fault ready unfailed takes fails =
      elim fails as (λ _. (fault ≡ Device) × FailsToStoreAll honest view old new) [
        | inl before ↦ absurd (cc (before.1, ap (λ (s : SystemValue D). s.store.failed) takes.rest, unfailed))
        | inr now ↦ elim now as (λ _. (fault ≡ Device) × FailsToStoreAll honest view old new) [
          | inl device ↦ (device.0, record { taken = taken; takes = takes; fails = device.1 })
          | inr full ↦ absurd (has_room old taken new ready takes full.1)
        ]
      ]

  -- an epoch log in which nothing waited, after a call
  log_of : (b : Bool) (log : EpochLogValue) (entry : Record) → log.waiting ≡ empty_batch
      → 0 < (if b then with_record log entry else log).waiting.count → b ≡ true
  log_of true log entry none some = refl
  log_of false log entry none some = absurd (omega (arith, some, ap (λ (b : BatchValue). b.count) none))

  -- the one record that waits then
  one_waits : (old : SystemValue D) (space : ℕ) (c : Call) (new : SystemValue D) (submits : Submits old space c new)
      → IsResting old → has_record c submits.ticket.answer ≡ true
      → new.core.log ≡ with_record old.core.log (entry_of space c submits.ticket.answer)
  one_waits old space c new submits rests recorded =
      submits.gives.log ∙ ap (λ (b : Bool). if b then with_record old.core.log (entry_of space c submits.ticket.answer)
      else old.core.log) recorded

  alone_of : (old : SystemValue D) (space : ℕ) (c : Call) (new : SystemValue D) (submits : Submits old space c new)
      (batch : BatchValue) → IsResting old → has_record c submits.ticket.answer ≡ true → batch ≡ new.core.log.waiting
      → IsAlone honest view old space c submits.ticket.answer batch
  alone_of old space c new submits batch rests recorded is =
      let entry = entry_of space c submits.ticket.answer in
      let encoding : List ℕ = record_encoding old.core.log.length entry in
      let one : batch ≡ with_encoding empty_batch encoding =
      is ∙ ap (λ (r : EpochLogValue). r.waiting) (one_waits old space c new submits rests recorded) ∙ ap
      (λ (b : BatchValue). with_encoding b encoding) rests.waiting in
      record {
        room = subst (λ n. n < MAX_RECORDS) rests.length (submits.gives.room recorded);
        fits = submits.gives.fits;
        kept = submits.gives.kept recorded;
        holds = record {
          counted = ap (λ (b : BatchValue). b.count) one;
          encoding =
              ap (λ (b : BatchValue). b.body) one ∙ ap (λ n. record_encoding n entry) rests.length
              ∙ sym (append-nil (record_encoding old.store.segment.records entry));
        };
      }

  -- the batch stands after what the segment held
  abbrev IsWritten : StoreValue D → StoreValue D → BatchValue → Type 0
  IsWritten before after batch = IsAppended before.segment.epoch (view before.disk).seen (view after.disk).seen batch

  -- it is on the disk
  abbrev IsThere : StoreValue D → StoreValue D → Type 0
  IsThere before after = IsSynced (view after.disk) (segment_slot before.segment.epoch)

  abbrev Appends : StoreValue D → StoreValue D → BatchValue → Type 0
  Appends before after batch = PassesAppend before.segment.epoch (view before.disk) (view after.disk) batch

  -- what the store was before a batch is appended is what it was before the call
  passes_before : (old taken new : SystemValue D) (batch : BatchValue) → taken.store ≡ old.store
      → Appends taken.store new.store batch → Appends old.store new.store batch
  passes_before old taken new batch same passes = subst (λ (j : StoreValue D). Appends j new.store batch) same passes

  -- a core in which nothing waited is ready for what waits after a call
  pub ready_of : (old : SystemValue D) (space : ℕ) (c : Call) (new : SystemValue D) → IsResting old
      → Submits old space c new → IsReady new
  ready_of old space c new rests submits =
      let rest = submits.gives.rest in
      let store : new.store ≡ old.store = ap (λ (s : SystemValue D). s.store) submits.rest in
      let entry = entry_of space c submits.ticket.answer in
      record {
        none_older = ap (λ (k : KernelValue). k.older.count) rest ∙ ap (λ (b : BatchValue). b.count) rests.older;
        epoch =
            ap (λ (j : StoreValue D). j.segment.epoch) store ∙ rests.epoch
            ∙ sym (ap (λ (k : KernelValue). k.epoch) rest);
        room = λ some.
            let recorded =
            log_of (has_record c submits.ticket.answer) old.core.log entry rests.waiting
            (subst (λ (r : EpochLogValue). 0 < r.waiting.count) submits.gives.log some) in
            omega (
              arith,
              submits.gives.room recorded,
              rests.length,
              ap (λ (j : StoreValue D). j.segment.records) store,
              ap (λ (r : EpochLogValue). r.waiting.count) (one_waits old space c new submits rests recorded),
              ap (λ (b : BatchValue). b.count) rests.waiting,
            );
        finished = ap (λ (s : SystemValue D). s.finished) submits.rest ∙ rests.finished;
      }

  pub call_fails : (old : SystemValue D) (space : ℕ) (c : Call) (made new : SystemValue D) → IsResting old
      → Submits old space c made → FailsToStoreAll honest view made new → CallFails honest view old space c new
  call_fails old space c made new rests submits fails =
      let entry = entry_of space c submits.ticket.answer in
      let ready = ready_of old space c made rests submits in
      let log = takes_log made fails.taken fails.takes.taken ready.none_older fails.takes.takes in
      let some : 0 < made.core.log.waiting.count =
      omega (arith, fails.takes.takes.some, ap (λ (b : BatchValue). b.count) log.batch) in
      let recorded =
      log_of (has_record c submits.ticket.answer) old.core.log entry rests.waiting
      (subst (λ (r : EpochLogValue). 0 < r.waiting.count) submits.gives.log some) in
      let same_taken : fails.fails.taken ≡ fails.takes.taken =
      some_same fails.taken.out fails.fails.taken fails.takes.taken fails.fails.out
      (ap (λ (s : SystemValue D). s.out) fails.takes.rest) in
      let batch = fails.fails.taken.batch in
      let is : batch ≡ made.core.log.waiting = ap (λ (t : TakenValue). t.batch) same_taken ∙ log.batch in
      let same : fails.taken.store ≡ old.store =
      ap (λ (s : SystemValue D). s.store) fails.takes.rest ∙ ap (λ (s : SystemValue D). s.store) submits.rest in
      let kernel : made.core.kernel ≡ new.core.kernel =
      sym (ap (λ (s : SystemValue D). s.core.kernel) fails.fails.rest ∙ ap (λ (k : KernelValue). k.kernel) log.core)
      in
      record {
        answer = submits.ticket.answer;
        step = subst (λ (s : State). Step old.core.kernel space c submits.ticket.answer s) kernel submits.gives.step;
        recorded = recorded;
        batch = batch;
        alone = alone_of old space c made submits batch rests recorded is;
        passes =
            λ is_honest synced. passes_before old fails.taken new batch same
            (fails.fails.passes is_honest (subst (λ (j : StoreValue D). IsThere j j) (sym same) synced));
      }

  -- A core after a call was made and all that waited was stored.
  record IsSettled (old made new : SystemValue D) (space : ℕ) (c : Call) (answer : Reply) : Type 0 where
    rests : IsResting new
    kernel : made.core.kernel ≡ new.core.kernel
    tickets : new.tickets ≡ made.tickets
    seen : new.core.handed ≡ made.core.log.made
    counted : new.store.segment ≡ record old.store.segment
        { records = old.store.segment.records + (if has_record c answer then 1 else 0) }
    checkpoint : new.store.checkpoint ≡ old.store.checkpoint
    is_cut : new.core.is_cut ≡ old.core.is_cut
    unrecorded : has_record c answer ≡ false → (new.core.kernel ≡ old.core.kernel) × (new.store ≡ old.store)
    recorded : has_record c answer ≡ true → IsStored honest view old space c answer new

  settled_without : (old : SystemValue D) (space : ℕ) (c : Call) (made new : SystemValue D) → IsResting old
      → (submits : Submits old space c made) → has_record c submits.ticket.answer ≡ false
      → (made.core.log.waiting.count ≡ 0 → new ≡ made)
      → IsSettled old made new space c submits.ticket.answer
  settled_without old space c made new rests submits none same =
      let answer = submits.ticket.answer in
      let rest = submits.gives.rest in
      let log : made.core.log ≡ old.core.log =
      submits.gives.log ∙ ap (λ (b : Bool). if b then with_record old.core.log (entry_of space c answer)
      else old.core.log) none in
      let waiting : made.core.log.waiting ≡ empty_batch = ap (λ (r : EpochLogValue). r.waiting) log ∙ rests.waiting in
      let is : new ≡ made = same (ap (λ (b : BatchValue). b.count) waiting) in
      let store : made.store ≡ old.store = ap (λ (s : SystemValue D). s.store) submits.rest in
      let kernel : made.core.kernel ≡ old.core.kernel =
      unrecorded_step old.core.kernel space c answer made.core.kernel submits.gives.step none in
      let records : made.store.segment.records ≡ old.store.segment.records =
      ap (λ (j : StoreValue D). j.segment.records) store in
      let handed : made.core.handed ≡ made.core.log.made =
      ap (λ (k : KernelValue). k.handed) rest ∙ rests.handed ∙ sym (ap (λ (r : EpochLogValue). r.made) log) in
      record {
        rests = subst IsResting (sym is) (record {
          none_out = ap (λ (k : KernelValue). k.is_out) rest ∙ rests.none_out;
          out = ap (λ (s : SystemValue D). s.out) submits.rest ∙ rests.out;
          receipt = ap (λ (s : SystemValue D). s.receipt) submits.rest ∙ rests.receipt;
          finished = ap (λ (s : SystemValue D). s.finished) submits.rest ∙ rests.finished;
          older = ap (λ (k : KernelValue). k.older) rest ∙ rests.older;
          waiting = waiting;
          epoch =
              ap (λ (j : StoreValue D). j.segment.epoch) store ∙ rests.epoch
              ∙ sym (ap (λ (k : KernelValue). k.epoch) rest);
          length = ap (λ (r : EpochLogValue). r.length) log ∙ rests.length ∙ sym records;
          handed = handed;
          is_cut =
              ap (λ (k : KernelValue). k.is_cut) rest ∙ rests.is_cut
              ∙ sym (ap (λ (j : StoreValue D). is_some j.checkpoint) store);
          unfailed = ap (λ (j : StoreValue D). j.failed) store ∙ rests.unfailed;
        });
        kernel = sym (ap (λ (s : SystemValue D). s.core.kernel) is);
        tickets = ap (λ (s : SystemValue D). s.tickets) is;
        seen = ap (λ (s : SystemValue D). s.core.handed) is ∙ handed;
        counted =
            ap (λ (s : SystemValue D). s.store.segment) is ∙ ap (λ (j : StoreValue D). j.segment) store ∙ ap
            (λ (n : ℕ). record old.store.segment { records = n })
            (omega (arith, ap {B = ℕ} (λ (b : Bool). if b then 1 else 0) none));
        checkpoint = ap (λ (s : SystemValue D). s.store.checkpoint) is ∙ ap (λ (j : StoreValue D). j.checkpoint) store;
        is_cut = ap (λ (s : SystemValue D). s.core.is_cut) is ∙ ap (λ (k : KernelValue). k.is_cut) rest;
        unrecorded =
            λ _. (
              ap (λ (s : SystemValue D). s.core.kernel) is ∙ kernel,
              ap (λ (s : SystemValue D). s.store) is ∙ store,
            );
        recorded = λ recorded. absurd (cc (recorded, none));
      }

  -- the one receipt that is out is the batch's
  hands_size : (old taken stored new : SystemValue D) (size : ℕ) → old.finished ≡ None → taken.finished ≡ old.finished
      → stored.finished ≡ taken.finished → stored.receipt ≡ Some size → HandsIn stored new
      → new ≡ record stored { core = with_receipt stored.core size; receipt = None }
  hands_size old taken stored new size none first second receipt hands =
      elim hands as (λ _. new ≡ record stored { core = with_receipt stored.core size; receipt = None }) [
        | inl mine ↦ mine.rest ∙ ap (λ (n : ℕ). record stored { core = with_receipt stored.core n; receipt = None })
            (some_same stored.receipt mine.size size mine.receipt receipt)
        | inr image ↦ absurd (cc (image.finished, second, first, none))
      ]

  settled_with : (old : SystemValue D) (space : ℕ) (c : Call) (made new : SystemValue D) → IsResting old
      → (submits : Submits old space c made) → has_record c submits.ticket.answer ≡ true
      → StoresAll honest view made new
      → IsSettled old made new space c submits.ticket.answer
  settled_with old space c made new rests submits recorded all =
      let answer = submits.ticket.answer in
      let rest = submits.gives.rest in
      let ready = ready_of old space c made rests submits in
      let taken = all.stores.taken in
      let mine = takes_log made all.taken all.takes.taken ready.none_older all.takes.takes in
      let same_taken : taken ≡ all.takes.taken =
      some_same all.taken.out taken all.takes.taken all.stores.out
      (ap (λ (s : SystemValue D). s.out) all.takes.rest) in
      let batch = taken.batch in
      let log = one_waits old space c made submits rests recorded in
      let is : batch ≡ made.core.log.waiting = ap (λ (t : TakenValue). t.batch) same_taken ∙ mine.batch in
      let one : batch.count ≡ 1 =
      ap (λ (b : BatchValue). b.count) is ∙ ap (λ (r : EpochLogValue). r.waiting.count) log ∙ ap
      (λ (b : BatchValue). b.count + 1) rests.waiting in
      let before : all.taken.store ≡ old.store =
      ap (λ (s : SystemValue D). s.store) all.takes.rest ∙ ap (λ (s : SystemValue D). s.store) submits.rest in
      let last =
      hands_size made all.taken all.stored new batch.count ready.finished
      (ap (λ (s : SystemValue D). s.finished) all.takes.rest)
      (ap (λ (s : SystemValue D). s.finished) all.stores.rest)
      (ap (λ (s : SystemValue D). s.receipt) all.stores.rest) all.hands in
      let core : new.core ≡ with_receipt
      (record made.core { log = record made.core.log { waiting = empty_batch }; is_out = true }) batch.count =
      ap (λ (s : SystemValue D). s.core) last ∙ ap
      (λ (k : KernelValue). with_receipt k batch.count)
      (ap (λ (s : SystemValue D). s.core) all.stores.rest ∙ mine.core) in
      let store : new.store ≡ all.stored.store = ap (λ (s : SystemValue D). s.store) last in
      let after : all.stored.store ≡ record all.taken.store {
        disk = all.stored.store.disk;
        segment = record all.taken.store.segment
            { records = all.taken.store.segment.records + batch.count };
      } = ap
      (λ (s : SystemValue D). s.store) all.stores.rest in
      let segment : new.store.segment ≡ record old.store.segment { records = old.store.segment.records + 1 } =
      ap (λ (j : StoreValue D). j.segment) (store ∙ after) ∙
      (λ i. record { epoch = (before i).segment.epoch; records = (before i).segment.records + one i }) in
      let records : new.store.segment.records ≡ old.store.segment.records + 1 =
      ap (λ (g : Segment). g.records) segment in
      let handed : new.core.handed ≡ old.core.log.made + 1 =
      omega (
        arith,
        ap (λ (k : KernelValue). k.handed) core,
        ap (λ (k : KernelValue). k.handed) rest,
        rests.handed,
        one,
      ) in
      let made_is : made.core.log.made ≡ old.core.log.made + 1 = ap (λ (r : EpochLogValue). r.made) log in
      let length : made.core.log.length ≡ old.store.segment.records + 1 =
      ap (λ (r : EpochLogValue). r.length) log ∙ ap (λ n. n + 1) rests.length in
      record {
        rests = record {
          none_out = ap (λ (k : KernelValue). k.is_out) core;
          out = ap (λ (s : SystemValue D). s.out) last ∙ ap (λ (s : SystemValue D). s.out) all.stores.rest;
          receipt = ap (λ (s : SystemValue D). s.receipt) last;
          finished =
              ap (λ (s : SystemValue D). s.finished) last ∙ ap (λ (s : SystemValue D). s.finished) all.stores.rest ∙ ap
              (λ (s : SystemValue D). s.finished) all.takes.rest ∙ ready.finished;
          older = ap (λ (k : KernelValue). k.older) core ∙ ap (λ (k : KernelValue). k.older) rest ∙ rests.older;
          waiting = ap (λ (k : KernelValue). k.log.waiting) core;
          epoch =
              ap (λ (g : Segment). g.epoch) segment ∙ rests.epoch
              ∙ sym (ap (λ (k : KernelValue). k.epoch) core ∙ ap (λ (k : KernelValue). k.epoch) rest);
          length = ap (λ (k : KernelValue). k.log.length) core ∙ length ∙ sym records;
          handed = handed ∙ sym (ap (λ (k : KernelValue). k.log.made) core ∙ made_is);
          is_cut =
              ap (λ (k : KernelValue). k.is_cut) core ∙ ap (λ (k : KernelValue). k.is_cut) rest ∙ rests.is_cut
              ∙ sym (ap (λ (j : StoreValue D). is_some j.checkpoint) (store ∙ after) ∙ ap
              (λ (j : StoreValue D). is_some j.checkpoint) before);
          unfailed = ap (λ (j : StoreValue D). j.failed) (store ∙ after) ∙ all.stores.unfailed;
        };
        kernel = sym (ap (λ (k : KernelValue). k.kernel) core);
        tickets =
            ap (λ (s : SystemValue D). s.tickets) last ∙ ap (λ (s : SystemValue D). s.tickets) all.stores.rest ∙ ap
            (λ (s : SystemValue D). s.tickets) all.takes.rest;
        seen = handed ∙ sym made_is;
        counted =
            segment ∙ ap (λ (n : ℕ). record old.store.segment { records = n })
            (omega (arith, ap {B = ℕ} (λ (b : Bool). if b then 1 else 0) recorded));
        checkpoint =
            ap (λ (j : StoreValue D). j.checkpoint) (store ∙ after) ∙ ap (λ (j : StoreValue D). j.checkpoint) before;
        is_cut = ap (λ (k : KernelValue). k.is_cut) core ∙ ap (λ (k : KernelValue). k.is_cut) rest;
        unrecorded = λ none. absurd (cc (recorded, none));
        recorded = λ _. record {
          batch = batch;
          alone = alone_of old space c made submits batch rests recorded is;
          stored =
              λ is_honest. subst (λ (j : StoreValue D). IsWritten old.store j batch) (sym store)
              (subst (λ (j : StoreValue D). IsWritten j all.stored.store batch) before
              (all.stores.stored is_honest));
          synced =
              λ is_honest. subst (λ (j : StoreValue D). IsThere old.store j) (sym store)
              (subst (λ (j : StoreValue D). IsThere j all.stored.store) before (all.stores.synced is_honest));
          passes = λ is_honest synced. subst (λ (j : StoreValue D). Appends old.store j batch) (sym store)
              (passes_before old all.taken all.stored batch before
              (all.stores.passes is_honest (subst (λ (j : StoreValue D). IsThere j j) (sym before) synced)));
        };
      }

  settled : (old : SystemValue D) (space : ℕ) (c : Call) (made new : SystemValue D) → IsResting old
      → (submits : Submits old space c made) → (made.core.log.waiting.count ≡ 0 → new ≡ made)
      → (0 < made.core.log.waiting.count → StoresAll honest view made new)
      → IsSettled old made new space c submits.ticket.answer
  settled old space c made new rests submits same all =
      elim (has_record c submits.ticket.answer)
      as (λ (b : Bool). has_record c submits.ticket.answer ≡ b
      → IsSettled old made new space c submits.ticket.answer) [
        | true ↦ λ (recorded : _). settled_with old space c made new rests submits recorded
            (all (subst (λ (r : EpochLogValue). 0 < r.waiting.count)
            (sym (one_waits old space c made submits rests recorded)) (omega arith)))
        | false ↦ λ (none : _). settled_without old space c made new rests submits none same
      ] refl

  -- the ticket that was given exists
  ticket_there : (old : SystemValue D) (space : ℕ) (c : Call) (made new : SystemValue D)
      (submits : Submits old space c made) → new.tickets ≡ made.tickets
      → finmap.get new.tickets.kept old.tickets.given ≡ Some (Some submits.ticket)
  ticket_there old space c made new submits same =
      ap (λ (t : TicketsValue). finmap.get t.kept old.tickets.given)
      (same ∙ ap (λ (s : SystemValue D). s.tickets) submits.rest)
      ∙ get-here old.tickets.kept old.tickets.given (Some submits.ticket)

  pub is_due : (old : SystemValue D) (space : ℕ) (c : Call) (made new : SystemValue D) (number : ℕ) → IsResting old
      → Submits old space c made → (made.core.log.waiting.count ≡ 0 → new ≡ made)
      → (0 < made.core.log.waiting.count → StoresAll honest view made new)
      → number ≡ old.tickets.given → IsNotDue new number → ⊥
  is_due old space c made new number rests submits same all is none =
      let settles = settled old space c made new rests submits same all in
      let late =
      none submits.ticket (ap (finmap.get new.tickets.kept) is
      ∙ ticket_there old space c made new submits settles.tickets) in
      omega (arith, late, settles.seen, submits.gives.seen)

  pub called : (old : SystemValue D) (space : ℕ) (c : Call) (made new last : SystemValue D) (number : ℕ)
      (answer : Reply) → IsResting old → Submits old space c made → (made.core.log.waiting.count ≡ 0 → new ≡ made)
      → (0 < made.core.log.waiting.count → StoresAll honest view made new)
      → number ≡ old.tickets.given → Answers new number answer last → Calls honest view old space c answer last
  called old space c made new last number answer rests submits same all is answers =
      let settles = settled old space c made new rests submits same all in
      let there = ap (finmap.get new.tickets.kept) is ∙ ticket_there old space c made new submits settles.tickets in
      let one : answers.ticket ≡ submits.ticket =
      some_same (Some answers.ticket) answers.ticket submits.ticket refl
      (some_same (finmap.get new.tickets.kept number) (Some answers.ticket)
      (Some submits.ticket) answers.there there) in
      let reply : answer ≡ submits.ticket.answer = answers.answer_is ∙ ap (λ (t : TicketValue). t.answer) one in
      let last_is = answers.rest in
      let kernel : last.core.kernel ≡ new.core.kernel = ap (λ (s : SystemValue D). s.core.kernel) last_is in
      subst (λ (a : Reply). Calls honest view old space c a last) (sym reply) (record {
        step =
            subst (λ (s : State). Step old.core.kernel space c submits.ticket.answer s)
            (settles.kernel ∙ sym kernel) submits.gives.step;
        rests = subst IsResting (sym last_is) (record {
          none_out = settles.rests.none_out;
          out = settles.rests.out;
          receipt = settles.rests.receipt;
          finished = settles.rests.finished;
          older = settles.rests.older;
          waiting = settles.rests.waiting;
          epoch = settles.rests.epoch;
          length = settles.rests.length;
          handed = settles.rests.handed;
          is_cut = settles.rests.is_cut;
          unfailed = settles.rests.unfailed;
        });
        counted = ap (λ (s : SystemValue D). s.store.segment) last_is ∙ settles.counted;
        checkpoint = ap (λ (s : SystemValue D). s.store.checkpoint) last_is ∙ settles.checkpoint;
        is_cut = ap (λ (s : SystemValue D). s.core.is_cut) last_is ∙ settles.is_cut;
        unrecorded =
            λ none. (
              kernel ∙ (settles.unrecorded none).0,
              ap (λ (s : SystemValue D). s.store) last_is ∙ (settles.unrecorded none).1,
            );
        recorded = λ recorded.
            let done = settles.recorded recorded in
            subst (IsStored honest view old space c submits.ticket.answer) (sym last_is) (record {
              batch = done.batch;
              alone = done.alone;
              stored = done.stored;
              synced = done.synced;
              passes = done.passes;
            });
      })
