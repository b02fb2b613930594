-- A core's parts agree with one another after each event.
use Rattle.std.proofs.Common.{◌≡◌, inl, inr, ℕ, ◌+◌, ◌≤◌, ◌<◌, Bool, true, false, Option, None, Some, refl, sym, ap, subst, ◌∙◌, arith}
use Rattle.std.specs.Prelude.{if◌then◌else◌}
use Rattle.std.specs.FinMap as finmap
use Rattle.store_half.specs.epoch_log.Logs.{EpochLogValue, TakenValue, entry_of, with_record}
use Rattle.ipc_model.specs.calls.Step.{has_record}
use Rattle.ipc_model.specs.declared.call.Call.{Call}
use Rattle.ipc_model.specs.declared.record.Record.{Record}
use Rattle.ipc_model.specs.state.State.{State}
use Rattle.journal.specs.Batch.{BatchValue}
use Rattle.journal.specs.declared.segment.Segment.{Segment}
use Rattle.store_half.specs.Values.{CheckpointValue, CutValue, StoreValue, begun}
use Rattle.system.specs.Core.{SystemValue, TicketsValue, first_system}
use Rattle.system.specs.Halves.{Cuts, Gives, KernelValue, TakesBatch, TicketValue, with_receipt}
use Rattle.system.specs.Order.{IsInOrder, IsOut, stored_out, taken_out}
use Rattle.system.proofs.Between.{some_is}
use Rattle.system.proofs.Tickets.{none_fresh}

-- how many more records an epoch log has
pub record IsGrown (old new : EpochLogValue) : Type 0 where
  pub grown : ℕ
  pub waiting : new.waiting.count ≡ old.waiting.count + grown
  pub made : new.made ≡ old.made + grown

grown_by : (b : Bool) (log : EpochLogValue) (entry : Record) → IsGrown log (if b then with_record log entry else log)
grown_by true log entry = record { grown = 1; waiting = refl; made = refl }
grown_by false log entry = record { grown = 0; waiting = omega arith; made = omega arith }

pub log_grows : (old : KernelValue) (space : ℕ) (c : Call) (ticket : TicketValue) (new : KernelValue)
    → Gives old space c ticket new → IsGrown old.log new.log
log_grows old space c ticket new gives =
    subst (IsGrown old.log) (sym gives.log)
    (grown_by (has_record c ticket.answer) old.log (entry_of space c ticket.answer))

-- by what is out

nothing : (out : Option TakenValue) (receipt : Option ℕ) (b : Bool) → b ≡ false → IsOut out receipt b → (out ≡ None)
    × (receipt ≡ None)
nothing None None b is out = (refl, refl)
nothing None (Some size) b is out = absurd (subst (IsOut None (Some size)) is out)
nothing (Some taken) None b is out = absurd (subst (IsOut (Some taken) None) is out)
nothing (Some taken) (Some size) b is out = absurd out

a_batch : (taken : TakenValue) (out : Option TakenValue) (receipt : Option ℕ) (b : Bool) → out ≡ Some taken
    → IsOut out receipt b → (0 < taken.batch.count) × (receipt ≡ None) × (b ≡ true)
a_batch taken None receipt b is out = absurd (cc is)
a_batch taken (Some other) None true is out =
    (subst (λ (t : TakenValue). 0 < t.batch.count) (some_is other taken is) out, refl, refl)
a_batch taken (Some other) None false is out = absurd out
a_batch taken (Some other) (Some size) b is out = absurd out

a_receipt : (size : ℕ) (out : Option TakenValue) (receipt : Option ℕ) (b : Bool) → receipt ≡ Some size
    → IsOut out receipt b → out ≡ None
a_receipt size out None b is out_is = absurd (cc is)
a_receipt size None (Some other) b is out_is = refl
a_receipt size (Some taken) (Some other) b is out_is = absurd out_is

module _ {D : Type 0} where
  pub first_in_order : (kernel : State) (disk : D) (segment : Segment) → IsInOrder (first_system kernel disk segment)
  first_in_order kernel disk segment = record {
    out = tt;
    counted = refl;
    epoch = λ _. refl;
    next = λ c there. absurd (cc there);
    over = λ _. (refl, refl);
    whole = λ e there. absurd (cc there);
    fresh = λ number later. none_fresh number;
  }

  pub given_in_order : (old : SystemValue D) (space : ℕ) (c : Call) (ticket : TicketValue) (core : KernelValue)
      (tickets : TicketsValue) → IsInOrder old → Gives old.core space c ticket core
      → ((number : ℕ) → tickets.given ≤ number → finmap.get tickets.kept number ≡ None)
      → IsInOrder (record old { core = core; tickets = tickets })
  given_in_order old space c ticket core tickets is gives fresh =
      let grows = log_grows old.core space c ticket core gives in
      let rest = gives.rest in
      let epoch : core.epoch ≡ old.core.epoch = ap (λ (k : KernelValue). k.epoch) rest in
      let cut : core.is_cut ≡ old.core.is_cut = ap (λ (k : KernelValue). k.is_cut) rest in
      record {
        out = subst (IsOut old.out old.receipt) (sym (ap (λ (k : KernelValue). k.is_out) rest)) is.out;
        counted =
            omega (
              arith,
              is.counted,
              ap (λ (k : KernelValue). k.handed) rest,
              ap (λ (k : KernelValue). k.older.count) rest,
              grows.waiting,
              grows.made,
            );
        epoch = λ none. is.epoch none ∙ sym epoch;
        next = λ checkpoint there. is.next checkpoint there ∙ sym epoch;
        over = λ none. is.over (sym cut ∙ none);
        whole = is.whole;
        fresh = fresh;
      }

  pub taken_in_order : (old : SystemValue D) (taken : TakenValue) (core : KernelValue) → IsInOrder old
      → TakesBatch old.core taken core → IsInOrder (record old { core = core; out = Some taken })
  taken_in_order old taken core is takes =
      let none = nothing old.out old.receipt old.core.is_out takes.none_out is.out in
      let counted : old.core.handed + 0 + 0 + old.core.older.count + old.core.log.waiting.count ≡ old.core.log.made =
      subst (λ (o : Option TakenValue). old.core.handed + taken_out o + 0 + old.core.older.count +
      old.core.log.waiting.count ≡ old.core.log.made) none.0
      (subst (λ (r : Option ℕ). old.core.handed + taken_out old.out + stored_out r + old.core.older.count +
      old.core.log.waiting.count ≡ old.core.log.made) none.1 is.counted) in
      let receipt : stored_out old.receipt ≡ 0 = ap stored_out none.1 in
      elim takes.which as (λ _. IsInOrder (record old { core = core; out = Some taken })) [
        | inl older ↦ subst (λ (k : KernelValue). IsInOrder (record old { core = k; out = Some taken })) (sym older.2)
            (record {
              out = subst (λ (r : Option ℕ). IsOut (Some taken) r true) (sym none.1) takes.some;
              counted = omega (arith, counted, receipt, ap (λ (b : BatchValue). b.count) older.1);
              epoch = is.epoch;
              next = is.next;
              over = is.over;
              whole = is.whole;
              fresh = is.fresh;
            })
        | inr log ↦ subst (λ (k : KernelValue). IsInOrder (record old { core = k; out = Some taken })) (sym log.3)
            (record {
              out = subst (λ (r : Option ℕ). IsOut (Some taken) r true) (sym none.1) takes.some;
              counted = omega (arith, counted, receipt, ap (λ (b : BatchValue). b.count) log.2);
              epoch = is.epoch;
              next = is.next;
              over = is.over;
              whole = is.whole;
              fresh = is.fresh;
            })
      ]

  -- a batch that is out isn't empty
  pub some_out : (old : SystemValue D) (taken : TakenValue) → IsInOrder old → old.out ≡ Some taken
      → 0 < taken.batch.count
  some_out old taken is there = (a_batch taken old.out old.receipt old.core.is_out there is.out).0

  pub appended_in_order : (old : SystemValue D) (taken : TakenValue) (store : StoreValue D) (first : Bool)
      → IsInOrder old → old.out ≡ Some taken → store.checkpoint ≡ old.store.checkpoint
      → store.segment.epoch ≡ old.store.segment.epoch
      → IsInOrder (record old { store = store; out = None; receipt = Some taken.batch.count; finished_first = first })
  appended_in_order old taken store first is there checkpoint epoch =
      let batch = a_batch taken old.out old.receipt old.core.is_out there is.out in
      record {
        out = subst (IsOut None (Some taken.batch.count)) (sym batch.2) tt;
        counted = omega (arith, is.counted, ap taken_out there, ap stored_out batch.1);
        epoch = λ none. epoch ∙ is.epoch (sym checkpoint ∙ none);
        next = λ c there. is.next c (sym checkpoint ∙ there);
        over = λ none. (checkpoint ∙ (is.over none).0, (is.over none).1);
        whole = λ e there. checkpoint ∙ is.whole e there;
        fresh = is.fresh;
      }

  -- a store that is as far as it was
  pub store_in_order : (old : SystemValue D) (store : StoreValue D) → IsInOrder old
      → store.checkpoint ≡ old.store.checkpoint → store.segment.epoch ≡ old.store.segment.epoch
      → IsInOrder (record old { store = store })
  store_in_order old store is checkpoint epoch = record {
    out = is.out;
    counted = is.counted;
    epoch = λ none. epoch ∙ is.epoch (sym checkpoint ∙ none);
    next = λ c there. is.next c (sym checkpoint ∙ there);
    over = λ none. (checkpoint ∙ (is.over none).0, (is.over none).1);
    whole = λ e there. checkpoint ∙ is.whole e there;
    fresh = is.fresh;
  }

  -- a receipt counts no more than was made
  pub receive_within : (old : SystemValue D) (size : ℕ) → IsInOrder old → old.receipt ≡ Some size
      → old.core.handed + size ≤ old.core.log.made
  receive_within old size is there = omega (arith, is.counted, ap stored_out there)

  pub handed_in_order : (old : SystemValue D) (size : ℕ) → IsInOrder old → old.receipt ≡ Some size
      → IsInOrder (record old { core = with_receipt old.core size; receipt = None })
  handed_in_order old size is there = record {
    out =
        subst (λ (o : Option TakenValue). IsOut o None false)
        (sym (a_receipt size old.out old.receipt old.core.is_out there is.out)) tt;
    counted = omega (arith, is.counted, ap stored_out there);
    epoch = is.epoch;
    next = is.next;
    over = is.over;
    whole = is.whole;
    fresh = is.fresh;
  }

  pub finished_in_order : (old : SystemValue D) (epoch : ℕ) → IsInOrder old → old.finished ≡ Some epoch
      → IsInOrder (record old { core = record old.core { is_cut = false }; finished = None })
  finished_in_order old epoch is there = record {
    out = is.out;
    counted = is.counted;
    epoch = is.epoch;
    next = is.next;
    over = λ _. (is.whole epoch there, refl);
    whole = λ e other. absurd (cc other);
    fresh = is.fresh;
  }

  pub answered_in_order : (old : SystemValue D) (tickets : TicketsValue) → IsInOrder old
      → ((number : ℕ) → tickets.given ≤ number → finmap.get tickets.kept number ≡ None)
      → IsInOrder (record old { tickets = tickets })
  answered_in_order old tickets is fresh =
      record {
        out = is.out;
        counted = is.counted;
        epoch = is.epoch;
        next = is.next;
        over = is.over;
        whole = is.whole;
        fresh = fresh;
      }

  -- a snapshot finds no checkpoint, and the halves in one epoch
  pub before_cut : (old : SystemValue D) (cut : CutValue) (core : KernelValue) → IsInOrder old → Cuts old.core cut core
      → (old.store.checkpoint ≡ None) × (cut.epoch ≡ old.store.segment.epoch + 1)
  before_cut old cut core is cuts =
      let over = is.over cuts.can.over in
      (over.0, omega (arith, cuts.epoch, is.epoch over.0))

  pub cut_in_order : (old : SystemValue D) (cut : CutValue) (core : KernelValue) → IsInOrder old
      → Cuts old.core cut core → IsInOrder
      (record old { core = core; store = record old.store { checkpoint = Some (begun cut) } })
  cut_in_order old cut core is cuts =
      let over = is.over cuts.can.over in
      subst (λ (k : KernelValue). IsInOrder
      (record old { core = k; store = record old.store { checkpoint = Some (begun cut) } })) (sym cuts.rest)
      (record {
        out = is.out;
        counted = omega (arith, is.counted, cuts.can.none_older);
        epoch = λ none. absurd (cc none);
        next = λ c there. ap (λ (v : CheckpointValue). v.epoch) (sym (some_is (begun cut) c there)) ∙ cuts.epoch;
        over = λ none. absurd (cc none);
        whole = λ e there. absurd (cc (there, over.1));
        fresh = is.fresh;
      })

  -- a step of a checkpoint that is still under way
  pub stepped_in_order : (old : SystemValue D) (c d : CheckpointValue) (store : StoreValue D) → IsInOrder old
      → old.store.checkpoint ≡ Some c → store.checkpoint ≡ Some d → d.epoch ≡ c.epoch
      → IsInOrder (record old { store = store })
  stepped_in_order old c d store is there now epoch = record {
    out = is.out;
    counted = is.counted;
    epoch = λ none. absurd (cc (none, now));
    next =
        λ other found. ap (λ (v : CheckpointValue). v.epoch) (sym (some_is d other (sym now ∙ found))) ∙ epoch
        ∙ is.next c there;
    over = λ none. absurd (cc ((is.over none).0, there));
    whole = λ e found. absurd (cc (is.whole e found, there));
    fresh = is.fresh;
  }

  pub whole_in_order : (old : SystemValue D) (c : CheckpointValue) (store : StoreValue D) (n : ℕ) (first : Bool)
      → IsInOrder old → old.store.checkpoint ≡ Some c → c.epoch ≡ old.store.segment.epoch → store.checkpoint ≡ None
      → store.segment ≡ old.store.segment
      → IsInOrder (record old { store = store; finished = Some n; finished_first = first })
  whole_in_order old c store n first is there epoch none segment = record {
    out = is.out;
    counted = is.counted;
    epoch = λ _. ap (λ (g : Segment). g.epoch) segment ∙ sym epoch ∙ is.next c there;
    next = λ other found. absurd (cc (found, none));
    over = λ none_cut. absurd (cc ((is.over none_cut).0, there));
    whole = λ e found. none;
    fresh = is.fresh;
  }
