-- What a core does is what the abstract specification's world of events allows: calls, batches, receipts and replies.
use Rattle.std.proofs.Common.{◌≡◌, ◌⊎◌, inl, inr, ℕ, ◌+◌, ◌-◌, ◌≤◌, ◌<◌, Bool, true, false, List, [], ◌∷◌, ◌++◌, length, take, drop, Option, None, Some, refl, sym, ap, subst, ◌∙◌, arith, length-append}
use Rattle.std.specs.Prelude.{max, nat_lt, slice_get, ◌&&◌, if◌then◌else◌}
use Rattle.std.proofs.lemmas.Bool.{cases_eq, le-ltb, lt-ltb}
use Rattle.std.specs.FinMap as finmap
use Rattle.disk.specs.Moments.{View, MayLeave, Passes}
use Rattle.disk.specs.Slots.{Slots}
use Rattle.store_half.specs.epoch_log.Logs.{TakenValue}
use Rattle.ipc_laws.specs.MapLaws.{get-here, get-there, get-gone, get-left}
use Rattle.ipc_model.specs.calls.Step.{Run, has_record}
use Rattle.ipc_model.specs.declared.call.Call.{Call}
use Rattle.ipc_model.specs.declared.reply.Reply.{Reply}
use Rattle.ipc_model.specs.declared.record.Record.{Record}
use Rattle.ipc_model.specs.state.State.{State}
use Rattle.ipc_model.specs.store.Faults as fault
use Rattle.ipc_model.specs.world.World as world
use Rattle.ipc_model.specs.world.World.{World, Ticket, After, after_durable, after_submit, after_take, greatest_seen, of_append, of_finish, record_of, acknowledged, with_answered}
use Rattle.journal.specs.Batch.{BatchValue, Holds, empty_batch}
use Rattle.store_half.proofs.phases.Appends.{kept_stands}
use Rattle.disk.proofs.Moments.{left_now, passes_as}
use Rattle.store_layout.specs.Gates.{StandForState}
use Rattle.store_half.specs.Values.{CheckpointValue}
use Rattle.system.specs.Changes.{Answers, HandsFinished, HandsReceipt, HandsIn, IsFullNow, IsNotDue, Submits, Takes}
use Rattle.system.specs.Core.{AreTickets, Between, Checkpoints, HasPlace, IsApplied, KeepsStored, NothingBetween, StandsFor, StandsFrom, Steps, SystemValue, Wait, in_turn, kept_ticket, unanswered}
use Rattle.system.specs.Events.{event_of, outcome_of}
use Rattle.system.specs.declared.event.Event.{Event}
use Rattle.system.specs.declared.event.Outcome.{Outcome}
use Rattle.system.specs.Halves.{CannotTake, Gives, KernelValue, TicketValue, with_receipt}
use Rattle.system.proofs.Between.{append_first, between_with, finish_first, handed_within, nothing_out, receipt_is_out, some_batch, some_is}
use Rattle.system.proofs.Lists.{answered_here, answered_long, answered_other, drop_long, got_last, got_other, seen_answered, seen_given, take_long}
use Rattle.system.proofs.Logs.{Grows, drop_at_end, drop_past, drop_take, grown, empty_holds, holds_as, holds_none, take_rest}

-- small facts

pub and_false : (b : Bool) → (b && false) ≡ false
and_false true = refl
and_false false = refl

less_equal : (a b n : ℕ) → a ≤ n → b ≤ n → max a b ≤ n
less_equal a b n one two = omega (arith, one, two)

pub no_time : (old new : View) (P : Slots → Type 0) → old ≡ new → Passes old new P
no_time old new P same =
    subst (λ (v : View). Passes old v P) same
    (record {
      later = omega arith;
      past = λ k c _. (λ left. left, λ left. left);
      since = λ k c later until _. absurd (omega arith);
    })

pub unfailed_first : (b : Bool) → b ≡ false → (b && true) ≡ false
unfailed_first b unfailed = ap (λ (b : Bool). b && true) unfailed

unanswered_is : (t : Ticket) (b : Bool) (ticket : TicketValue) → t.answered ≡ b → unanswered t b ≡ Some (Some ticket)
    → (u : Ticket) × (Some t ≡ Some u) × (u.answered ≡ false) × (ticket ≡ record { answer = u.answer; seen = u.seen })
unanswered_is t true ticket fresh is = absurd (cc is)
unanswered_is t false ticket fresh is = (t, refl, fresh, sym (some_is _ ticket (some_is _ (Some ticket) is)))

module _ {D : Type 0} (honest : Type 0) (view : D → View) (base : State) where
  acknowledged_least : (w : World) (system : SystemValue D) → StandsFor honest view base w system
      → acknowledged w ≤ w.stored
  acknowledged_least w system stands =
      less_equal w.stored (greatest_seen w.tickets) w.stored (omega arith)
      (omega (
        arith,
        stands.tickets.seen,
        (handed_within _ _ _ _ _ system.out system.receipt system.core.is_out stands.between).0,
      ))

  pub stored_within : (w : World) (system : SystemValue D) → StandsFor honest view base w system
      → w.stored ≤ length w.applied
  stored_within w system stands =
      omega (
        arith,
        (handed_within _ _ _ _ _ system.out system.receipt system.core.is_out stands.between).1,
        stands.counts.taken_within,
      )

  -- a crash that leaves the state after what is stored
  pub from_stored : (w : World) (system : SystemValue D) → (stands : StandsFor honest view base w system)
      → (kept : KeepsStored view system.store base system.core.kernel w.stored w.earlier w.applied) → (c : Slots)
      → StandForState kept.state c
      → StandsFrom base w.stored w c
  from_stored w system stands kept c recovered =
      (w.stored, omega arith, stored_within w system stands, (kept.state, kept.before, recovered))

  from_less : (w : World) (least less : ℕ) (c : Slots) → less ≤ least → StandsFrom base least w c
      → StandsFrom base less w c
  from_less w least less c le from = (from.0, omega (arith, le, from.1), from.2, from.3)

  pub from_acknowledged : (w : World) (system : SystemValue D) → StandsFor honest view base w system → (c : Slots)
      → StandsFrom base w.stored w c → StandsFrom base (acknowledged w) w c
  from_acknowledged w system stands c from =
      from_less w w.stored (acknowledged w) c (acknowledged_least w system stands) from

  -- a crash while nothing happens leaves no fewer records than were acknowledged
  pub left_stored : (w : World) (system : SystemValue D) → StandsFor honest view base w system → honest → (c : Slots)
      → MayLeave (view system.store.disk) c → StandsFrom base w.stored w c
  left_stored w system stands is_honest c may =
      elim w.failed as (λ (b : Bool). w.failed ≡ b → StandsFrom base w.stored w c) [
        | true ↦ λ (failed : _). stands.left is_honest failed c may
        | false ↦ λ (unfailed : _).
            let kept = stands.kept is_honest unfailed in
            from_stored w system stands kept c
            (kept_stands (view system.store.disk) system.store.segment system.store.checkpoint kept.mid kept.state
            kept.kept c may)
      ] refl

  pub left_acknowledged : (w : World) (system : SystemValue D) → StandsFor honest view base w system → honest
      → (c : Slots)
      → MayLeave (view system.store.disk) c → StandsFrom base (acknowledged w) w c
  left_acknowledged w system stands is_honest c may =
      from_acknowledged w system stands c (left_stored w system stands is_honest c may)

  -- What an event is shown to have done.
  pub record Shows (w : World) (event : world.Event) (outcome : world.Outcome) (old new : SystemValue D) : Type 0 where
    pub next : World
    pub after : After base w event outcome next
    pub stands : StandsFor honest view base next new
    pub passes : honest → Passes (view old.store.disk) (view new.store.disk) (StandsFrom base (acknowledged w) next)

  -- nothing changed
  pub unmoved : (w : World) (event : world.Event) (outcome : world.Outcome) (old new : SystemValue D)
      → StandsFor honest view base w old → new ≡ old → After base w event outcome w → Shows w event outcome old new
  unmoved w event outcome old new stands same after = record {
    next = w;
    after = after;
    stands = subst (StandsFor honest view base w) (sym same) stands;
    passes =
        λ is_honest. no_time (view old.store.disk) (view new.store.disk) _
        (ap (λ (s : SystemValue D). view s.store.disk) (sym same));
  }

  -- the core has changed, and the store's disk hasn't
  pub shown : (w next : World) (event : world.Event) (outcome : world.Outcome) (old new made : SystemValue D)
      → After base w event outcome next → new ≡ made → made.store.disk ≡ old.store.disk
      → StandsFor honest view base next made
      → Shows w event outcome old new
  shown w next event outcome old new made after is disk stands = record {
    next = next;
    after = after;
    stands = subst (StandsFor honest view base next) (sym is) stands;
    passes =
        λ is_honest. no_time (view old.store.disk) (view new.store.disk) _
        (sym (ap (λ (s : SystemValue D). view s.store.disk) is ∙ ap view disk));
  }

  -- A call is made.

  tickets_given : (w : World) (old : SystemValue D) (ticket : TicketValue) (all : ℕ)
      → AreTickets w.tickets w.handed old.tickets → ticket.seen ≡ all
      → AreTickets (w.tickets ++ (record { answer = ticket.answer; seen = all; answered = false }) ∷ []) w.handed
      (record {
        kept = finmap.insert old.tickets.kept old.tickets.given (Some ticket);
        given = old.tickets.given + 1;
      })
  tickets_given w old ticket all tickets seen =
      let t : Ticket = record { answer = ticket.answer; seen = all; answered = false } in
      let same : ticket ≡ record { answer = ticket.answer; seen = all } =
      λ i. record { answer = ticket.answer; seen = seen i } in
      record {
        given_is = omega (arith, tickets.given_is, length-append w.tickets (t ∷ []));
        each = λ n. elim (cases_eq n (length w.tickets)) [
          | inl last ↦ ap (finmap.get (finmap.insert old.tickets.kept old.tickets.given (Some ticket)))
              (last ∙ sym tickets.given_is) ∙ get-here old.tickets.kept old.tickets.given (Some ticket)
              ∙ ap (λ (v : TicketValue). Some (Some v)) same
              ∙ sym (ap kept_ticket (ap (slice_get (w.tickets ++ t ∷ [])) last ∙ got_last w.tickets t))
          | inr apart ↦ get-there old.tickets.kept old.tickets.given (Some ticket) n
              (λ (e : n ≡ old.tickets.given). apart (e ∙ tickets.given_is)) ∙ tickets.each n
              ∙ sym (ap kept_ticket (got_other w.tickets t n apart))
        ];
        seen = seen_given w.tickets t w.handed refl tickets.seen;
      }

  submitted_stands : (w : World) (old : SystemValue D) (space : ℕ) (c : Call) (ticket : TicketValue)
      (core : KernelValue) (applied : List Record) → (stands : StandsFor honest view base w old)
      → Gives old.core space c ticket core
      → Grows base w.opened w.earlier w.taken w.stored w.applied stands.older old.core.older old.core core applied
      → StandsFor honest view base (record w {
        applied = applied;
        tickets = w.tickets
            ++ (record { answer = ticket.answer; seen = length applied; answered = false }) ∷ [];
      })
      (record old {
        core = core;
        tickets = record {
          kept = finmap.insert old.tickets.kept old.tickets.given (Some ticket);
          given = old.tickets.given + 1;
        };
      })
  submitted_stands w old space c ticket core applied stands gives grows =
      let rest = gives.rest in
      let within = stored_within w old stands in
      let place = HasPlace w.epoch w.opened w.earlier w.stored stands.older applied in
      record {
        epoch = stands.epoch ∙ sym (ap (λ (k : KernelValue). k.epoch) rest);
        applied = grows.all;
        handed = ap (λ (k : KernelValue). k.handed) rest ∙ stands.handed;
        older = stands.older;
        counts = grows.counts;
        waits =
            subst (λ (b : BatchValue). Wait w.opened w.earlier w.taken applied stands.older b core.log.waiting)
            (sym (ap (λ (k : KernelValue). k.older) rest)) grows.waits;
        between =
            subst (Between w.batch w.taken w.stored w.handed place old.out old.receipt)
            (sym (ap (λ (k : KernelValue). k.is_out) rest))
            (between_with _ _ _ _ _ place (λ size out some until placed.
            let same = grows.middle w.stored size (omega (arith, until, stands.counts.taken_within)) in
            subst (λ (l : List Record). ((w.stored + size ≤ w.earlier) × (out.epoch + 1 ≡ w.epoch)
            × Holds (stands.older + w.stored - w.earlier) l out.batch)
            ⊎ ((w.earlier ≤ w.stored) × (out.epoch ≡ w.epoch) × Holds (w.opened + (w.stored - w.earlier)) l out.batch))
            (sym same) placed) old.out old.receipt old.core.is_out stands.between);
        receipts = stands.receipts;
        checkpoint =
            subst (Checkpoints w.epoch w.checkpoint old.store.checkpoint old.finished)
            (sym (ap (λ (k : KernelValue). k.is_cut) rest)) stands.checkpoint;
        in_use = stands.in_use;
        tickets = tickets_given w old ticket (length applied) stands.tickets (gives.seen ∙ grows.all.made_is);
        failed = stands.failed;
        kept = λ is_honest unfailed.
            let kept = stands.kept is_honest unfailed in
            record {
              state = kept.state;
              before =
                  subst (λ (l : List Record). Run base l kept.state) (sym (grows.front w.stored within)) kept.before;
              after = grows.on w.stored kept.state within kept.after;
              mid = kept.mid;
              cut =
                  subst (λ (l : List Record). Run base l kept.mid)
                  (sym (grows.front w.earlier stands.counts.earlier_within)) kept.cut;
              kept = kept.kept;
            };
        left = λ is_honest failed c may.
            let left = stands.left is_honest failed c may in (
              left.0,
              left.1,
              omega (arith, left.2, grows.within),
              (
                left.3.0,
                subst (λ (l : List Record). Run base l left.3.0) (sym (grows.front left.0 left.2)) left.3.1,
                left.3.2,
              ),
            );
      }

  pub shows_submit : (w : World) (old new : SystemValue D) (space : ℕ) (c : Call) → StandsFor honest view base w old
      → (submits : Submits old space c new) → Shows w (world.submit space c) (world.given submits.ticket.answer) old new
  shows_submit w old new space c stands submits =
      let gives = submits.gives in
      let answer = submits.ticket.answer in
      let grows =
      grown base w.opened w.earlier w.taken w.stored w.applied stands.older old.core.older old.core new.core
      stands.applied stands.counts stands.waits space c submits.ticket gives (has_record c answer) refl in
      shown w (after_submit w space c answer) (world.submit space c) (world.given answer) old new
      (record old {
        core = new.core;
        tickets = record {
          kept = finmap.insert old.tickets.kept old.tickets.given (Some submits.ticket);
          given = old.tickets.given + 1;
        };
      }) (
        and_false w.failed,
        tt,
        (
          (
            (old.core.kernel, new.core.kernel, stands.applied.run, gives.step),
            λ recorded. omega (arith, gives.room recorded, stands.counts.log_is),
          ),
          refl,
        ),
      ) submits.rest refl (submitted_stands w old space c submits.ticket new.core
      (w.applied ++ record_of space c answer) stands gives grows)

  pub shows_full : (w : World) (old new : SystemValue D) (space : ℕ) (c : Call) → StandsFor honest view base w old
      → IsFullNow old space c → new ≡ old → Shows w (world.submit space c) world.epoch_full old new
  shows_full w old new space c stands full same =
      unmoved w (world.submit space c) world.epoch_full old new stands same (
        and_false w.failed,
        tt,
        (
          (
            omega (arith, full.0, stands.counts.log_is),
            full.1.0,
            (old.core.kernel, full.1.1, stands.applied.run, full.1.2),
            full.1.3,
          ),
          refl,
        ),
      )

  pub shows_no_memory : (w : World) (old new : SystemValue D) (space : ℕ) (c : Call) → StandsFor honest view base w old
      → new ≡ old → Shows w (world.submit space c) world.no_memory old new
  shows_no_memory w old new space c stands same =
      unmoved w (world.submit space c) world.no_memory old new stands same (and_false w.failed, tt, refl)

  -- Records that wait are taken.

  -- a world in which a batch of this epoch and size is out
  abbrev with_out : World → ℕ → ℕ → World
  with_out w epoch size =
      record w { batch = Some (record { epoch = epoch; size = size; appended = false }); taken = w.taken + size }

  taken_stands : (w : World) (old : SystemValue D) (taken : TakenValue) (core : KernelValue) (size : ℕ)
      → (stands : StandsFor honest view base w old) → NothingBetween w.batch w.taken w.stored w.handed
      → old.receipt ≡ None → 0 < size
      → core ≡ record old.core {
        older = core.older;
        log = record old.core.log { waiting = core.log.waiting };
        is_out = true;
      } → w.taken + size ≤ length w.applied
      → HasPlace w.epoch w.opened w.earlier w.stored stands.older w.applied size taken
      → Wait w.opened w.earlier (w.taken + size) w.applied stands.older core.older core.log.waiting
      → StandsFor honest view base (with_out w taken.epoch size) (record old { core = core; out = Some taken })
  taken_stands w old taken core size stands nothing receipt some rest within placed waits = record {
    epoch = stands.epoch ∙ sym (ap (λ (k : KernelValue). k.epoch) rest);
    applied = subst (λ (k : KernelValue). IsApplied base w.applied k.kernel k.log.made) (sym rest) stands.applied;
    handed = ap (λ (k : KernelValue). k.handed) rest ∙ stands.handed;
    older = stands.older;
    counts = record {
      earlier_within = stands.counts.earlier_within;
      taken_within = within;
      log_is = ap (λ (k : KernelValue). k.log.length) rest ∙ stands.counts.log_is;
      room = λ some. omega (arith, ap (λ (k : KernelValue). k.log.length) rest, stands.counts.room some);
      older_within = stands.counts.older_within;
      older_room = stands.counts.older_room;
    };
    waits = waits;
    between =
        subst (λ (b : Bool). Between (with_out w taken.epoch size).batch (w.taken + size) w.stored w.handed
        (HasPlace w.epoch w.opened w.earlier w.stored stands.older w.applied) (Some taken) old.receipt b)
        (sym (ap (λ (k : KernelValue). k.is_out) rest))
        (subst (λ (r : Option ℕ). Between (with_out w taken.epoch size).batch (w.taken + size) w.stored w.handed
        (HasPlace w.epoch w.opened w.earlier w.stored stands.older w.applied) (Some taken) r true) (sym receipt)
        (record {
          size = size;
          some = some;
          batch_is = refl;
          taken_is = ap (λ (n : ℕ). n + size) nothing.taken_is;
          handed_is = nothing.handed_is;
          placed = placed;
        }));
    receipts = stands.receipts;
    checkpoint =
        subst (Checkpoints w.epoch w.checkpoint old.store.checkpoint old.finished)
        (sym (ap (λ (k : KernelValue). k.is_cut) rest)) stands.checkpoint;
    in_use = stands.in_use;
    tickets = stands.tickets;
    failed = stands.failed;
    kept =
        subst (λ (s : State). honest → w.failed ≡ false
        → KeepsStored view old.store base s w.stored w.earlier w.applied)
        (sym (ap (λ (k : KernelValue). k.kernel) rest)) stands.kept;
    left = stands.left;
  }

  -- those of the epoch before
  shows_take_older : (w : World) (old new : SystemValue D) (taken : TakenValue) → StandsFor honest view base w old
      → 0 < taken.batch.count → old.core.is_out ≡ false → taken.epoch + 1 ≡ old.core.epoch
      → taken.batch ≡ old.core.older
      → new.core ≡ record old.core { older = empty_batch; is_out = true }
      → new ≡ record old { core = new.core; out = Some taken } → Shows w world.take_batch world.done old new
  shows_take_older w old new taken stands some none_out epoch batch core rest =
      let nothing = nothing_out _ _ _ _ _ old.out old.receipt old.core.is_out none_out stands.between in
      let waiting : List Record = drop w.taken (take w.earlier w.applied) in
      let front : length (take w.earlier w.applied) ≡ w.earlier =
      take_long w.earlier w.applied stands.counts.earlier_within in
      let size : ℕ = w.earlier - w.taken in
      let counted : taken.batch.count ≡ size =
      ap (λ (b : BatchValue). b.count) batch ∙ stands.waits.before_is.counted
      ∙ drop_long w.taken (take w.earlier w.applied) ∙ ap (λ (n : ℕ). n - w.taken) front in
      let beyond : w.taken < w.earlier = omega (arith, some, counted) in
      let sum : w.taken + size ≡ w.earlier = omega (arith, beyond) in
      let number : taken.epoch ≡ w.epoch - 1 = omega (arith, epoch, stands.epoch) in
      let is_after_now : nat_lt w.taken w.earlier ≡ true = lt-ltb w.taken w.earlier beyond in
      let next : after_take w ≡ with_out w taken.epoch size =
      ap (λ (b : Bool). let batch : world.Batch = (if b
      then record { epoch = w.epoch - 1; size = size; appended = false }
      else record { epoch = w.epoch; size = length w.applied - w.taken; appended = false }) in
      record w { batch = Some batch; taken = w.taken + batch.size }) is_after_now ∙ ap
      (λ (e : ℕ). with_out w e size) (sym number) in
      let same : waiting ≡ take size (drop w.stored w.applied) =
      ap (λ (n : ℕ). drop w.taken (take n w.applied)) (sym sum) ∙ drop_take w.taken size w.applied ∙ ap
      (λ (n : ℕ). take size (drop n w.applied)) nothing.0.taken_is in
      let none_left : drop (w.taken + size) (take w.earlier w.applied) ≡ [] =
      drop_at_end (w.taken + size) (take w.earlier w.applied) (sum ∙ sym front) in
      let most : max (w.taken + size) w.earlier ≡ max w.taken w.earlier = omega (arith, sum, beyond) in
      shown w (with_out w taken.epoch size) world.take_batch world.done old new
      (record old { core = new.core; out = Some taken })
      (and_false w.failed, (omega (arith, beyond, stands.counts.earlier_within), nothing.0.batch_is), sym next) rest
      refl
      (taken_stands w old taken new.core size stands nothing.0 nothing.2 (omega (arith, beyond))
      (core ∙ ap (λ (k : KernelValue). record old.core
      { older = k.older; log = record old.core.log { waiting = k.log.waiting }; is_out = true }) (sym core))
      (omega (arith, sum, stands.counts.earlier_within))
      (inl (
        omega (arith, sum, nothing.0.taken_is),
        epoch ∙ sym stands.epoch,
        subst (λ (b : BatchValue). Holds (stands.older + w.stored - w.earlier) (take size (drop w.stored w.applied)) b)
            (sym batch)
            (holds_as (stands.older + w.taken - w.earlier) (stands.older + w.stored - w.earlier) waiting
            (take size (drop w.stored w.applied)) old.core.older
            (ap (λ (n : ℕ). stands.older + n - w.earlier) nothing.0.taken_is) same stands.waits.before_is),
      ))
      (subst (λ (k : KernelValue). Wait w.opened w.earlier
      (w.taken + size) w.applied stands.older k.older k.log.waiting) (sym core) (record {
        before_is =
            holds_none (stands.older + (w.taken + size) - w.earlier)
            (drop (w.taken + size) (take w.earlier w.applied)) none_left;
        log_is =
            holds_as (w.opened + (max w.taken w.earlier - w.earlier))
            (w.opened + (max (w.taken + size) w.earlier - w.earlier)) (drop (max w.taken w.earlier) w.applied)
            (drop (max (w.taken + size) w.earlier) w.applied) old.core.log.waiting
            (ap (λ (n : ℕ). w.opened + (n - w.earlier)) (sym most))
            (ap (λ (n : ℕ). drop n w.applied) (sym most)) stands.waits.log_is;
      })))

  -- none of the epoch before is left
  none_after : (w : World) (system : SystemValue D) → StandsFor honest view base w system → system.core.older.count ≡ 0
      → w.earlier ≤ w.taken
  none_after w system stands none =
      omega (
        arith,
        none,
        stands.waits.before_is.counted,
        drop_long w.taken (take w.earlier w.applied),
        take_long w.earlier w.applied stands.counts.earlier_within,
      )

  waits_of : (w : World) (system : SystemValue D) (stands : StandsFor honest view base w system) → w.earlier ≤ w.taken
      → system.core.log.waiting.count ≡ length w.applied - w.taken
  waits_of w system stands past =
      let last : max w.taken w.earlier ≡ w.taken = omega (arith, past) in
      stands.waits.log_is.counted ∙ ap (λ (n : ℕ). length (drop n w.applied)) last ∙ drop_long w.taken w.applied

  -- those of the epoch log
  shows_take_log : (w : World) (old new : SystemValue D) (taken : TakenValue) → StandsFor honest view base w old
      → 0 < taken.batch.count → old.core.is_out ≡ false → old.core.older.count ≡ 0 → taken.epoch ≡ old.core.epoch
      → taken.batch ≡ old.core.log.waiting
      → new.core ≡ record old.core { log = record old.core.log { waiting = empty_batch }; is_out = true }
      → new ≡ record old { core = new.core; out = Some taken } → Shows w world.take_batch world.done old new
  shows_take_log w old new taken stands some none_out none_older epoch batch core rest =
      let nothing = nothing_out _ _ _ _ _ old.out old.receipt old.core.is_out none_out stands.between in
      let past : w.earlier ≤ w.taken = none_after w old stands none_older in
      let size : ℕ = length w.applied - w.taken in
      let counted : taken.batch.count ≡ size = ap (λ (b : BatchValue). b.count) batch ∙ waits_of w old stands past in
      let sum : w.taken + size ≡ length w.applied = omega (arith, stands.counts.taken_within) in
      let is_after_now : nat_lt w.taken w.earlier ≡ false = le-ltb w.taken w.earlier past in
      let next : after_take w ≡ with_out w taken.epoch size =
      ap (λ (b : Bool). let batch : world.Batch = (if b
      then record { epoch = w.epoch - 1; size = w.earlier - w.taken; appended = false }
      else record { epoch = w.epoch; size = size; appended = false }) in
      record w { batch = Some batch; taken = w.taken + batch.size }) is_after_now ∙ ap
      (λ (e : ℕ). with_out w e size) (stands.epoch ∙ sym epoch) in
      let last : max w.taken w.earlier ≡ w.stored = omega (arith, past, nothing.0.taken_is) in
      let later : max (w.taken + size) w.earlier ≡ length w.applied = omega (arith, sum, past) in
      let all_out : drop (max (w.taken + size) w.earlier) w.applied ≡ [] =
      drop_at_end (max (w.taken + size) w.earlier) w.applied later in
      let none_left : drop (w.taken + size) (take w.earlier w.applied) ≡ [] =
      drop_past (w.taken + size) (take w.earlier w.applied)
      (omega (arith, sum, take_long w.earlier w.applied stands.counts.earlier_within, stands.counts.earlier_within))
      in
      let none_before : drop w.taken (take w.earlier w.applied) ≡ [] =
      drop_past w.taken (take w.earlier w.applied)
      (omega (arith, past, take_long w.earlier w.applied stands.counts.earlier_within)) in
      shown w (with_out w taken.epoch size) world.take_batch world.done old new
      (record old { core = new.core; out = Some taken })
      (and_false w.failed, (omega (arith, some, counted), nothing.0.batch_is), sym next) rest refl
      (taken_stands w old taken new.core size stands nothing.0 nothing.2 (omega (arith, some, counted))
      (core ∙ ap (λ (k : KernelValue). record old.core
      { older = k.older; log = record old.core.log { waiting = k.log.waiting }; is_out = true }) (sym core))
      (omega (arith, sum))
      (inr (
        omega (arith, past, nothing.0.taken_is),
        epoch ∙ sym stands.epoch,
        subst (λ (b : BatchValue). Holds (w.opened + (w.stored - w.earlier)) (take size (drop w.stored w.applied)) b)
            (sym batch)
            (holds_as (w.opened + (max w.taken w.earlier - w.earlier)) (w.opened + (w.stored - w.earlier))
            (drop (max w.taken w.earlier) w.applied) (take size (drop w.stored w.applied)) old.core.log.waiting
            (ap (λ (n : ℕ). w.opened + (n - w.earlier)) last)
            (ap (λ (n : ℕ). drop n w.applied) last
            ∙ sym (take_rest w.stored size w.applied (omega (arith, sum, nothing.0.taken_is))))
            stands.waits.log_is),
      ))
      (subst (λ (k : KernelValue). Wait w.opened w.earlier
      (w.taken + size) w.applied stands.older k.older k.log.waiting) (sym core) (record {
        before_is =
            subst (λ (l : List Record). Holds (stands.older + (w.taken + size) - w.earlier) l old.core.older)
            (sym none_left) (empty_holds (stands.older + w.taken - w.earlier)
            (stands.older + (w.taken + size) - w.earlier) old.core.older
            (subst (λ (l : List Record). Holds (stands.older + w.taken - w.earlier) l old.core.older) none_before
            stands.waits.before_is));
        log_is =
            holds_none (w.opened + (max (w.taken + size) w.earlier - w.earlier))
            (drop (max (w.taken + size) w.earlier) w.applied) all_out;
      })))

  pub shows_take : (w : World) (old new : SystemValue D) → StandsFor honest view base w old → Takes old new
      → Shows w world.take_batch world.done old new
  shows_take w old new stands takes =
      let t = takes.takes in elim t.which as (λ _. Shows w world.take_batch world.done old new) [
        | inl older ↦ shows_take_older w old new takes.taken stands t.some t.none_out older.0 older.1 older.2 takes.rest
        | inr log ↦ shows_take_log w old new takes.taken stands t.some t.none_out log.0 log.1 log.2 log.3 takes.rest
      ]

  pub shows_no_take : (w : World) (old new : SystemValue D) → StandsFor honest view base w old → CannotTake old.core
      → new ≡ old → Shows w world.take_batch world.not_now old new
  shows_no_take w old new stands none same =
      unmoved w world.take_batch world.not_now old new stands same (
        and_false w.failed,
        λ possible. elim none [
          | inl empty ↦
              let past = none_after w old stands empty.0 in
              omega (arith, possible.0, empty.1, waits_of w old stands past)
          | inr is_out ↦ some_batch _ _ _ _ _ old.out old.receipt
              (subst (Between w.batch w.taken w.stored w.handed
              (HasPlace w.epoch w.opened w.earlier w.stored stands.older w.applied) old.out old.receipt) is_out
              stands.between) possible.1
        ],
        refl,
      )

  -- A receipt is handed in.

  -- of a batch
  shows_receipt : (w : World) (old new : SystemValue D) → StandsFor honest view base w old → HandsReceipt old new
      → Shows w world.durable world.done old new
  shows_receipt w old new stands hands =
      let out = receipt_is_out _ _ _ _ _ hands.size old.out old.receipt old.core.is_out hands.receipt stands.between in
      let left = in_turn None old.finished old.finished_first in
      let turn : w.receipts ≡ of_append hands.size ∷ left =
      stands.receipts ∙ ap (λ (r : Option ℕ). in_turn r old.finished old.finished_first) hands.receipt
      ∙ append_first hands.size old.finished old.finished_first hands.oldest in
      let w2 : World = record w { batch = None; handed = w.handed + hands.size; receipts = left } in
      let next : after_durable w w.receipts ≡ w2 = ap (after_durable w) turn in
      shown w w2 world.durable world.done old new
      (record old { core = with_receipt old.core hands.size; receipt = None })
      (and_false w.failed, omega (arith, ap length turn), sym next) hands.rest refl (record {
        epoch = stands.epoch;
        applied = stands.applied;
        handed = omega (arith, stands.handed);
        older = stands.older;
        counts = stands.counts;
        waits = stands.waits;
        between =
            subst (λ (o : Option TakenValue). Between None w.taken w.stored (w.handed + hands.size)
            (HasPlace w.epoch w.opened w.earlier w.stored stands.older w.applied) o None false) (sym out.1)
            (record { batch_is = refl; taken_is = out.0.taken_is; handed_is = out.0.handed_is });
        receipts = refl;
        checkpoint = stands.checkpoint;
        in_use = stands.in_use;
        tickets =
            record {
              given_is = stands.tickets.given_is;
              each = stands.tickets.each;
              seen = omega (arith, stands.tickets.seen);
            };
        failed = stands.failed;
        kept = stands.kept;
        left = stands.left;
      })

  -- a checkpoint that is over
  over : (e : ℕ) (written : Option world.Checkpoint) (checkpoint : Option CheckpointValue) (epoch : ℕ) (b : Bool)
      → Checkpoints e written checkpoint (Some epoch) b → (checkpoint ≡ None) × (b ≡ true)
  over e (Some written) None epoch true is = (refl, refl)
  over e (Some written) None epoch false is = absurd is
  over e (Some written) (Some checkpoint) epoch b is = absurd is
  over e None None epoch b is = absurd is
  over e None (Some checkpoint) epoch b is = absurd is

  -- of an image
  shows_finished : (w : World) (old new : SystemValue D) → StandsFor honest view base w old → HandsFinished old new
      → Shows w world.durable world.done old new
  shows_finished w old new stands hands =
      let left = in_turn old.receipt None old.finished_first in
      let turn : w.receipts ≡ of_finish ∷ left =
      stands.receipts ∙ ap (λ (f : Option ℕ). in_turn old.receipt f old.finished_first) hands.finished
      ∙ finish_first hands.epoch old.receipt old.finished_first hands.oldest in
      let w2 : World = record w { checkpoint = None; receipts = left } in
      let next : after_durable w w.receipts ≡ w2 = ap (after_durable w) turn in
      let none =
      over w.epoch w.checkpoint old.store.checkpoint hands.epoch old.core.is_cut
      (subst (λ (f : Option ℕ). Checkpoints w.epoch w.checkpoint old.store.checkpoint f old.core.is_cut)
      hands.finished stands.checkpoint) in
      shown w w2 world.durable world.done old new
      (record old { core = record old.core { is_cut = false }; finished = None })
      (and_false w.failed, omega (arith, ap length turn), sym next) hands.rest refl (record {
        epoch = stands.epoch;
        applied = stands.applied;
        handed = stands.handed;
        older = stands.older;
        counts = stands.counts;
        waits = stands.waits;
        between = stands.between;
        receipts = refl;
        checkpoint = subst (λ (c : Option CheckpointValue). Checkpoints w.epoch None c None false) (sym none.0) tt;
        in_use = stands.in_use;
        tickets = stands.tickets;
        failed = stands.failed;
        kept = stands.kept;
        left = stands.left;
      })

  pub shows_durable : (w : World) (old new : SystemValue D) → StandsFor honest view base w old → HandsIn old new
      → Shows w world.durable world.done old new
  shows_durable w old new stands hands =
      elim hands as (λ _. Shows w world.durable world.done old new) [
        | inl receipt ↦ shows_receipt w old new stands receipt
        | inr finished ↦
            shows_finished w old new stands finished
      ]

  pub shows_no_durable : (w : World) (old new : SystemValue D) → StandsFor honest view base w old → old.receipt ≡ None
      → old.finished ≡ None → new ≡ old → Shows w world.durable world.not_now old new
  shows_no_durable w old new stands none none_finished same =
      unmoved w world.durable world.not_now old new stands same (
        and_false w.failed,
        λ possible. omega (
          arith,
          possible,
          ap length (stands.receipts ∙ (λ i. in_turn (none i) (none_finished i) old.finished_first)),
        ),
        refl,
      )

  -- A ticket is answered.

  given_out : (o : Option Ticket) (ticket : TicketValue) → kept_ticket o ≡ Some (Some ticket) → (t : Ticket)
      × (o ≡ Some t) × (t.answered ≡ false) × (ticket ≡ record { answer = t.answer; seen = t.seen })
  given_out None ticket is = absurd (cc is)
  given_out (Some t) ticket is = unanswered_is t t.answered ticket refl is

  pub shows_reply : (w : World) (old new : SystemValue D) (number : ℕ) (answer : Reply)
      → StandsFor honest view base w old → Answers old number answer new
      → Shows w (world.ask_reply number) (world.replied answer) old new
  shows_reply w old new number answer stands answers =
      let t =
      given_out (slice_get w.tickets number) answers.ticket (sym (stands.tickets.each number) ∙ answers.there) in
      let seen : t.0.seen ≤ w.handed =
      omega (arith, answers.due, ap (λ (v : TicketValue). v.seen) t.3, stands.handed) in
      shown w (record w { tickets = with_answered w.tickets number }) (world.ask_reply number)
      (world.replied answer) old new
      (record old { tickets = record { kept = finmap.remove old.tickets.kept number; given = old.tickets.given } }) (
        and_false w.failed,
        subst (world.CanReply w) (sym t.1) (t.2, seen),
        (t.0, t.1, sym (answers.answer_is ∙ ap (λ (v : TicketValue). v.answer) t.3), refl),
      ) answers.rest refl (record {
        epoch = stands.epoch;
        applied = stands.applied;
        handed = stands.handed;
        older = stands.older;
        counts = stands.counts;
        waits = stands.waits;
        between = stands.between;
        receipts = stands.receipts;
        checkpoint = stands.checkpoint;
        in_use = stands.in_use;
        tickets = record {
          given_is = stands.tickets.given_is ∙ sym (answered_long w.tickets number);
          each = λ n. elim (cases_eq n number) [
            | inl here ↦ ap (finmap.get (finmap.remove old.tickets.kept number)) here ∙ get-gone old.tickets.kept number
                ∙ sym (ap kept_ticket (ap (slice_get (with_answered w.tickets number)) here
                ∙ answered_here w.tickets number t.0 t.1))
            | inr apart ↦ get-left old.tickets.kept number n apart ∙ stands.tickets.each n
                ∙ sym (ap kept_ticket (answered_other w.tickets number n apart))
          ];
          seen = seen_answered w.tickets number t.0 w.handed t.1 seen stands.tickets.seen;
        };
        failed = stands.failed;
        kept = stands.kept;
        left = stands.left;
      })

  late_ticket : (w : World) (o : Option Ticket) (handed : ℕ) → handed ≡ w.handed
      → ((ticket : TicketValue) → kept_ticket o ≡ Some (Some ticket) → handed < ticket.seen) → world.CanReply w o → ⊥
  late_ticket w None handed is late can = can
  late_ticket w (Some t) handed is late can =
      let ticket : TicketValue = record { answer = t.answer; seen = t.seen } in
      omega (arith, is, can.1, late ticket (ap (unanswered t) can.0))

  pub shows_no_reply : (w : World) (old new : SystemValue D) (number : ℕ) → StandsFor honest view base w old
      → IsNotDue old number → new ≡ old → Shows w (world.ask_reply number) world.not_now old new
  shows_no_reply w old new number stands late same =
      unmoved w (world.ask_reply number) world.not_now old new stands same (
        and_false w.failed,
        late_ticket w (slice_get w.tickets number) old.core.handed stands.handed
            (λ ticket is. late ticket (stands.tickets.each number ∙ is)),
        refl,
      )

  -- The store changes.

  -- the device failed while nothing else changed; a crash until then leaves at least the stored records
  pub shows_device : (w : World) (event : world.Event) (old new : SystemValue D) → StandsFor honest view base w old
      → w.failed ≡ false → After base w event (world.store fault.device) (record w { failed = true })
      → new ≡ record old { store = record old.store { disk = new.store.disk; failed = true } }
      → (honest → Passes (view old.store.disk) (view new.store.disk) (StandsFrom base w.stored w))
      → Shows w event (world.store fault.device) old new
  shows_device w event old new stands unfailed after rest time = record {
    next = record w { failed = true };
    after = after;
    stands = subst (StandsFor honest view base (record w { failed = true })) (sym rest) (record {
      epoch = stands.epoch;
      applied = stands.applied;
      handed = stands.handed;
      older = stands.older;
      counts = stands.counts;
      waits = stands.waits;
      between = stands.between;
      receipts = stands.receipts;
      checkpoint = stands.checkpoint;
      in_use = stands.in_use;
      tickets = stands.tickets;
      failed = refl;
      kept = λ _ unfailed_now. absurd (cc unfailed_now);
      left =
          λ is_honest _ c may. elim (left_now (view old.store.disk) (view new.store.disk) (StandsFrom base w.stored w)
          (time is_honest) c may) [
            | inl was ↦ left_stored w old stands is_honest c was
            | inr since ↦ since
          ];
    });
    passes =
        λ is_honest. passes_as (view old.store.disk) (view new.store.disk) (StandsFrom base w.stored w)
        (StandsFrom base (acknowledged w) w) (time is_honest) (λ c from. from_acknowledged w old stands c from);
  }

  -- the device failed in an earlier event, and the event answers that
  pub shows_failed : (w : World) (event : world.Event) (old new : SystemValue D) → StandsFor honest view base w old
      → world.is_of_store event ≡ true → old.store.failed ≡ true → new ≡ old
      → Shows w event (world.store fault.failed) old new
  shows_failed w event old new stands of_store failed same =
      unmoved w event (world.store fault.failed) old new stands same
      ((λ i. (sym stands.failed ∙ failed) i && of_store i), refl)

  -- what is shown of an event is what its contract says
  pub steps_of : (w : World) (event : Event) (answered : Outcome) (kept : Reply) (old new : SystemValue D)
      → Shows w (event_of event) (outcome_of answered kept) old new → Steps honest view base w event answered old new
  steps_of w event answered kept old new shows = record {
    kept = kept;
    next = shows.next;
    after = shows.after;
    stands = shows.stands;
    passes = shows.passes;
    left = left_acknowledged shows.next new shows.stands;
  }
