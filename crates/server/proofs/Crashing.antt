-- The post-crash contents while a single connection is served.
use Rattle.std.specs.Prelude.{if◌then◌else◌, MatchBool}
use Rattle.std.proofs.Common.{◌≡◌, inl, inr, ℕ, suc, ◌+◌, ◌≤◌, Bool, true, false, ◌&&◌, List, [], ◌∷◌, ◌++◌, length, take, Option, None, Some, refl, sym, ap, subst, ◌∙◌, arith, length-append}
use Rattle.std.proofs.lemmas.Bool.{cases_lt}
use Rattle.std.proofs.lemmas.List.{take-append-le}
use Rattle.calls.specs.Requests.{Asks}
use Rattle.calls.specs.declared.request.Request.{Request}
use Rattle.calls.specs.declared.request.Request.TheVariants as request
use Rattle.disk.specs.Moments.{View, LeftSince, Passes}
use Rattle.disk.specs.Slots.{Slots}
use Rattle.ipc_model.specs.calls.PlainStep as plain
use Rattle.ipc_model.specs.calls.Step.{Run, Step, has_record, succeeded}
use Rattle.ipc_model.specs.declared.call.Call.{Call}
use Rattle.ipc_model.specs.declared.call.Call.TheVariants.{Plain, Numbered, Unnumberable}
use Rattle.ipc_model.specs.declared.plain_call.PlainCall.{PlainCall}
use Rattle.ipc_model.specs.declared.plain_call.PlainCall.TheVariants as call
use Rattle.ipc_model.specs.declared.reply.Reply.{Reply}
use Rattle.ipc_model.specs.declared.record.Record.{Record}
use Rattle.ipc_model.specs.state.State.{State}
use Rattle.store_fault.specs.declared.fault.StoreFault.{StoreFault}
use Rattle.server.proofs.Keeping.{no_time, passes_so}
use Rattle.server.proofs.Confining.{before_made, kept_makes_none, made_free, made_kept, own_before, own_makes_none, shown_free}
use Rattle.server.specs.Keeping.{AloneValue, AnswersAsked, AnswersKept, BreaksKept, FailsAsked, IsHeld, RestsKept}
use Rattle.store_layout.specs.Gates.{StandForState}
use Rattle.frame_service.specs.Confining.{attach_to, is_attach}
use Rattle.frame_service.specs.Serving.{Answers, AnswersMessage, AnswersRequest, Exchanges, FailsMessage, FailsRequest, IsAnswered, IsFailed, StepOrShortage, plain_shortage_of, shortage_of}
use Rattle.server.specs.Crashing.{IsStoredFrame, IsStoredWhole, Makes, MakesAll, MakesMessage, MakesRequest, StandsWithin, AreOf, calls_of, given}
use Rattle.ipc_model.specs.world.World.{record_of}

run_append : (old mid new : State) (records more : List Record) → Run old records mid → Run mid more new
    → Run old (records ++ more) new
run_append old mid new [] more so_far run = subst (λ (s : State). Run s more new) so_far run
run_append old mid new (first ∷ records) more so_far run =
    (so_far.0, so_far.1, run_append so_far.0 mid new records more so_far.2 run)

take_after : (records more : List Record) (k : ℕ) → take (length records + k) (records ++ more) ≡ records ++ take k more
take_after [] more k = let at : 0 + k ≡ k = omega arith in ap (λ (n : ℕ). take n more) at
take_after (first ∷ records) more k =
    let at : suc (length records) + k ≡ suc (length records + k) = omega arith in
    ap (λ (n : ℕ). take n (first ∷ records ++ more)) at ∙ ap
    (λ (l : List Record). first ∷ l) (take_after records more k)

-- records after those that slots stand within, and before them
in_front : (old : State) (records more : List Record) (c : Slots) → StandsWithin old records c
    → StandsWithin old (records ++ more) c
in_front old records more c w = record {
  first = w.first;
  within = omega (arith, w.within, length-append records more);
  state = w.state;
  run = subst (λ (l : List Record). Run old l w.state) (sym (take-append-le w.first records more w.within)) w.run;
  stands = w.stands;
}

beyond : (old mid : State) (records more : List Record) (c : Slots) → Run old records mid → StandsWithin mid more c
    → StandsWithin old (records ++ more) c
beyond old mid records more c run w = record {
  first = length records + w.first;
  within = omega (arith, w.within, length-append records more);
  state = w.state;
  run =
      subst (λ (l : List Record). Run old l w.state) (sym (take_after records more w.first))
      (run_append old mid w.state records (take w.first more) run w.run);
  stands = w.stands;
}

at_first : (old : State) (records : List Record) (c : Slots) → StandForState old c → StandsWithin old records c
at_first old records c stands = record { first = 0; within = omega arith; state = old; run = refl; stands = stands }

passes_join : (old mid new : View) (P Q R : Slots → Type 0) → Passes old mid P → Passes mid new Q
    → ((c : Slots) → P c → R c) → ((c : Slots) → Q c → R c) → Passes old new R
passes_join old mid new P Q R first second f g = record {
  later = omega (arith, first.later, second.later);
  past = λ k c early. (
    λ left. (first.past k c early).0 ((second.past k c (omega (arith, early, first.later))).0 left),
    λ left. (second.past k c (omega (arith, early, first.later))).1 ((first.past k c early).1 left),
  );
  since = λ k c late until left. elim (cases_lt mid.moment k) [
    | inl later ↦ g c (second.since k c later until left)
    | inr now ↦ f c (first.since k c late now ((second.past k c now).0 left))
  ];
}

-- what a crash since then leaves, if a crash then would have left this state
pub left_within : (old new : View) (state : State) (P : Slots → Type 0) → IsHeld old state → Passes old new P
    → ((c : Slots) → StandForState state c → P c) → (c : Slots) → LeftSince new old.moment c → P c
left_within old new state P held time here c left = elim (cases_lt old.moment left.0) [
  | inl later ↦ time.since left.0 c later left.2 left.3
  | inr now ↦ here c (held c (subst
      (λ k. old.left_at k c) (now_is left.0 old.moment now left.1) ((time.past left.0 c now).0 left.3)))
]
  where
    now_is : (k m : ℕ) → k ≤ m → m ≤ k → k ≡ m
    now_is k m a b = omega (arith, a, b)

plain_unrecorded : (c : PlainCall) → plain.has_record c (plain_shortage_of c) ≡ false
plain_unrecorded (call.Send message) = refl
plain_unrecorded (call.Receive limit true name waited) = refl
plain_unrecorded (call.Receive limit false name waited) = refl
plain_unrecorded c = refl

unrecorded_shortage : (c : Call) → has_record c (shortage_of c) ≡ false
unrecorded_shortage (Plain c) = plain_unrecorded c
unrecorded_shortage (Numbered numbered) = refl
unrecorded_shortage Unnumberable = refl

-- a call with a record is a step
recorded_step : (old : State) (space : ℕ) (c : Call) (answer : Reply) (new : State)
    → StepOrShortage old space c answer new → has_record c answer ≡ true → Step old space c answer new
recorded_step old space c answer new (inl step) recorded = step
recorded_step old space c answer new (inr shortage) recorded =
    absurd (cc (sym recorded ∙ ap (has_record c) shortage.0 ∙ unrecorded_shortage c))

-- What a call made, and what it left at each moment and at its end.
record Reach {D : Type 0} (view : D → View) (old : AloneValue D) (records : List Record)
    (new : AloneValue D) : Type 0 where
  held : IsHeld (view new.store.disk) new.kernel
  run : Run old.kernel records new.kernel
  time : Passes (view old.store.disk) (view new.store.disk) (StandsWithin old.kernel records)

module _ {D : Type 0} (honest : Type 0) (view : D → View) where
  joined : (old mid new : AloneValue D) (records more : List Record) → Reach view old records mid
      → Reach view mid more new → Reach view old (records ++ more) new
  joined old mid new records more first second = record {
    held = second.held;
    run = run_append old.kernel mid.kernel new.kernel records more first.run second.run;
    time =
        passes_join (view old.store.disk) (view mid.store.disk) (view new.store.disk) _ _ _ first.time second.time
        (in_front old.kernel records more) (λ c. beyond old.kernel mid.kernel records more c first.run);
  }

  same_reach : (old new : AloneValue D) → IsHeld (view old.store.disk) old.kernel → new ≡ old → Reach view old [] new
  same_reach old new held same = subst (λ (a : AloneValue D). Reach view old [] a) (sym same) (record {
    held = held;
    run = refl;
    time = no_time view old.store.disk old.store.disk _ refl;
  })

  -- one call
  call_reach : (old : AloneValue D) (c : Call) (answer : Reply) (new : AloneValue D) → honest
      → IsHeld (view old.store.disk) old.kernel → AnswersKept honest view old c answer new
      → Reach view old (record_of old.space c answer) new
  call_reach old c answer new is_honest held answered = by (has_record c answer) refl
    where
      by : (b : Bool) → has_record c answer ≡ b
          → Reach view old (if b then (record { space = old.space; call = c; reply = answer }) ∷ [] else []) new
      by true recorded =
          let run : Run old.kernel ((record { space = old.space; call = c; reply = answer }) ∷ []) new.kernel =
          (new.kernel, inl (recorded_step old.kernel old.space c answer new.kernel answered.stored.0 recorded), refl) in
          record {
            held = answered.held is_honest;
            run = run;
            time =
                passes_so (view old.store.disk) (view new.store.disk) _ _ (answered.passes is_honest)
                (λ s stands. elim stands [
                  | inl before ↦ at_first old.kernel _ s before
                  | inr after ↦ record {
                    first = 1;
                    within = omega arith;
                    state = new.kernel;
                    run = run;
                    stands =
                        after.3;
                  }
                ]);
          }
      by false unrecorded =
          let moved = answered.unrecorded unrecorded in
          record {
            held = answered.held is_honest;
            run = ap (λ (a : AloneValue D). a.kernel) moved;
            time = no_time view old.store.disk new.store.disk _ (ap (λ (a : AloneValue D). a.store.disk) moved);
          }

  -- one call, as it is made of what is asked for
  one_reach : (old : AloneValue D) (c : Call) (answer : Reply) (new : AloneValue D) → honest
      → IsHeld (view old.store.disk) old.kernel → AnswersAsked honest view old (request.One c) answer new
      → Reach view old (record_of old.space c answer) new
  one_reach old c answer new is_honest held (said, kept, is) = by (old.confined && is_attach c) refl
    where
      by : (b : Bool) → (old.confined && is_attach c) ≡ b → Reach view old (record_of old.space c answer) new
      by true own =
          subst (λ (l : List Record). Reach view old l new)
          (own_makes_none old.space said ∙ sym (kept_makes_none old.confined old.space c answer own))
          (call_reach old (attach_to old.space) said new is_honest held
          (subst (λ (k : Call). AnswersKept honest view old k said new) (made_kept old.confined old.space c own) kept))
      by false free =
          subst (λ (r : Reply). Reach view old (record_of old.space c r) new)
          (sym (is ∙ shown_free old.confined c said free))
          (call_reach old c said new is_honest held
          (subst (λ (k : Call). AnswersKept honest view old k said new) (made_free old.confined old.space c free) kept))

  confine_reach : (old : AloneValue D) (answer : Reply) (new : AloneValue D) → honest
      → IsHeld (view old.store.disk) old.kernel → AnswersAsked honest view old request.Confine answer new
      → Reach view old [] new
  confine_reach old answer new is_honest held (said, mid, kept, is, after) =
      let here =
      subst (λ (l : List Record). Reach view old l mid) (own_makes_none old.space said)
      (call_reach old (attach_to old.space) said mid is_honest held kept) in
      subst (λ (a : AloneValue D). Reach view old [] a) (sym after)
      (record { held = here.held; run = here.run; time = here.time })

  -- time in which no call is made
  rest_reach : (old new : AloneValue D) → honest → IsHeld (view old.store.disk) old.kernel
      → RestsKept honest view old new → Reach view old [] new
  rest_reach old new is_honest held rested = record {
    held = rested.held is_honest;
    run = ap (λ (a : AloneValue D). a.kernel) rested.same;
    time = passes_so (view old.store.disk) (view new.store.disk) _ _ (rested.passes is_honest) (at_first old.kernel []);
  }

  -- what became of a frame
  record Made (P : AloneValue D → List Record → Type 0) (old new : AloneValue D) : Type 0 where
    records : List Record
    made : P new records
    reach : Reach view old records new

  message_made : (send receive : Option Call) (old : AloneValue D) (answer : Reply) (new : AloneValue D) → honest
      → IsHeld (view old.store.disk) old.kernel → AnswersMessage (AnswersAsked honest view) old send receive answer new
      → Made (λ n. MakesMessage (AnswersAsked honest view) old send receive answer n) old new
  message_made None None old answer new is_honest held (said, same) =
      record { records = []; made = (said, same, refl); reach = same_reach old new held same }
  message_made (Some send) None old answer new is_honest held answered =
      record {
        records = record_of old.space send answer;
        made = (answered, refl);
        reach = one_reach old send answer new is_honest held answered;
      }
  message_made None (Some receive) old answer new is_honest held answered =
      record {
        records = record_of old.space receive answer;
        made = (answered, refl);
        reach = one_reach old receive answer new is_honest held answered;
      }
  message_made (Some send) (Some receive) old answer new is_honest held (sent, mid, first, second) =
      by (succeeded sent) refl second
    where
      reach : Reach view old (record_of old.space send sent) mid
      reach = one_reach old send sent mid is_honest held first

      by : (b : Bool) → succeeded sent ≡ b
          → MatchBool b (AnswersAsked honest view mid (request.One receive) answer new) ((answer ≡ sent) × (new ≡ mid))
          → Made (λ n. MakesMessage (AnswersAsked honest view) old (Some send) (Some receive) answer n) old new
      by true is done = record {
        records = record_of old.space send sent ++ record_of mid.space receive answer;
        made = (
          sent,
          mid,
          first,
          subst (λ (b : Bool). MatchBool b
              (AnswersAsked honest view mid (request.One receive) answer new
              × (record_of old.space send sent ++ record_of mid.space receive answer
              ≡ record_of old.space send sent ++ record_of mid.space receive answer))
              ((answer ≡ sent) × (new ≡ mid)
              × (record_of old.space send sent ++ record_of mid.space receive answer
              ≡ record_of old.space send sent))) (sym is) (done, refl),
        );
        reach = joined old mid new _ _ reach (one_reach mid receive answer new is_honest reach.held done);
      }
      by false is done = record {
        records = record_of old.space send sent;
        made = (
          sent,
          mid,
          first,
          subst (λ (b : Bool). MatchBool b
              (AnswersAsked honest view mid (request.One receive) answer new
              × (record_of old.space send sent ≡ record_of old.space send sent
              ++ record_of mid.space receive answer))
              ((answer ≡ sent) × (new ≡ mid)
              × (record_of old.space send sent ≡ record_of old.space send sent))) (sym is)
              (done.0, done.1, refl),
        );
        reach = subst (λ (a : AloneValue D). Reach view old (record_of old.space send sent) a) (sym done.1) reach;
      }

  request_made : (asks : Request) (old : AloneValue D) (answer : Reply) (new : AloneValue D) → honest
      → IsHeld (view old.store.disk) old.kernel → AnswersRequest (AnswersAsked honest view) old asks answer new
      → Made (λ n. MakesRequest (AnswersAsked honest view) old asks answer n) old new
  request_made (request.One c) old answer new is_honest held answered =
      record {
        records = record_of old.space c answer;
        made = (answered, refl);
        reach = one_reach old c answer new is_honest held answered;
      }
  request_made (request.Message m) old answer new is_honest held answered =
      let all = message_made m.send m.receive old answer new is_honest held answered in
      record { records = all.records; made = all.made; reach = all.reach }
  request_made (request.Answered code) old answer new is_honest held (said, same) =
      record { records = []; made = (said, same, refl); reach = same_reach old new held same }
  request_made request.Confine old answer new is_honest held answered =
      record { records = []; made = (answered, refl); reach = confine_reach old answer new is_honest held answered }

  frame_made : (content : List ℕ) (old : AloneValue D) (answer : Reply) (new : AloneValue D) → honest
      → IsHeld (view old.store.disk) old.kernel → IsAnswered (AnswersAsked honest view) old content answer new
      → Made (λ n. Makes (AnswersAsked honest view) old content answer n) old new
  frame_made content old answer new is_honest held (inl (asks, asked, answered)) =
      let all = request_made asks old answer new is_honest held answered in
      record { records = all.records; made = inl (asks, asked, all.made); reach = all.reach }
  frame_made content old answer new is_honest held (inr (inl refused)) =
      record { records = []; made = inr (inl refused, refl); reach = same_reach old new held refused.2 }
  frame_made content old answer new is_honest held (inr (inr lacks)) =
      record { records = []; made = inr (inr lacks, refl); reach = same_reach old new held lacks.1 }

  all_made : (exchanges : Exchanges) (old new : AloneValue D) → honest → IsHeld (view old.store.disk) old.kernel
      → Answers (AnswersAsked honest view) (RestsKept honest view) old exchanges new
      → Made (λ n. MakesAll (AnswersAsked honest view) (RestsKept honest view) old exchanges n) old new
  all_made [] old new is_honest held same =
      record { records = []; made = (same, refl); reach = same_reach old new held same }
  all_made (exchange ∷ exchanges) old new is_honest held (mid, later, first, rested, rest) =
      let here = frame_made exchange.0 old exchange.1 mid is_honest held first in
      let between = rest_reach mid later is_honest here.reach.held rested in
      let there = all_made exchanges later new is_honest between.held rest in
      record {
        records = here.records ++ there.records;
        made = (mid, later, here.records, there.records, here.made, rested, there.made, refl);
        reach = joined old mid new _ _ here.reach (joined mid later new [] _ between there.reach);
      }

  pub stored_whole : (old : AloneValue D) (exchanges : Exchanges) (new : AloneValue D) → honest
      → IsHeld (view old.store.disk) old.kernel
      → Answers (AnswersAsked honest view) (RestsKept honest view) old exchanges new
      → IsStoredWhole honest view old exchanges new
  stored_whole old exchanges new is_honest held answered =
      let all = all_made exchanges old new is_honest held answered in
      record {
        records = all.records;
        made = all.made;
        held = all.reach.held;
        any_moment =
            left_within (view old.store.disk) (view new.store.disk) old.kernel _ held all.reach.time
            (at_first old.kernel all.records);
      }

  pub stored_frame : (old : AloneValue D) (content : List ℕ) (answer : Reply) (new : AloneValue D) → honest
      → IsHeld (view old.store.disk) old.kernel → IsAnswered (AnswersAsked honest view) old content answer new
      → IsStoredFrame honest view old content answer new
  stored_frame old content answer new is_honest held answered =
      let all = frame_made content old answer new is_honest held answered in
      record {
        records = all.records;
        made = all.made;
        held = all.reach.held;
        any_moment =
            left_within (view old.store.disk) (view new.store.disk) old.kernel _ held all.reach.time
            (at_first old.kernel all.records);
      }

  -- slots that stand for a state, or for the one after records of these calls
  abbrev Stood : List Call → AloneValue D → Slots → Type 0
  Stood calls old s = (records : List Record) × AreOf calls records × StandsWithin old.kernel records s

  stood_first : (calls : List Call) (old : AloneValue D) (s : Slots) → StandForState old.kernel s
      → Stood calls old s
  stood_first calls old s stands = ([], tt, at_first old.kernel [] s stands)

  -- one call that failed
  one_failed : (old : AloneValue D) (c : Call) (fault : StoreFault) (new : AloneValue D) → honest
      → IsHeld (view old.store.disk) old.kernel → FailsAsked honest view old (request.One c) fault new
      → Passes (view old.store.disk) (view new.store.disk) (Stood (c ∷ []) old)
  one_failed old c fault new is_honest held failed =
      passes_so (view old.store.disk) (view new.store.disk) _ _ (failed.passes is_honest)
      (λ s stands. elim (before_made old.confined old.kernel new.kernel old.space c s stands) [
        | inl before ↦ stood_first (c ∷ []) old s before
        | inr after ↦ (
          (record { space = old.space; call = c; reply = after.0 }) ∷ [],
          (inl refl, tt),
          record {
            first = 1;
            within = omega arith;
            state = new.kernel;
            run = (new.kernel, inl after.1, refl);
            stands = after.3;
          },
        )
      ])

  confine_failed : (old : AloneValue D) (fault : StoreFault) (new : AloneValue D) → honest
      → FailsAsked honest view old request.Confine fault new
      → Passes (view old.store.disk) (view new.store.disk) (Stood [] old)
  confine_failed old fault new is_honest failed =
      passes_so (view old.store.disk) (view new.store.disk) _ _ (failed.passes is_honest)
      (λ s stands. stood_first [] old s (own_before old.kernel new.kernel old.space s stands))

  any_more : (c d : Call) (records : List Record) → AreOf (c ∷ []) records → AreOf (c ∷ d ∷ []) records
  any_more c d [] all = tt
  any_more c d (r ∷ records) (inl is, rest) = (inl is, any_more c d records rest)
  any_more c d (r ∷ records) (inr none, rest) = absurd none

  any_later : (c d : Call) (records : List Record) → AreOf (d ∷ []) records → AreOf (c ∷ d ∷ []) records
  any_later c d [] all = tt
  any_later c d (r ∷ records) (any, rest) = (inr any, any_later c d records rest)

  all_both : (calls : List Call) (records more : List Record) → AreOf calls records → AreOf calls more
      → AreOf calls (records ++ more)
  all_both calls [] more first second = second
  all_both calls (r ∷ records) more (any, rest) second = (any, all_both calls records more rest second)

  record_among : (c d : Call) (space : ℕ) (answer : Reply) (b : Bool)
      → AreOf (c ∷ d ∷ []) (if b then (record { space = space; call = c; reply = answer }) ∷ [] else [])
  record_among c d space answer true = (inl refl, tt)
  record_among c d space answer false = tt

  message_failed : (send receive : Option Call) (old : AloneValue D) (fault : StoreFault) (new : AloneValue D) → honest
      → IsHeld (view old.store.disk) old.kernel
      → FailsMessage (AnswersAsked honest view) (FailsAsked honest view) old send receive fault new
      → Passes (view old.store.disk) (view new.store.disk) (Stood (given send ++ given receive) old)
  message_failed None None old fault new is_honest held failed = absurd failed
  message_failed (Some send) None old fault new is_honest held failed =
      one_failed old send fault new is_honest held failed
  message_failed None (Some receive) old fault new is_honest held failed =
      one_failed old receive fault new is_honest held failed
  message_failed (Some send) (Some receive) old fault new is_honest held (inl failed) =
      passes_so (view old.store.disk) (view new.store.disk) _ _ (one_failed old send fault new is_honest held failed)
      (λ s stood. (stood.0, any_more send receive stood.0 stood.1, stood.2))
  message_failed (Some send) (Some receive) old fault new is_honest held (inr (sent, mid, first, done, failed)) =
      let reach = one_reach old send sent mid is_honest held first in
      let made = record_of old.space send sent in
      let among = record_among send receive old.space sent (has_record send sent) in
      passes_join (view old.store.disk) (view mid.store.disk) (view new.store.disk) _ _ _ reach.time
      (one_failed mid receive fault new is_honest reach.held failed)
      (λ s w. (made, among, w))
      (λ s stood. (
        made ++ stood.0,
        all_both (send ∷ receive ∷ []) made stood.0 among
            (any_later send receive stood.0 stood.1),
        beyond old.kernel mid.kernel made stood.0 s reach.run stood.2,
      ))

  request_failed : (asks : Request) (old : AloneValue D) (fault : StoreFault) (new : AloneValue D) → honest
      → IsHeld (view old.store.disk) old.kernel
      → FailsRequest (AnswersAsked honest view) (FailsAsked honest view) old asks fault new
      → Passes (view old.store.disk) (view new.store.disk) (Stood (calls_of asks) old)
  request_failed (request.One c) old fault new is_honest held failed = one_failed old c fault new is_honest held failed
  request_failed (request.Message m) old fault new is_honest held failed =
      message_failed m.send m.receive old fault new is_honest held failed
  request_failed (request.Answered code) old fault new is_honest held failed = absurd failed
  request_failed request.Confine old fault new is_honest held failed = confine_failed old fault new is_honest failed

  pub lost_nothing : (old : AloneValue D) (content : List ℕ) (fault : StoreFault) (new : AloneValue D) → honest
      → IsHeld (view old.store.disk) old.kernel
      → IsFailed (AnswersAsked honest view) (FailsAsked honest view) old content fault new → (c : Slots)
      → LeftSince (view new.store.disk) (view old.store.disk).moment c
      → (asks : Request) × Asks content asks × Stood (calls_of asks) old c
  lost_nothing old content fault new is_honest held (asks, asked, failed) c left = (
    asks,
    asked,
    left_within (view old.store.disk) (view new.store.disk) old.kernel _ held
        (request_failed asks old fault new is_honest held failed) (stood_first (calls_of asks) old) c left,
  )

  pub broken_nothing : (old : AloneValue D) (fault : StoreFault) (new : AloneValue D) → honest
      → IsHeld (view old.store.disk) old.kernel → BreaksKept honest view old fault new
      → (c : Slots) → LeftSince (view new.store.disk) (view old.store.disk).moment c
      → StandForState old.kernel c
  broken_nothing old fault new is_honest held broken =
      left_within (view old.store.disk) (view new.store.disk) old.kernel _ held (broken.passes is_honest)
      (λ _ stands. stands)
