-- What a legal session knows of its history: its places ascend and hold its own calls, and it stays legal as others add
-- to the history.
use Rattle.std.specs.Prelude.{◌≡◌, ℕ, zero, suc, ◌+◌, ◌<◌, ◌≤◌, max, Bool, List, [], ◌∷◌, ◌++◌, length, map, Option, Some, option_map, slice_get, if◌then◌else◌, refl}
use Rattle.std.proofs.Common.{inl, inr, sym, ◌∙◌, ap, subst, arith, length-append}
use Rattle.std.proofs.lemmas.List.{append-nil, append_assoc, map-append, take-append-le}
use Rattle.ipc_model.specs.declared.call.Call.{Call}
use Rattle.ipc_model.specs.declared.reply.Reply.{Reply}
use Rattle.ipc_model.specs.declared.record.Record.{Record}
use Rattle.ipc_model.specs.calls.Step.{Steps, has_record}
use Rattle.ipc_model.specs.state.State.{State}
use Rattle.ipc_model.specs.history.History.{Session, Operation, called, redeemed, redeemed_for_another, looked, detached, IsAnswered, IsAcknowledgedUpTo, Leads, After, AfterAll, IsNew, Legal, Meet}

-- places ascend, from a least one on, and lie below a number
abbrev pub AscendWithin : ℕ → ℕ → List ℕ → Type 0
AscendWithin least end [] = least ≤ end
AscendWithin least end (place ∷ places) = (least ≤ place) × AscendWithin (place + 1) end places

ascend_further : (least end further : ℕ) (places : List ℕ) → end ≤ further → AscendWithin least end places
    → AscendWithin least further places
ascend_further least end further [] le ascend = omega (arith, le, ascend)
ascend_further least end further (place ∷ places) le ascend =
    (ascend.0, ascend_further (place + 1) end further places le ascend.1)

ascend_more : (least end further place : ℕ) (places : List ℕ) → end ≤ place → place < further
    → AscendWithin least end places → AscendWithin least further (places ++ place ∷ [])
ascend_more least end further place [] le below ascend = (omega (arith, le, ascend), omega (arith, below))
ascend_more least end further place (first ∷ places) le below ascend =
    (ascend.0, ascend_more (first + 1) end further place places le below ascend.1)

-- What holds of every legal session: it has seen a prefix of the history, no more was acknowledged to it than
-- it saw, and its places ascend among the records that it saw.
pub record IsInOrder (history : List Record) (session : Session) : Type 0 where
  pub seen : session.seen ≤ length history
  pub acknowledged : session.acknowledged ≤ session.seen
  pub places : AscendWithin 0 session.seen session.places

acknowledged_order : (history : List Record) (old : Session) (seen : ℕ) (new : Session) → old.seen ≤ new.seen
    → new.seen ≤ length history → IsAcknowledgedUpTo old seen new → IsInOrder history old → IsInOrder history new
acknowledged_order history old seen new more within acknowledged order =
    subst (IsInOrder history) (sym acknowledged.1)
    (record {
      seen = within;
      acknowledged = omega (arith, more, order.acknowledged, acknowledged.0);
      places = ascend_further 0 old.seen new.seen old.places more order.places;
    })

led_order : (base : State) (history : List Record) (old : Session) (operation : Operation) (new : Session)
    → old.seen ≤ new.seen → new.seen ≤ length history → Leads base history old operation new
    → IsInOrder history old → IsInOrder history new
led_order base history old (called c answer) new more within (inl at) order =
    subst (IsInOrder history) (sym at.after) (record {
      seen = within;
      acknowledged = omega (arith, more, order.acknowledged);
      places = ascend_more 0 old.seen new.seen at.place old.places at.unseen at.seen order.places;
    })
led_order base history old (called c answer) new more within (inr is) order =
    subst (IsInOrder history) (sym is.after)
    (record {
      seen = within;
      acknowledged = omega (arith, more, order.acknowledged);
      places = ascend_further 0 old.seen new.seen old.places more order.places;
    })
led_order base history old (redeemed seen) new more within led order =
    acknowledged_order history old seen new more within led.1 order
led_order base history old (redeemed_for_another seen) new more within led order =
    acknowledged_order history old seen new more within led order
led_order base history old looked new more within led order =
    subst (IsInOrder history) (sym led)
    (record {
      seen = within;
      acknowledged = omega (arith, more, order.acknowledged);
      places = ascend_further 0 old.seen new.seen old.places more order.places;
    })
led_order base history old detached new more within led order =
    subst (IsInOrder history) (sym led.after)
    (record {
      seen = within;
      acknowledged = omega (arith, more, order.acknowledged);
      places = ascend_further 0 old.seen new.seen old.places more order.places;
    })

lived_order : (base : State) (history : List Record) (old : Session) (operations : List Operation) (new : Session)
    → AfterAll base history old operations new → IsInOrder history old → IsInOrder history new
lived_order base history old [] new after order = subst (IsInOrder history) (sym after) order
lived_order base history old (operation ∷ operations) new (mid, after, rest) order =
    lived_order base history mid operations new rest
    (led_order base history old operation mid after.more after.within after.leads order)

new_order : (history : List Record) (session : Session) → IsNew history session → IsInOrder history session
new_order history session new =
    record {
      seen = new.within;
      acknowledged = omega (arith, new.acknowledged);
      places = subst (AscendWithin 0 session.seen) (sym new.places) (omega arith);
    }

-- A legal session has seen a prefix of the history, no more was acknowledged to it than it saw, and its places ascend.
abbrev pub LegalIsInOrder : Type 0
LegalIsInOrder =
    (base : State) (history : List Record) (operations : List Operation) (session : Session)
    → Legal base history operations session → IsInOrder history session

pub legal_is_in_order : LegalIsInOrder
legal_is_in_order base history operations session legal =
    lived_order base history legal.start operations session legal.after (new_order history legal.start legal.new)

-- A session reads its own writes: each answer without a record is from a state after all records of its session, and
-- after all that was acknowledged to its session.
abbrev pub ReadsOwnWrites : Type 0
ReadsOwnWrites =
    (base : State) (history : List Record) (operations : List Operation) (old : Session) (c : Call) (answer : Reply)
    (new : Session) → Legal base history operations old
    → (answered : IsAnswered base history old c answer new) → AscendWithin 0 answered.beginning old.places
    × (old.acknowledged ≤ answered.beginning)

pub reads_own_writes : ReadsOwnWrites
reads_own_writes base history operations old c answer new legal answered =
    let order = legal_is_in_order base history operations old legal in (
      ascend_further 0 old.seen answered.beginning old.places answered.unseen order.places,
      omega (arith, answered.unseen, order.acknowledged),
    )

-- the calls with records among a session's operations
abbrev pub recorded_calls : List Operation → List (Call × Reply)
recorded_calls [] = []
recorded_calls (called c answer ∷ operations) =
    if has_record c answer then (c, answer) ∷ recorded_calls operations else recorded_calls operations
recorded_calls (redeemed seen ∷ operations) = recorded_calls operations
recorded_calls (redeemed_for_another seen ∷ operations) = recorded_calls operations
recorded_calls (looked ∷ operations) = recorded_calls operations
recorded_calls (detached ∷ operations) = recorded_calls operations

-- the call and reply that stand at a place
abbrev pub call_at : List Record → ℕ → Option (Call × Reply)
call_at history place = option_map (λ (entry : Record). (entry.call, entry.reply)) (slice_get history place)

abbrev some_calls : List (Call × Reply) → List (Option (Call × Reply))
some_calls calls = map (λ (c : Call × Reply). Some c) calls

-- what a session's life adds to its places
lived_calls : (base : State) (history : List Record) (old : Session) (operations : List Operation) (new : Session)
    → AfterAll base history old operations new
    → map (call_at history) new.places ≡ map (call_at history) old.places ++ some_calls (recorded_calls operations)
lived_calls base history old [] new after =
    ap (λ (s : Session). map (call_at history) s.places) after ∙ sym (append-nil (map (call_at history) old.places))
lived_calls base history old (called c answer ∷ operations) new (mid, after, rest) =
    let later : map (call_at history) new.places ≡ map (call_at history) mid.places
    ++ some_calls (recorded_calls operations) = lived_calls base history mid operations new rest in
    elim after.leads as (λ _. map (call_at history) new.places ≡ map (call_at history) old.places
    ++ some_calls (if has_record c answer then (c, answer) ∷ recorded_calls operations
    else recorded_calls operations)) [
      | inl at ↦
          let here : call_at history at.place ≡ Some (c, answer) =
          ap (λ (o : Option Record). option_map (λ (entry : Record). (entry.call, entry.reply)) o) at.there in
          let added : map (call_at history) mid.places ≡ map (call_at history) old.places ++ Some (c, answer) ∷ [] =
          ap (λ (s : Session). map (call_at history) s.places) at.after
          ∙ map-append (call_at history) old.places (at.place ∷ []) ∙ ap
          (λ (o : Option (Call × Reply)). map (call_at history) old.places ++ o ∷ []) here in
          later ∙ ap (λ (l : List (Option (Call × Reply))). l ++ some_calls (recorded_calls operations)) added
          ∙ append_assoc (map (call_at history) old.places) (Some (c, answer) ∷ [])
          (some_calls (recorded_calls operations))
          ∙ ap (λ (b : Bool). map (call_at history) old.places
          ++ some_calls (if b then (c, answer) ∷ recorded_calls operations else recorded_calls operations))
          (sym at.recorded)
      | inr is ↦
          later ∙ ap (λ (s : Session). map (call_at history) s.places ++ some_calls (recorded_calls operations))
          is.after
          ∙ ap (λ (b : Bool). map (call_at history) old.places
          ++ some_calls (if b then (c, answer) ∷ recorded_calls operations else recorded_calls operations))
          (sym is.unrecorded)
    ]
lived_calls base history old (redeemed seen ∷ operations) new (mid, after, rest) =
    lived_calls base history mid operations new rest ∙ ap
    (λ (s : Session). map (call_at history) s.places ++ some_calls (recorded_calls operations)) after.leads.1.1
lived_calls base history old (redeemed_for_another seen ∷ operations) new (mid, after, rest) =
    lived_calls base history mid operations new rest ∙ ap
    (λ (s : Session). map (call_at history) s.places ++ some_calls (recorded_calls operations)) after.leads.1
lived_calls base history old (looked ∷ operations) new (mid, after, rest) =
    lived_calls base history mid operations new rest ∙ ap
    (λ (s : Session). map (call_at history) s.places ++ some_calls (recorded_calls operations)) after.leads
lived_calls base history old (detached ∷ operations) new (mid, after, rest) =
    lived_calls base history mid operations new rest ∙ ap
    (λ (s : Session). map (call_at history) s.places ++ some_calls (recorded_calls operations)) after.leads.after

-- At a legal session's places stand its calls with records, in their order, and nothing else.
abbrev pub PlacesHoldCalls : Type 0
PlacesHoldCalls =
    (base : State) (history : List Record) (operations : List Operation) (session : Session)
    → Legal base history operations session
    → map (call_at history) session.places ≡ map (λ (c : Call × Reply). Some c) (recorded_calls operations)

pub places_hold_calls : PlacesHoldCalls
places_hold_calls base history operations session legal =
    lived_calls base history legal.start operations session legal.after ∙ ap
    (λ (places : List ℕ). map (call_at history) places ++ some_calls (recorded_calls operations)) legal.new.places

-- what stands in a list still stands there once the list is longer
there_still : (history more : List Record) (place : ℕ) (entry : Record) → slice_get history place ≡ Some entry
    → slice_get (history ++ more) place ≡ Some entry
there_still [] more place entry is = absurd (cc is)
there_still (first ∷ history) more zero entry is = is
there_still (first ∷ history) more (suc place) entry is = there_still history more place entry is

led_further : (base : State) (history more : List Record) (old : Session) (operation : Operation) (new : Session)
    → new.seen ≤ length history → Leads base history old operation new → Leads base (history ++ more) old operation new
led_further base history more old (called c answer) new within (inl at) =
    inl (record {
      recorded = at.recorded;
      place = at.place;
      unseen = at.unseen;
      there = there_still history more at.place _ at.there;
      seen = at.seen;
      after = at.after;
    })
led_further base history more old (called c answer) new within (inr is) = inr (record {
  unrecorded = is.unrecorded;
  beginning = is.beginning;
  unseen = is.unseen;
  state = is.state;
  run =
      subst (λ (l : List Record). Steps base l is.state)
      (sym (take-append-le is.beginning history more (omega (arith, is.seen, within)))) is.run;
  answered = is.answered;
  seen = is.seen;
  after = is.after;
})
led_further base history more old (redeemed seen) new within led = led
led_further base history more old (redeemed_for_another seen) new within led = led
led_further base history more old looked new within led = led
led_further base history more old detached new within led = record {
  place = led.place;
  entry = led.entry;
  there = there_still history more led.place led.entry led.there;
  destroys = led.destroys;
  seen = led.seen;
  after = led.after;
}

lived_further : (base : State) (history more : List Record) (old : Session) (operations : List Operation)
    (new : Session) → AfterAll base history old operations new → AfterAll base (history ++ more) old operations new
lived_further base history more old [] new after = after
lived_further base history more old (operation ∷ operations) new (mid, after, rest) = (
  mid,
  record {
    leads = led_further base history more old operation mid after.within after.leads;
    more = after.more;
    within = omega (arith, after.within, length-append history more);
  },
  lived_further base history more mid operations new rest,
)

-- A legal session stays legal when the history grows.
abbrev pub LegalStaysLegal : Type 0
LegalStaysLegal =
    (base : State) (history more : List Record) (operations : List Operation) (session : Session)
    → Legal base history operations session → Legal base (history ++ more) operations session

pub legal_stays_legal : LegalStaysLegal
legal_stays_legal base history more operations session legal = record {
  start = legal.start;
  new =
      record {
        space = legal.new.space;
        within = omega (arith, legal.new.within, length-append history more);
        acknowledged = legal.new.acknowledged;
        tickets = legal.new.tickets;
        places = legal.new.places;
      };
  after = lived_further base history more legal.start operations session legal.after;
}

-- one more operation
pub after_more : (base : State) (history : List Record) (old : Session) (operations : List Operation) (mid : Session)
    (operation : Operation) (new : Session) → AfterAll base history old operations mid
    → After base history mid operation new
    → AfterAll base history old (operations ++ operation ∷ []) new
after_more base history old [] mid operation new all next =
    (new, subst (λ (s : Session). After base history s operation new) all next, refl)
after_more base history old (first ∷ operations) mid operation new all next =
    (all.0, all.1, after_more base history all.0 operations mid operation new all.2 next)

seen_more : (base : State) (history : List Record) (operations : List Operation) (session after : Session) (seen : ℕ)
    → Legal base history operations session → after ≡ record session { seen = seen } → session.seen ≤ seen
    → seen ≤ length history
    → Legal base history (operations ++ looked ∷ []) after
seen_more base history operations session after seen legal is more within =
    let looks : After base history session looked (record session { seen = seen }) =
    record { leads = refl; more = more; within = within } in
    record {
      start = legal.start;
      new = legal.new;
      after = after_more base history legal.start operations session looked after legal.after
          (subst (After base history session looked) (sym is) looks);
    }

-- Two legal sessions of one history are legal after they have met.
abbrev pub MeetingIsLegal : Type 0
MeetingIsLegal =
    (base : State) (history : List Record) (first second : List Operation) (one other one_after other_after : Session)
    → Legal base history first one → Legal base history second other → Meet one other one_after other_after
    → Legal base history (first ++ looked ∷ []) one_after × Legal base history (second ++ looked ∷ []) other_after

pub meeting_is_legal : MeetingIsLegal
meeting_is_legal base history first second one other one_after other_after legal legal_too meet =
    let one_seen : one.seen ≤ length history = (legal_is_in_order base history first one legal).seen in
    let other_seen : other.seen ≤ length history = (legal_is_in_order base history second other legal_too).seen in (
      seen_more base history first one one_after (max one.seen other.seen) legal meet.one_sees (omega arith)
          (omega (arith, one_seen, other_seen)),
      seen_more base history second other other_after (max one.seen other.seen) legal_too meet.other_sees (omega arith)
          (omega (arith, one_seen, other_seen)),
    )
