-- Worked examples of legal histories: two sessions with a record each and a read, and histories that aren't legal.
use Rattle.std.specs.Prelude.{◌≡◌, ◌≢◌, ℕ, zero, suc, ◌<◌, List, [], ◌∷◌, take, eqb, slice_index_or, refl}
use Rattle.std.specs.FinMap as finmap
use Rattle.std.specs.List.{list_any}
use Rattle.std.proofs.Common.{inl, inr, ◌∙◌, sym, ap, subst, arith}
use Rattle.codes.specs.declared.kern_return.KernReturn.TheVariants.{InvalidName, InvalidTask}
use Rattle.ipc_model.specs.declared.plain_call.PlainCall.TheVariants as call
use Rattle.ipc_model.specs.declared.reply.Reply.{Reply}
use Rattle.ipc_model.specs.declared.plain_reply.PlainReply.TheVariants as reply
use Rattle.ipc_model.specs.declared.record.Record.{Record}
use Rattle.ipc_model.specs.calls.Actions.{Done}
use Rattle.ipc_model.specs.calls.PortCalls.{tests_of}
use Rattle.ipc_model.specs.calls.PlainStep.{PlainStep, ActsFrom}
use Rattle.ipc_model.specs.calls.Step.{Step, Answer, Steps}
use Rattle.ipc_model.specs.effects.Effects.{Effect, settled}
use Rattle.ipc_model.specs.history.History.{Session, Operation, Sessions, called, redeemed, redeemed_for_another, redemption, detached, IsNew, Legal, AreAll, Meet, IsLegalHistory, space_after}
use Rattle.ipc_model.specs.declared.plain_reply.PlainReply.{PlainReply}
use Rattle.ipc_model.specs.declared.reply.Reply.TheVariants as upper
use Rattle.ipc_model.specs.state.Ipc.{Ipc, opening_ipc}
use Rattle.ipc_model.specs.state.State.{State, opening_state}
use Rattle.ipc_laws.specs.OpeningLaws.{opening_is_lawful}
use Rattle.ipc_laws.specs.NumberedSteps.{one_replayed}
use Rattle.ipc_laws.specs.RunLaws.{steps_run}
use Rattle.ipc_laws.specs.RunsKeep.{one_run}
use Rattle.ipc_rows.specs.RowRules.{rows}
use Rattle.ipc_rows.specs.RowsWorld.{allocation, first-step, one_allocated, two_allocated, second-step, unknown-refused}
use Rattle.ipc_rows.specs.RowStates.{answered, asked}
use Rattle.ipc_rows.specs.RowsNumbered.{answered_as, asked_as, kept_as, seven-step, with_seven}

abbrev pub allocated_name : ℕ → Record
allocated_name name = record { space = 1; call = allocation; reply = answered (reply.Allocate name) }

-- a new store, with an allocation of each of two sessions
abbrev pub two_records : List Record
two_records = allocated_name 0x100 ∷ allocated_name 0x101 ∷ []

abbrev pub new_session : Session
new_session = record { space = 1; seen = 0; acknowledged = 0; tickets = []; places = [] }

-- The first session allocates, asks for the type of the other's name, and gets the reply.
abbrev pub first_operations : List Operation
first_operations =
    called allocation (answered (reply.Allocate 0x100)) ∷ called (asked (call.Type 0x101)) (answered (reply.Type 0x20000)) ∷ redeemed 2 ∷ []

abbrev pub first_session : Session
first_session = record { space = 1; seen = 2; acknowledged = 2; tickets = 1 ∷ 2 ∷ []; places = 0 ∷ [] }

-- The other allocates, and gets no reply.
abbrev pub other_operations : List Operation
other_operations = called allocation (answered (reply.Allocate 0x101)) ∷ []

abbrev pub other_session : Session
other_session = record { space = 1; seen = 2; acknowledged = 0; tickets = 2 ∷ []; places = 1 ∷ [] }

pub type-answer : Answer two_allocated 1 (asked (call.Type 0x101)) (answered (reply.Type 0x20000))
unfolding Step PlainStep Done tests_of
type-answer = ((two_allocated.ipc, [], simp rows (refl, refl, refl), settled), refl)

pub two_records-steps : Steps opening_state two_records two_allocated
two_records-steps = (one_allocated, first-step, (two_allocated, second-step, refl))

new-session : IsNew two_records new_session
new-session = record { space = refl; within = omega arith; acknowledged = refl; tickets = refl; places = refl }

pub first-legal : Legal opening_state two_records first_operations first_session
first-legal = record {
  start = new_session;
  new = new-session;
  after = (
    record { space = 1; seen = 1; acknowledged = 0; tickets = 1 ∷ []; places = 0 ∷ [] },
    record {
      leads = inl (record {
        recorded = refl;
        place = 0;
        unseen = omega arith;
        there = refl;
        seen = omega arith;
        after = refl;
      });
      more = omega arith;
      within = omega arith;
    },
    (
      record { space = 1; seen = 2; acknowledged = 0; tickets = 1 ∷ 2 ∷ []; places = 0 ∷ [] },
      record {
        leads =
            inr (record {
              unrecorded = refl;
              beginning = 2;
              unseen = omega arith;
              state = two_allocated;
              run = two_records-steps;
              answered = type-answer;
              seen = omega arith;
              after = refl;
            });
        more = omega arith;
        within = omega arith;
      },
      (first_session, record { leads = (refl, (omega arith, refl)); more = omega arith; within = omega arith }, refl),
    ),
  );
}

pub other-legal : Legal opening_state two_records other_operations other_session
other-legal = record {
  start = new_session;
  new = new-session;
  after = (
    other_session,
    record {
      leads = inl (record {
        recorded = refl;
        place = 1;
        unseen = omega arith;
        there = refl;
        seen = omega arith;
        after = refl;
      });
      more = omega arith;
      within = omega arith;
    },
    refl,
  );
}

abbrev pub both : Sessions
both = (first_operations, first_session) ∷ (other_operations, other_session) ∷ []

-- two different places are different numbers
apart-two : (i j : ℕ) (d : ℕ) → i < j → j < 2 → slice_index_or (0 ∷ 1 ∷ []) i d ≢ slice_index_or (0 ∷ 1 ∷ []) j d
apart-two zero zero d below end = absurd (omega (arith, below))
apart-two zero (suc zero) d below end = λ (e : 0 ≡ 1). absurd (omega (arith, e))
apart-two zero (suc (suc j)) d below end = absurd (omega (arith, end))
apart-two (suc i) zero d below end = absurd (omega (arith, below))
apart-two (suc i) (suc j) d below end = absurd (omega (arith, below, end))

pub both-legal : IsLegalHistory opening_state two_records both
both-legal =
    record { end = two_allocated; run = two_records-steps; legal = (first-legal, (other-legal, tt)); apart = apart-two }

pub both-all : AreAll two_records (first_session ∷ other_session ∷ [])
both-all = refl

-- if one has seen less, the two have seen the same once they have met
abbrev pub sees_one : Session
sees_one = record { space = 1; seen = 1; acknowledged = 0; tickets = 1 ∷ []; places = 0 ∷ [] }

pub both-meet : Meet sees_one other_session (record sees_one { seen = 2 }) other_session
both-meet = record { one_sees = refl; other_sees = refl; apart = apart-two }

pub same_place-no_meeting : (one other : Session) → Meet first_session sees_one one other → ⊥
same_place-no_meeting one other meet = meet.apart 0 1 0 (omega arith) (omega arith) refl

-- a task that attaches itself is in that space from then on, if the call is done
pub attach-moves : (space_after 1 (asked (call.Attach 2)) (answered (reply.Done 0)) ≡ 2)
    × (space_after 1 (asked (call.Attach 2)) (answered (reply.Refused 0 InvalidTask)) ≡ 1)
attach-moves = (refl, refl)

-- Histories that aren't legal.

-- two sessions at one place
pub one_place-twice : (operations others : List Operation)
    → IsLegalHistory opening_state two_records ((operations, first_session) ∷ (others, first_session) ∷ []) → ⊥
one_place-twice operations others legal = legal.apart 0 1 0 (omega arith) (omega arith) refl

-- a place before what was seen: before its call, the session was given another's reply that saw the record
pub place-before : (session : Session)
    → Legal opening_state (allocated_name 0x100 ∷ [])
    (redeemed_for_another 1 ∷ called allocation (answered (reply.Allocate 0x100)) ∷ []) session → ⊥
place-before session legal = elim legal.after.2.1.leads as (λ _. ⊥) [
  | inl at ↦ absurd (omega (arith, legal.after.1.leads.0, at.unseen, at.seen, legal.after.2.1.within))
  | inr is ↦ absurd (cc is.unrecorded)
]

-- a call whose record stands nowhere
pub place-nowhere : (session : Session) → Legal opening_state [] (called allocation (answered (reply.Allocate 0x100)) ∷ []) session
    → ⊥
place-nowhere session legal = elim legal.after.1.leads as (λ _. ⊥) [
  | inl at ↦ absurd (omega (arith, at.seen, legal.after.1.within))
  | inr is ↦ absurd (cc is.unrecorded)
]

-- a reply that no state gives
pub no_answer : (session : Session)
    → Legal opening_state [] (called (asked (call.Type 0x200)) (answered (reply.Type 0x20000)) ∷ []) session → ⊥
no_answer session legal = elim legal.after.1.leads as (λ _. ⊥) [
  | inl at ↦ absurd (cc at.recorded)
  | inr is ↦
      let none : is.beginning ≡ 0 = omega (arith, is.seen, legal.after.1.within) in
      let at_start : Steps opening_state (take 0 []) is.state =
      subst (λ (n : ℕ). Steps opening_state (take n []) is.state) none is.run in
      let in_space : Answer is.state 1 (asked (call.Type 0x200)) (answered (reply.Type 0x20000)) =
      subst (λ (n : ℕ). Answer is.state n (asked (call.Type 0x200)) (answered (reply.Type 0x20000))) legal.new.space is.answered in
      let found : Step opening_state 1 (asked (call.Type 0x200)) (answered (reply.Type 0x20000)) is.state =
      subst (λ (s : State). Step s 1 (asked (call.Type 0x200)) (answered (reply.Type 0x20000)) is.state) at_start in_space in
      absurd (cc (unknown-refused (answered (reply.Type 0x20000)) is.state found))
]

-- an answer from an older prefix: the session allocated the name itself, and gets the reply that there is none
known-acts : (answer : PlainReply) (acted : Ipc) (effects : List Effect)
    → ActsFrom one_allocated.ipc 1 (finmap.get one_allocated.ipc.spaces 1) (call.Type 0x100) answer acted effects
    → answer ≡ reply.Type 0x20000
unfolding Done tests_of
known-acts answer acted effects = simp rows (λ (acts : _). acts.0)

known-type : (answer : Reply) (new : State) → Step one_allocated 1 (asked (call.Type 0x100)) answer new
    → answer ≡ answered (reply.Type 0x20000)
unfolding Step PlainStep
known-type (upper.Plain answer) new step = ap answered (known-acts answer step.0.0 step.0.1 step.0.2)
known-type (upper.Numbered answer) new step = absurd step
known-type (upper.Repeated answer) new step = absurd step

pub was-unknown : Answer opening_state 1 (asked (call.Type 0x100)) (answered (reply.Refused 2 InvalidName))
unfolding Step PlainStep Done tests_of
was-unknown = ((opening_ipc, [], simp rows (refl, refl, refl), settled), refl)

pub older_answer : (session : Session)
    → Legal opening_state (allocated_name 0x100 ∷ [])
    (called allocation (answered (reply.Allocate 0x100)) ∷ called (asked (call.Type 0x100)) (answered (reply.Refused 2 InvalidName)) ∷ []) session
    → ⊥
older_answer session legal = elim legal.after.1.leads as (λ _. ⊥) [
  | inr is ↦ absurd (cc is.unrecorded)
  | inl at ↦
      elim legal.after.2.1.leads as (λ _. ⊥) [
        | inl other ↦ absurd (cc other.recorded)
        | inr is ↦
            let all : is.beginning ≡ 1 = omega (arith, at.seen, is.unseen, is.seen, legal.after.2.1.within) in
            let whole : Steps opening_state (allocated_name 0x100 ∷ []) is.state =
            subst (λ (n : ℕ). Steps opening_state (take n (allocated_name 0x100 ∷ [])) is.state) all is.run in
            let one : is.state ≡ one_allocated =
            one_run opening_state (allocated_name 0x100 ∷ []) is.state one_allocated
            ((omega arith, tt), tt) opening_is_lawful.0 opening_is_lawful.1
            (steps_run opening_state is.state (allocated_name 0x100 ∷ []) whole)
            (one_allocated, inl first-step, refl) in
            let space : legal.after.0.space ≡ 1 = ap (λ (s : Session). s.space) at.after ∙ legal.new.space in
            let in_space : Answer is.state 1 (asked (call.Type 0x100)) (answered (reply.Refused 2 InvalidName)) =
            subst (λ (n : ℕ). Answer is.state n (asked (call.Type 0x100)) (answered (reply.Refused 2 InvalidName))) space is.answered
            in
            absurd (cc (known-type (answered (reply.Refused 2 InvalidName)) is.state
            (subst (λ (s : State). Step s 1 (asked (call.Type 0x100)) (answered (reply.Refused 2 InvalidName)) is.state) one
            in_space)))
      ]
]

-- it would be legal without the record that the session has seen
pub older-was_legal : Legal opening_state [] (called (asked (call.Type 0x100)) (answered (reply.Refused 2 InvalidName)) ∷ [])
    (record new_session { tickets = 0 ∷ [] })
older-was_legal = record {
  start = new_session;
  new = record { space = refl; within = omega arith; acknowledged = refl; tickets = refl; places = refl };
  after = (
    record new_session { tickets = 0 ∷ [] },
    record {
      leads =
          inr (record {
            unrecorded = refl;
            beginning = 0;
            unseen = omega arith;
            state = opening_state;
            run = refl;
            answered = was-unknown;
            seen = omega arith;
            after = refl;
          });
      more = omega arith;
      within = omega arith;
    },
    refl,
  );
}

-- more is acknowledged than there is
pub acknowledged-too_much : (session : Session) → Legal opening_state [] (redeemed_for_another 1 ∷ []) session → ⊥
acknowledged-too_much session legal = absurd (omega (arith, legal.after.1.leads.0, legal.after.1.within))

-- a ticket that no call of the session was given
pub redeemed-ungiven : (session : Session) → Legal opening_state (allocated_name 0x100 ∷ []) (redeemed 1 ∷ []) session
    → ⊥
redeemed-ungiven session legal =
    absurd (cc (sym (ap (λ (tickets : List ℕ). list_any (eqb 1) tickets) legal.new.tickets) ∙ legal.after.1.leads.0))

-- a ticket that saw this many records is the session's own if one of its calls was given such a ticket, and else
-- another's
pub redeemed-own : (redemption first_session 2 ≡ redeemed 2) × (redemption first_session 0 ≡ redeemed_for_another 0)
redeemed-own = (refl, refl)

-- a session is detached though no space was destroyed
pub detached-undestroyed : (session : Session) → Legal opening_state [] (detached ∷ []) session → ⊥
detached-undestroyed session legal = absurd (omega (arith, legal.after.1.leads.seen, legal.after.1.within))

-- a numbered call is recorded twice: asked for again it has no record
abbrev pub seven_recorded : Record
seven_recorded =
    record { space = 1; call = asked_as 7 (call.Allocate 1); reply = answered_as 7 (reply.Allocate 0x100) }

seven-recorded_again : (new : State)
    → Step with_seven 1 (asked_as 7 (call.Allocate 1)) (answered_as 7 (reply.Allocate 0x100)) new
    → answered_as 7 (reply.Allocate 0x100) ≡ upper.Repeated (kept_as 7 (reply.Allocate 0x100))
unfolding Step
seven-recorded_again new = simp rows (λ (is : _). is.0)

pub recorded_twice : (sessions : Sessions) → IsLegalHistory opening_state (seven_recorded ∷ seven_recorded ∷ []) sessions
    → ⊥
recorded_twice sessions legal =
    let first : with_seven ≡ legal.run.0 =
    one_replayed opening_state seven_recorded with_seven legal.run.0 opening_is_lawful.0 (inl seven-step)
    (inl legal.run.1) in
    absurd (cc (seven-recorded_again legal.run.2.0
    (subst (λ (s : State). Step s 1 (asked_as 7 (call.Allocate 1)) (answered_as 7 (reply.Allocate 0x100)) legal.run.2.0)
    (sym first) legal.run.2.1)))

-- an invented record: the records aren't steps
unallocated-acts : (acted : Ipc) (effects : List Effect)
    → ActsFrom opening_ipc 1 (finmap.get opening_ipc.spaces 1) (call.Deallocate 0x100) (reply.Done 7) acted effects
    → reply.Done 7 ≡ reply.Refused 7 InvalidName
unfolding Done tests_of
unallocated-acts acted effects = simp rows (λ (acts : _). acts.0)

unallocated-step : (new : State) → Step opening_state 1 (asked (call.Deallocate 0x100)) (answered (reply.Done 7)) new
    → reply.Done 7 ≡ reply.Refused 7 InvalidName
unfolding Step PlainStep
unallocated-step new step = unallocated-acts step.0.0 step.0.1 step.0.2

pub invented_record : (sessions : Sessions)
    → IsLegalHistory opening_state
    (record { space = 1; call = asked (call.Deallocate 0x100); reply = answered (reply.Done 7) } ∷ []) sessions → ⊥
invented_record sessions legal = absurd (cc (unallocated-step legal.run.0 legal.run.1))
