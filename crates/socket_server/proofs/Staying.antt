-- What a confined connection keeps.
use Rattle.std.proofs.Common.{◌≡◌, ◌⊎◌, inl, inr, ℕ, Bool, true, false, Option, None, Some, refl, sym, ap, subst, ◌∙◌}
use Rattle.std.specs.Prelude.{MatchBool, if◌then◌else◌, is_some, option_map}
use Rattle.calls.specs.declared.request.Request.{Request}
use Rattle.calls.specs.declared.request.Request.TheVariants as request
use Rattle.codes.specs.declared.name.TheConstants.{NO_SPACE}
use Rattle.frame_service.proofs.Keeping.{acted_keeps}
use Rattle.frame_service.specs.Confining.{attach_to, made_of, shown}
use Rattle.frame_service.specs.declared.confining.Shown.{Shown}
use Rattle.ipc_model.specs.calls.Step.{succeeded}
use Rattle.ipc_model.specs.declared.call.Call.{Call}
use Rattle.ipc_model.specs.declared.call.Call.TheVariants.{Plain, Numbered, Unnumberable}
use Rattle.ipc_model.specs.declared.plain_call.PlainCall.TheVariants as call
use Rattle.ipc_model.specs.declared.reply.Reply.{Reply}
use Rattle.ipc_model.specs.history.History.{Operation, Session, attached_by, called, detached, looked, redeemed, redeemed_for_another, redemption, space_after}
use Rattle.ipc_model.specs.history.History as history
use Rattle.ipc_model.specs.state.State.{State}
use Rattle.keepers.specs.Destroying.{MadeSince, SettlesBy}
use Rattle.keepers.specs.Tokens.{SessionValue, Did}
use Rattle.socket_server.proofs.Showing.{confine_is_done}
use Rattle.socket_server.specs.Confining.{AnswerSaysConfined, ConfinedConnectionsStay, StaysIn, space_of}
use Rattle.socket_server.specs.Connecting.{AcknowledgesOne, AskedValue, Becomes, ConnectedValue, LacksOne, LooksOne, MakesOne, answer_of, is_confined, seen_by}
use Rattle.system.specs.Halves.{TicketValue}

-- the space of a session: the same, or none
abbrev IsOrNone : ℕ → ℕ → Type 0
IsOrNone space after = (after ≡ space) ⊎ (after ≡ NO_SPACE)

then_is : (one two three : ℕ) → IsOrNone one two → IsOrNone two three → IsOrNone one three
then_is one two three first (inr none) = inr none
then_is one two three (inl is) (inl same) = inl (same ∙ is)
then_is one two three (inr none) (inl same) = inr (same ∙ none)

-- A call of a confined connection attaches to no space but the session's, wherever it is made.
abbrev AttachesTo : ℕ → Call → Type 0
AttachesTo space c = (at : ℕ) → (attached_by at c ≡ at) ⊎ (attached_by at c ≡ space)

attaches_there : (confined : Bool) (space : ℕ) (c : Call) → confined ≡ true → AttachesTo space (made_of confined space c)
attaches_there true space (Plain (call.Attach other)) is at = inr refl
attaches_there true space (Plain c) is at = inl refl
attaches_there true space (Numbered numbered) is at = inl refl
attaches_there true space Unnumberable is at = inl refl
attaches_there false space c is at = absurd (cc is)

chosen : (P : ℕ → Type 0) (done : Bool) (one other : ℕ) → P one → P other → P (if done then one else other)
chosen P true one other first second = first
chosen P false one other first second = second

module _ (base : State) where
  called_in : (space : ℕ) (old new : SessionValue) (c : Call) (answer : Reply) → IsOrNone space old.task.space
      → AttachesTo space c → Did base old (called c answer) new → IsOrNone space new.task.space
  called_in space old new c answer there attaches did =
      elim did.after.leads as (λ _. IsOrNone space new.task.space) [
        | inl at ↦ subst (IsOrNone space) (sym (ap (λ (s : Session). s.space) at.after)) there
        | inr is ↦ subst (IsOrNone space) (sym (ap (λ (s : Session). s.space) is.after))
            (chosen (IsOrNone space) (succeeded answer) (attached_by old.task.space c) old.task.space
            (attached_in (attaches old.task.space)) there)
      ]
    where
      attached_in : (attached_by old.task.space c ≡ old.task.space) ⊎ (attached_by old.task.space c ≡ space)
          → IsOrNone space (attached_by old.task.space c)
      attached_in (inl same) = subst (IsOrNone space) (sym same) there
      attached_in (inr own) = inl own

  looked_in : (old new : SessionValue) → Did base old looked new → new.task.space ≡ old.task.space
  looked_in old new did = ap (λ (s : Session). s.space) did.after.leads

  detached_in : (old new : SessionValue) → Did base old detached new → new.task.space ≡ NO_SPACE
  detached_in old new did = ap (λ (s : Session). s.space) did.after.leads.after

  redeemed_in : (own : Bool) (seen : ℕ) (old new : SessionValue)
      → Did base old (if own then redeemed seen else redeemed_for_another seen) new
      → new.task.space ≡ old.task.space
  redeemed_in true seen old new did = ap (λ (s : Session). s.space) did.after.leads.1.1
  redeemed_in false seen old new did = ap (λ (s : Session). s.space) did.after.leads.1

  settled_in : (since : Option ℕ) (entries : _) (old settled : SessionValue)
      → SettlesBy base since entries old settled → IsOrNone old.task.space settled.task.space
  settled_in None entries old settled same = inl (ap (λ (s : SessionValue). s.task.space) same)
  settled_in (Some since) entries old settled (inl same) = inl (ap (λ (s : SessionValue). s.task.space) same.0)
  settled_in (Some since) entries old settled (inr gone) = inr (detached_in old settled gone.0)

  made_in : (since : Option ℕ) (old : SessionValue) (c : Call) (ticket : TicketValue) (new : SessionValue)
      → AttachesTo old.task.space c → MadeSince base since old c ticket new → IsOrNone old.task.space new.task.space
  made_in since old c ticket new attaches made =
      called_in old.task.space made.settled new c ticket.answer
      (settled_in since (Some made.before) old made.settled made.settles) attaches made.made.did

  -- where a connection was confined it still is, in its space or in none
  abbrev Keeps : ConnectedValue → ConnectedValue → Type 0
  Keeps old new = is_confined old ≡ true → StaysIn (space_of old) new

  same_keeps : (c : ConnectedValue) → Keeps c c
  same_keeps c confined = record { confined = confined; space_is = inl refl }

  joins_keep : (a b c : ConnectedValue) → Keeps a b → Keeps b c → Keeps a c
  joins_keep a b c first second confined =
      let mid = first confined in
      let end = second mid.confined in
      record {
        confined = end.confined;
        space_is =
            elim end.space_is as (λ _. (space_of c ≡ space_of a) ⊎ (space_of c ≡ Some NO_SPACE)) [
              | inl same ↦ elim mid.space_is as (λ _. (space_of c ≡ space_of a) ⊎ (space_of c ≡ Some NO_SPACE))
                  [ inl is ↦ inl (same ∙ is) | inr none ↦ inr (same ∙ none) ]
              | inr none ↦ inr none
            ];
      }

  stays : (old new : ConnectedValue) (one other : SessionValue) → old.session ≡ Some one → new.session ≡ Some other
      → is_confined new ≡ true → IsOrNone one.task.space other.task.space → StaysIn (space_of old) new
  stays old new one other was is confined there =
      record {
        confined = confined;
        space_is =
            elim there as (λ _. (space_of new ≡ space_of old) ⊎ (space_of new ≡ Some NO_SPACE)) [
              | inl same ↦ inl (space_at new other is ∙ ap (λ (n : ℕ). Some n) same ∙ sym (space_at old one was))
              | inr none ↦ inr (space_at new other is ∙ ap (λ (n : ℕ). Some n) none)
            ];
      }
    where
      space_at : (c : ConnectedValue) (s : SessionValue) → c.session ≡ Some s → space_of c ≡ Some s.task.space
      space_at c s at = ap (λ (o : Option SessionValue). option_map (λ (s : SessionValue). s.task.space) o) at

  becomes_in : (old new : ConnectedValue) (P : SessionValue → SessionValue → Type 0) (o p : Option SessionValue)
      → old.session ≡ o → new.session ≡ p → (is_some p ≡ true → is_confined new ≡ true)
      → ((one other : SessionValue) → P one other → IsOrNone one.task.space other.task.space)
      → Becomes P o p → StaysIn (space_of old) new
  becomes_in old new P (Some one) (Some other) was is confined there becomes =
      stays old new one other was is (confined refl) (there one other becomes)
  becomes_in old new P None p was is confined there becomes = absurd becomes
  becomes_in old new P (Some one) None was is confined there becomes = absurd becomes

  same_since : (old new : ConnectedValue) → new.since ≡ old.since → is_confined old ≡ true → is_confined new ≡ true
  same_since old new same confined = ap (λ (o : Option ℕ). is_some o) same ∙ confined

  seen_there : (new : ConnectedValue) → is_some new.session ≡ true → is_some (seen_by new) ≡ true
  seen_there new there = by new.session there
    where
      by : (o : Option SessionValue) → is_some o ≡ true
          → is_some (option_map (λ (s : SessionValue). s.task.seen) o) ≡ true
      by (Some s) there = refl
      by None there = absurd (cc there)

  making_keeps : (old : ConnectedValue) (asks : Request) (asked : AskedValue) (new : ConnectedValue)
      → MakesOne base old asks asked new → Keeps old new
  making_keeps old (request.One c) asked new made confined =
      becomes_in old new _ old.session new.session refl refl (λ _. same_since old new made.2 confined)
      (λ one other. made_in old.since one (made_of (is_confined old) one.task.space c) asked.ticket other
      (attaches_there (is_confined old) one.task.space c confined)) made.0
  making_keeps old (request.Message m) asked new made confined = absurd made
  making_keeps old (request.Answered code) asked new made confined = absurd made
  making_keeps old request.Confine asked new made confined =
      becomes_in old new _ old.session new.session refl refl
      (λ there. ap (λ (o : Option ℕ). is_some o) made.2
      ∙ by (succeeded asked.ticket.answer) (seen_by new) (seen_there new there))
      (λ one other. made_in old.since one (attach_to one.task.space) asked.ticket other (λ at. inr refl)) made.0
    where
      by : (done : Bool) (seen : Option ℕ) → is_some seen ≡ true
          → is_some (if done then seen else old.since) ≡ true
      by true seen there = there
      by false seen there = confined

  looking_keeps : (old new : ConnectedValue) → LooksOne base old new → Keeps old new
  looking_keeps old new looks confined =
      becomes_in old new _ old.session new.session refl refl (λ _. same_since old new looks.1 confined)
      (λ one other did. inl (looked_in one other did)) looks.0

  lacking_keeps : (old : ConnectedValue) (asks : Request) (new : ConnectedValue) → LacksOne base old asks new
      → Keeps old new
  lacking_keeps old asks new lacks = looking_keeps old new lacks

  acknowledging_keeps : (old : ConnectedValue) (asked : AskedValue) (new : ConnectedValue)
      → AcknowledgesOne base old asked new → Keeps old new
  acknowledging_keeps old asked new acknowledged confined =
      becomes_in old new _ old.session new.session refl refl (λ _. same_since old new acknowledged.1 confined)
      (λ one other did. inl (redeemed_in (history.has_ticket one.task asked.ticket.seen) asked.ticket.seen one other
      did)) acknowledged.0

pub confined_stay : ConfinedConnectionsStay
confined_stay base old queue acts left new confined acted =
    acted_keeps answer_of (MakesOne base) (LacksOne base) (AcknowledgesOne base) (λ old asked fault after. after ≡ old)
    (LooksOne base) (Keeps base) (same_keeps base) (joins_keep base) (making_keeps base) (lacking_keeps base)
    (acknowledging_keeps base) (looking_keeps base) old queue acts left new acted confined

-- what an answer says, by whether it is code 0
abbrev Says : ConnectedValue → ConnectedValue → Bool → Type 0
Says old new b = MatchBool b (StaysIn (space_of old) new × (new.since ≡ seen_by new)) (new.since ≡ old.since)

pub says_confined : AnswerSaysConfined
says_confined base old asked new made = by (succeeded asked.ticket.answer) refl
  where
    said : succeeded (answer_of asked) ≡ succeeded asked.ticket.answer
    said =
        ap (λ (how : Shown). succeeded (shown how asked.ticket.answer)) made.1 ∙ confine_is_done asked.ticket.answer

    chose : (b : Bool) → succeeded asked.ticket.answer ≡ b → new.since ≡ (if b then seen_by new else old.since)
    chose b is = made.2 ∙ ap (λ (b : Bool). if b then seen_by new else old.since) is

    by : (b : Bool) → succeeded asked.ticket.answer ≡ b → Says old new (succeeded (answer_of asked))
    by true is =
        subst (Says old new) (sym (said ∙ is)) (
          becomes_in base old new _ old.session new.session refl refl
              (λ there. ap (λ (o : Option ℕ). is_some o) (chose true is) ∙ seen_there base new there)
              (λ one other. made_in base old.since one (attach_to one.task.space) asked.ticket other (λ at. inr refl))
              made.0,
          chose true is,
        )
    by false is = subst (Says old new) (sym (said ∙ is)) (chose false is)
