-- A message that is queued, or destroyed because it would travel in a circle, leaves a state that is lawful with the
-- effects, and acyclic.
use Rattle.std.specs.Prelude.{◌≡◌, ℕ, ◌+◌, ◌<◌, Bool, true, false, cond, ◌&&◌, ◌||◌, ◌==◌, List, [], ◌∷◌, ◌++◌, None, Some, Result, Ok, Err, IfOk, MatchResult, if◌then◌else◌, refl}
use Rattle.std.proofs.Common.{sym, ◌∙◌, ap, subst, inl, inr, arith}
use Rattle.std.proofs.lemmas.List.Elements.{All-push}
use Rattle.std.specs.List.{list_any}
use Rattle.std.specs.FinMap as finmap
use Rattle.codes.specs.declared.kern_return.KernReturn.{KernReturn}
use Rattle.codes.specs.declared.kern_return.KernReturn.TheVariants.{Success}
use Rattle.ipc_model.specs.declared.plain_call.PlainCall.TheVariants as call
use Rattle.ipc_model.specs.declared.plain_reply.PlainReply.{PlainReply}
use Rattle.ipc_model.specs.declared.message.CarriedRight.{CarriedRight}
use Rattle.ipc_model.specs.declared.message.Message.{Message}
use Rattle.ipc_model.specs.declared.message.PortInMessage.{PortInMessage}
use Rattle.ipc_model.specs.declared.message.PortInMessage.TheVariants as in_message
use Rattle.ipc_model.specs.declared.message.PortInMessage.TheVariants.{Null, Live}
use Rattle.ipc_model.specs.declared.message.RightKind.TheVariants as kind
use Rattle.ipc_model.specs.declared.port.PortState.{PortState}
use Rattle.ipc_laws.specs.CallsKeep.{Kept, kept_as}
use Rattle.ipc_model.specs.state.Circular.{Acyclic, is_circular, is_receive_right, is_port, meets}
use Rattle.ipc_model.specs.effects.Effects.{Effect, Outcome, release, releases_of, queued}
use Rattle.ipc_laws.specs.EffectRanks.{queued_edges}
use Rattle.ipc_laws.specs.EffectWeights.{releases_carry, lives_some}
use Rattle.ipc_laws.specs.EffectsKeep.{releases_wait, waiting-append}
use Rattle.ipc_laws.specs.Hands.{Hand, MidCall, empty_hand, mid_of, mid_port, kept_of_mid, mid_travels_once}
use Rattle.ipc_model.specs.state.Lawful.{LawfulPort, LawfulMessage}
use Rattle.ipc_laws.specs.LawfulLaws.{LawfulAtRest}
use Rattle.ipc_laws.specs.MapSums.{weigh, weigh-append}
use Rattle.ipc_laws.specs.Others.{number_same}
use Rattle.ipc_model.specs.state.Placed.{same_kind}
use Rattle.ipc_laws.specs.Ranks.{TravelsOnce, met_more, one_carrier, few_above, meets_itself, no_and}
use Rattle.ipc_laws.specs.ReadyKeep.{MidReady, ready_mid}
use Rattle.ipc_model.specs.messages.Receiving.{without_message}
use Rattle.ipc_model.specs.messages.Sending.{Ready, ready_to_send, sent, goes_in_circle, live_port}
use Rattle.ipc_model.specs.state.Ipc.{Ipc, Names, lives}
use Rattle.ipc_model.specs.calls.PlainStep.{ActsIn}
use Rattle.ipc_laws.specs.Takes.{own_weight}
use Rattle.ipc_laws.specs.Weights.{Weight, message_weigh, port_weigh, effect_weigh, receive_of, any_of}
use Rattle.words.specs.Words.{AreBytes}

-- Ports stay ranked when a message is queued whose receive rights make no circle: the ports above the queue are raised
-- by more than the ranks of what the message carries.

port_heavy : (ℕ → ℕ) → PortInMessage → ℕ
port_heavy rank in_message.Null = 0
port_heavy rank in_message.Dead = 0
port_heavy rank (in_message.Live serial) = rank serial + 1

abbrev heavy : (ℕ → ℕ) → List CarriedRight → ℕ
heavy rank rights = weigh (λ (r : CarriedRight). port_heavy rank r.port) rights

or_left : (b c : Bool) → (b || c) ≡ false → (b ≡ false) × (c ≡ false)
or_left true c e = absurd (cc e)
or_left false c e = (refl, e)

-- a right that is some port's receive right
receive_is : (inner : ℕ) (right : CarriedRight) → is_receive_right inner right ≡ true
    → (same_kind right.kind kind.Receive ≡ true) × (right.port ≡ in_message.Live inner)
receive_is inner right is =
    elim right.port as (λ (p : PortInMessage). (same_kind right.kind kind.Receive && is_port p inner) ≡ true
    → (same_kind right.kind kind.Receive ≡ true) × (p ≡ in_message.Live inner)) [
      | Null ↦ λ (e : _). absurd (no_and (same_kind right.kind kind.Receive) e)
      | in_message.Dead ↦ λ (e : _). absurd (no_and (same_kind right.kind kind.Receive) e)
      | Live serial ↦ λ (e : _). elim (same_kind right.kind kind.Receive)
          as (λ (b : Bool). (b && (serial == inner)) ≡ true → (b ≡ true)
          × (in_message.Live serial ≡ in_message.Live inner)) [
            | true ↦ λ (same : _). (refl, ap (λ k. in_message.Live k) (number_same serial inner same))
            | false ↦ λ (f : _). absurd (cc f)
          ] e
    ] is

-- such a right weighs no more than all together, and makes no circle if none does
record Carried (state : Ipc) (queue : ℕ) (rank : ℕ → ℕ) (rights : List CarriedRight) (inner : ℕ) : Type 0 where
  lighter : rank inner < heavy rank rights
  free : is_circular state inner queue ≡ false

carried_one : (state : Ipc) (queue : ℕ) (rank : ℕ → ℕ) (rights : List CarriedRight) (inner : ℕ)
    → list_any (is_receive_right inner) rights ≡ true → list_any (goes_in_circle state queue) rights ≡ false
    → Carried state queue rank rights inner
unfolding port_heavy
carried_one state queue rank [] inner any none = absurd (cc any)
carried_one state queue rank (right ∷ rights) inner any none =
    let both = or_left (goes_in_circle state queue right) (list_any (goes_in_circle state queue) rights) none in
    elim (is_receive_right inner right)
    as (λ (b : Bool). is_receive_right inner right ≡ b → (b || list_any (is_receive_right inner) rights) ≡ true
    → Carried state queue rank (right ∷ rights) inner) [
      | true ↦ λ (is : _) (_ : _).
          let what = receive_is inner right is in
          record {
            lighter = omega (arith, ap (port_heavy rank) what.1);
            free =
                sym (ap (λ (b : Bool). b && elim (live_port right.port) as (λ _. Bool)
                [ None ↦ false | Some serial ↦ is_circular state serial queue ]) what.0
                ∙ ap (λ (p : PortInMessage). elim (live_port p) as (λ _. Bool)
                [ None ↦ false | Some serial ↦ is_circular state serial queue ]) what.1) ∙ both.0;
          }
      | false ↦ λ (_ : _) (later : _).
          let rest = carried_one state queue rank rights inner later both.1 in
          record { lighter = omega (arith, rest.lighter); free = rest.free }
    ] refl any

raised : Ipc → (ℕ → ℕ) → ℕ → ℕ → ℕ → ℕ
raised state rank queue more x = rank x + cond (meets state (finmap.len state.ports) x queue) more 0

queued_acyclic : (state : Ipc) (queue : ℕ) (message : Message) → TravelsOnce state
    → list_any (goes_in_circle state queue) message.rights ≡ false → Acyclic state
    → Acyclic (queued state queue message)
unfolding raised is_circular
queued_acyclic state queue message once none (rank, grows) =
    let n : ℕ = finmap.len state.ports in
    let more : ℕ = heavy rank message.rights in (
      raised state rank queue more,
      λ (outer inner : ℕ) (edge : _). elim (queued_edges state queue message outer inner edge)
          as (λ _. raised state rank queue more inner < raised state rank queue more outer) [
            | inl before ↦
                elim (meets state n inner queue)
                as (λ (b : Bool). meets state n inner queue ≡ b
                → rank inner + cond b more 0 < rank outer + cond (meets state n outer queue) more 0) [
                  | true ↦ λ (met : _).
                      let above : meets state n outer queue ≡ true =
                      met_more rank state grows n queue inner outer (few_above rank (rank queue) state) met
                      (one_carrier state once inner outer before) in
                      omega (arith, grows outer inner before, ap (λ (b : Bool). cond b more 0) above)
                  | false ↦ λ (unmet : _). omega (arith, grows outer inner before)
                ] refl
            | inr new ↦
                let carried = carried_one state queue rank message.rights inner new.1 none in
                omega (
                  arith,
                  ap (raised state rank queue more) new.0,
                  ap (λ (b : Bool). cond b more 0) (meets_itself state n queue),
                  ap (λ (b : Bool). cond b more 0) carried.free,
                  carried.lighter,
                )
          ],
    )

-- A ready message is sent.

queue_live : (ready : Ready) → MidReady ready → lives ready.state ready.port ≡ true
queue_live ready is =
    elim (lives ready.state ready.port) as (λ (b : Bool). lives ready.state ready.port ≡ b → b ≡ true) [
      | true ↦ λ (_ : _). refl
      | false ↦ λ (dead : _). absurd
          (omega (arith, is.mid.in_hand ready.port dead, own_weight ready.port ready.message.destination))
    ] refl

queued_kept : (ready : Ready) → MidReady ready
    → list_any (goes_in_circle ready.state ready.port) ready.message.rights ≡ false
    → Kept (queued ready.state ready.port ready.message) ready.notices
queued_kept ready is none =
    let at = lives_some ready.state ready.port (queue_live ready is) in
    let lawful : LawfulPort at.0 = (is.mid.parts.ports ready.port at.0 at.1).2 in
    let hand : Hand = λ w. message_weigh w ready.port ready.message in
    let change : PortState → PortState = λ p. record p { messages = p.messages ++ ready.message ∷ [] } in
    let weighs : (w : Weight) → port_weigh w ready.port (change at.0)
    ≡ port_weigh w ready.port at.0 + message_weigh w ready.port ready.message =
    λ (w : Weight). omega (arith, weigh-append (message_weigh w ready.port) at.0.messages (ready.message ∷ [])) in
    let mid : MidCall (queued ready.state ready.port ready.message) empty_hand =
    mid_port ready.state ready.port change hand empty_hand (record {
      port = at.0;
      there = at.1;
      lawful =
          record {
            limit = lawful.limit;
            sequence_number = lawful.sequence_number;
            make_send_count = lawful.make_send_count;
            messages = All-push LawfulMessage at.0.messages ready.message lawful.messages is.lawful;
          };
      receives = λ (q : ℕ). omega (arith, weighs (receive_of q));
      none_dead = λ (q : ℕ) (dead : _). omega (arith, weighs (any_of q));
      set = λ (set : ℕ) (e : _). e;
      acyclic =
          queued_acyclic ready.state ready.port ready.message
          (mid_travels_once ready.state hand is.mid) none is.mid.acyclic;
    }) is.mid in
    kept_of_mid (queued ready.state ready.port ready.message) empty_hand ready.notices mid is.quiet.waits
    is.quiet.receives

circular_kept : (ready : Ready) → MidReady ready
    → Kept ready.state (ready.notices ++ (release ready.message.destination ready.port ∷ releases_of ready.message))
circular_kept ready is =
    let hand : Hand = λ w. message_weigh w ready.port ready.message in
    let rest : List Effect = release ready.message.destination ready.port ∷ releases_of ready.message in
    kept_of_mid ready.state hand (ready.notices ++ rest) is.mid
    (waiting-append ready.notices rest is.quiet.waits (tt, releases_wait ready.message))
    (λ (q : ℕ). omega (
      arith,
      weigh-append (effect_weigh (receive_of q)) ready.notices rest,
      is.quiet.receives q,
      releases_carry (receive_of q) ready.port ready.message,
    ))

abbrev sent_as : Bool → Ready → Outcome
sent_as b ready =
    if b then (ready.state, ready.notices ++ (release ready.message.destination ready.port ∷ releases_of ready.message))
    else (queued ready.state ready.port ready.message, ready.notices)

sent_kept : (ready : Ready) → MidReady ready → Kept (sent ready).0 (sent ready).1
unfolding sent
sent_kept ready is =
    let round : Bool = list_any (goes_in_circle ready.state ready.port) ready.message.rights in
    elim round as (λ (b : Bool). round ≡ b → Kept (sent_as b ready).0 (sent_as b ready).1) [
      | true ↦ λ (_ : _). circular_kept ready is
      | false ↦ λ (none : _). queued_kept ready is none
    ] refl

pub send_kept : (old : Ipc) (space : ℕ) (names : Names) (message : List ℕ) (answer : PlainReply) (new : Ipc)
    (effects : List Effect) → AreBytes message → LawfulAtRest old → Acyclic old
    → finmap.get old.spaces space ≡ Some names
    → ActsIn old space names (call.Send message) answer new effects → Kept new effects
send_kept old space names message answer new effects fits lawful acyclic there acts =
    elim (ready_to_send old space message)
    as (λ (r : Result Ready KernReturn). IfOk r MidReady
    → MatchResult r (λ (ready : Ready). (answer ≡ without_message Success 0 0) × (new ≡ (sent ready).0)
    × (effects ≡ (sent ready).1))
    (λ code. (answer ≡ without_message code 0 0) × (new ≡ old) × (effects ≡ [])) → Kept new effects) [
      | Ok ready ↦ λ (is : _) (done : _). subst
          (λ (s : Ipc). Kept s effects) (sym done.1)
          (subst (λ (l : List Effect). Kept (sent ready).0 l) (sym done.2) (sent_kept ready is))
      | Err code ↦ λ (_ : _) (refused : _). kept_as old new effects lawful acyclic refused.1 refused.2
    ] (ready_mid old space names message fits (mid_of old lawful acyclic) there) acts
