-- The effects of a port's death, step by step.
use Rattle.std.proofs.Common.{◌≡◌, ◌==◌, ℕ, Bool, true, false, cond, not, List, [], ◌∷◌, ◌++◌, Option, None, Some, Result, Ok, Err, OnOk, flat_map, refl, sym, ◌∙◌, ap, append_assoc}
use Rattle.std.specs.FinMap.{get, insert}
use Rattle.ipc_model.specs.declared.message.Message.{Message}
use Rattle.ipc_model.specs.declared.message.RightKind.TheVariants as kind
use Rattle.ipc_model.specs.declared.port.PortState.{PortState}
use Rattle.ipc_model.specs.effects.Effects.{Effect, dead_name_notices, effects_of_death, notified, release_of_target, released_if_live, releases_of, notified_no_senders}
use Rattle.ipc_model.specs.messages.Notices.{notice_message}
use Rattle.ipc_model.specs.messages.Notices as notice
use Rattle.ipc_model.specs.state.Placed.{send_count}
use Rattle.ipc_model.specs.state.Ipc.{Ipc}

abbrev messages_of : Option PortState → List Message
messages_of o = elim o as (λ _. List Message) [ None ↦ [] | Some port ↦ port.messages ]

pub all_released : {T E : Type 0} (r : Result T E) (state : Ipc) (serial : ℕ) (target : Option ℕ)
    (old first second new : List Effect) → first ≡ old ++ flat_map releases_of (messages_of (get state.ports serial))
    → second ≡ first ++ dead_name_notices state serial → OnOk r (new ≡ second ++ release_of_target target)
    → OnOk r ((port : PortState) → get state.ports serial ≡ Some port → port.no_senders_target ≡ target
    → new ≡ old ++ effects_of_death state serial port)
all_released (Err e) state serial target old first second new released sent last = tt
all_released (Ok v) state serial target old first second new released sent last = λ port at same.
    let rights : List Effect = flat_map releases_of port.messages in
    let dead = dead_name_notices state serial in
    let rest = release_of_target port.no_senders_target in
    let one : first ≡ old ++ rights =
    released ∙ ap (λ (o : Option PortState). old ++ flat_map releases_of (messages_of o)) at in
    last ∙ (ap (λ (t : Option ℕ). second ++ release_of_target t) (sym same)
    ∙ (ap (λ (l : List Effect). l ++ rest) (sent ∙ ap (λ (l : List Effect). l ++ dead) one)
    ∙ (append_assoc (old ++ rights) dead rest ∙ append_assoc old rights (dead ++ rest))))

-- the notice of a released send-once right is dropped if the port is dead
notified_is_released : (state : Ipc) (serial : ℕ)
    → notified state serial notice.SendOnce ≡ (released_if_live state serial kind.SendOnce (get state.ports serial)).0
notified_is_released state serial = by_case (get state.ports serial) refl
  where
    queued_in : Option PortState → Ipc
    queued_in o = elim o as (λ _. Ipc) [
      | None ↦ state
      | Some port ↦ record state {
        ports = insert state.ports serial
            (record port { messages = port.messages ++ notice_message notice.SendOnce ∷ [] });
      }
    ]

    by_case : (o : Option PortState) → get state.ports serial ≡ o
        → notified state serial notice.SendOnce ≡ (released_if_live state serial kind.SendOnce o).0
    by_case None none = ap queued_in none
    by_case (Some port) at = refl

pub notified_once : {T E : Type 0} (r : Result T E) (state new : Ipc) (serial : ℕ)
    → OnOk r (new ≡ notified state serial notice.SendOnce)
    → OnOk r (new ≡ (released_if_live state serial kind.SendOnce (get state.ports serial)).0)
notified_once (Err e) state new serial sent = tt
notified_once (Ok v) state new serial sent = sent ∙ notified_is_released state serial

-- while send rights exist, no notice is sent
pub senders_left : (state : Ipc) (serial : ℕ) (o : Option PortState) → not (send_count state serial == 0) ≡ true
    → state ≡ (released_if_live state serial kind.Send o).0
senders_left state serial None left = refl
senders_left state serial (Some port) left =
    elim (send_count state serial == 0)
    as (λ (b : Bool). not b ≡ true
    → state ≡ cond b (notified_no_senders state serial port port.no_senders_target) state)
    [ true ↦ λ (e : _). absurd (cc e) | false ↦ λ (_ : _). refl ] left
