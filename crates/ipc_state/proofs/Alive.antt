-- Messages whose rights are to live ports.
use Rattle.std.proofs.Common.{◌≡◌, ℕ, Bool, true, false, ◌&&◌, ◌||◌, List, [], ◌∷◌, Option, None, Some, refl, sym, ◌∙◌, ap}
use Rattle.std.proofs.lemmas.Bool.{eqb-true}
use Rattle.std.specs.List.{list_all, list_any}
use Rattle.ipc_model.specs.declared.message.CarriedRight.{CarriedRight}
use Rattle.ipc_model.specs.declared.message.Message.{Message}
use Rattle.ipc_model.specs.declared.message.PortInMessage.{PortInMessage}
use Rattle.ipc_model.specs.declared.message.PortInMessage.TheVariants as in_message
use Rattle.ipc_model.specs.state.Circular.{is_port}
use Rattle.ipc_model.specs.state.Ipc.{Ipc, lives}
use Rattle.ipc_state.specs.Live.{carries_live, is_live, is_live_port, is_live_reply}
use Rattle.ports.specs.Passed.{Ports, AreLive, lives_in, reply_is_to, is_to}

both : (a b : Bool) → (a && b) ≡ true → (a ≡ true) × (b ≡ true)
both true b e = (refl, e)
both false b e = absurd (cc e)

module _ (state : Ipc) (serial : ℕ) where
  port_lives : (port : PortInMessage) → is_live_port state port ≡ true → is_port port serial ≡ true
      → lives state serial ≡ true
  port_lives in_message.Null live is = absurd (cc is)
  port_lives in_message.Dead live is = absurd (cc is)
  port_lives (in_message.Live port) live is = ap (lives state) (sym (eqb-true port serial is)) ∙ live

  any_lives : (rights : List CarriedRight) → list_all (is_live state) rights ≡ true
      → list_any (is_to serial) rights ≡ true → lives state serial ≡ true
  any_lives [] live is = absurd (cc is)
  any_lives (r ∷ rights) live is =
      let parts = both (is_live state r) (list_all (is_live state) rights) live in
      elim (is_to serial r) as (λ (b : Bool). is_to serial r ≡ b → (b || list_any (is_to serial) rights) ≡ true
      → lives state serial ≡ true) [
        | true ↦ λ (here : _) (_ : _). port_lives r.port parts.0 here
        | false ↦ λ (_ : _) (there : _). any_lives rights parts.1 there
      ] refl is

  reply_lives : (reply : Option CarriedRight) → is_live_reply state reply ≡ true → reply_is_to serial reply ≡ true
      → lives state serial ≡ true
  reply_lives None live is = absurd (cc is)
  reply_lives (Some r) live is = port_lives r.port live is

pub carried_alive : (ports : Ports) (state : Ipc) (message : Message) → state.ports ≡ ports
    → carries_live state message ≡ true → AreLive ports message
carried_alive ports state message same live = λ serial mentioned.
    let parts = both (is_live_reply state message.reply) (list_all (is_live state) message.rights) live in
    ap (λ (p : Ports). lives_in p serial) (sym same)
    ∙ elim (reply_is_to serial message.reply)
    as (λ (b : Bool). reply_is_to serial message.reply ≡ b → (b || list_any (is_to serial) message.rights) ≡ true
    → lives state serial ≡ true) [
      | true ↦ λ (here : _) (_ : _). reply_lives state serial message.reply parts.0 here
      | false ↦ λ (_ : _) (there : _). any_lives state serial message.rights parts.1 there
    ] refl mentioned
