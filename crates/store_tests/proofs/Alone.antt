-- Messages with rights to a single port.
use Rattle.std.proofs.Common.{◌≡◌, ℕ, Bool, true, false, ◌||◌, ◌==◌, List, [], ◌∷◌, Option, Some, refl, sym, ◌∙◌, ap}
use Rattle.std.proofs.lemmas.Bool.{eqb-true}
use Rattle.std.specs.List.{list_any}
use Rattle.ipc_model.specs.declared.message.CarriedRight.{CarriedRight}
use Rattle.ipc_model.specs.declared.message.PortInMessage.TheVariants as in_message
use Rattle.ipc_model.specs.declared.message.RightKind.{RightKind}
use Rattle.ipc_model.specs.declared.message.RightKind.TheVariants as sent
use Rattle.live_ports.specs.Seen.{Ports, lives_in, reply_is_to, is_to}

pub alone_lives : (ports : Ports) (reply : Option CarriedRight) (rights : List CarriedRight) (port : ℕ)
    (kind : RightKind)
    → reply ≡ Some (record { kind = sent.SendOnce; port = in_message.Live port })
    → rights ≡ (record { kind = kind; port = in_message.Live port }) ∷ []
    → lives_in ports port ≡ true → (serial : ℕ) → (reply_is_to serial reply || list_any (is_to serial) rights) ≡ true
    → lives_in ports serial ≡ true
alone_lives ports reply rights port kind replies carries lives serial mentioned =
    let replied = ap (λ (r : Option CarriedRight). reply_is_to serial r || list_any (is_to serial) rights) replies in
    let carried = ap (λ (rs : List CarriedRight). (port == serial) || list_any (is_to serial) rs) carries in
    elim (port == serial) as (λ (b : Bool). (port == serial) ≡ b → (b || (b || false)) ≡ true
    → lives_in ports serial ≡ true) [
      | true ↦ λ (same : _) (_ : _). ap (lives_in ports) (sym (eqb-true port serial same)) ∙ lives
      | false ↦ λ (_ : _) (none : _). absurd (cc none)
    ] refl (sym (replied ∙ carried) ∙ mentioned)
