-- Draining a list of effects, one after another.
use Rattle.std.proofs.Common.{◌≡◌, ℕ, ◌<◌, Bool, true, cond, List, [], ◌∷◌, ◌++◌, Option, None, Some, is_some, option_map, refl, sym, ◌∙◌, ap, subst}
use Rattle.std.specs.Cmp.{nat_cmp_total}
use Rattle.std.specs.FinMap.{get, insert, get-insert}
use Rattle.ipc_laws.specs.MapSums.{same_key}
use Rattle.ipc_model.specs.declared.port.PortState.{PortState}
use Rattle.notify.specs.Passed.{numbers_of, PortNumbers}
use Rattle.ipc_model.specs.effects.Effects.{Effect, Settles, settled, next_effect, effect}
use Rattle.ipc_laws.specs.Settling.{measure, effects_lower}
use Rattle.ipc_model.specs.state.Ipc.{Ipc, lives, with_port}

module _ (state new : Ipc) (effects rest after : List Effect) (first : Effect)
    (front : effects ≡ first ∷ rest) (changed : new ≡ (effect state first).0)
    (added : after ≡ rest ++ (effect state first).1) where
  pub less_is_left : measure new after < measure state effects
  less_is_left =
      subst (λ (es : List Effect). measure new after < measure state es) (sym front)
      (subst (λ (s : Ipc). measure s after < measure state (first ∷ rest)) (sym changed)
      (subst (λ (es : List Effect). measure (effect state first).0 es < measure state (first ∷ rest)) (sym added)
      (effects_lower state first rest)))

  pub one_more : (end : Ipc) → Settles new after end → Settles state effects end
  one_more end later =
      let from : Settles (effect state first).0 (rest ++ (effect state first).1) end =
      subst (λ (es : List Effect). Settles (effect state first).0 es end) added
      (subst (λ (s : Ipc). Settles s after end) changed later) in
      subst (λ (es : List Effect). Settles state es end) (sym front) (next_effect from)

pub all_done : (state : Ipc) (effects : List Effect) → effects ≡ [] → Settles state effects state
all_done state effects none = subst (λ (es : List Effect). Settles state es state) (sym none) settled

-- a live port stays live if its numbers or parts change
pub lives_on : (state new : Ipc) (serial : ℕ) (numbers : PortNumbers) (change : PortState → PortState)
    → option_map numbers_of (get state.ports serial) ≡ Some numbers → new ≡ with_port state serial change
    → lives new serial ≡ true
lives_on state new serial numbers change there is =
    ap (λ (s : Ipc). lives s serial) is ∙ by_case (get state.ports serial) refl there
  where
    by_case : (o : Option PortState) → get state.ports serial ≡ o → option_map numbers_of o ≡ Some numbers
        → lives (with_port state serial change) serial ≡ true
    by_case None none some = absurd (cc some)
    by_case (Some port) at some =
        ap (λ (o : Option PortState). lives
        (elim o as (λ _. Ipc) [
          | None ↦ state
          | Some port ↦
              record state { ports = insert state.ports serial (change port) }
        ]) serial) at
        ∙ ap is_some (get-insert nat_cmp_total state.ports serial (change port) serial) ∙ ap
        (λ (b : Bool). is_some (cond b (Some (change port)) (get state.ports serial))) (same_key serial)
