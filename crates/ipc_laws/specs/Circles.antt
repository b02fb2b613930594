-- Which receive right can't be put into a queue: that of a port to which some number of hops leads up from there.
use Rattle.std.specs.Prelude.{◌≡◌, ℕ, zero, suc, ◌<◌, ◌↔◌, Bool, true, false, ◌||◌, ◌==◌, [], Option, None, Some}
use Rattle.std.proofs.Common.{refl, subst}
use Rattle.std.specs.FinMap as finmap
use Rattle.ipc_model.specs.state.Circular.{carrier_of, meets, is_circular, Carries, Acyclic, LeadsUp, IsCircular}
use Rattle.ipc_model.specs.state.Lawful.{Lawful}
use Rattle.ipc_model.specs.state.Ipc.{Ipc}
use Rattle.ipc_laws.specs.EffectRanks.{travels_once}
use Rattle.ipc_laws.specs.LawfulLaws.{lawful_is_at_rest}
use Rattle.ipc_laws.specs.Others.{number_same}
use Rattle.ipc_laws.specs.Ranks.{carrier_carries, few_above, meets_itself, met_more, one_carrier, TravelsOnce}

leads : (state : Ipc) (hops top serial : ℕ) → meets state hops top serial ≡ true → IsCircular state top serial
leads state zero top serial met = (zero, number_same serial top met)
leads state (suc hops) top serial met =
    elim (serial == top) as (λ (b : Bool). (serial == top) ≡ b
    → (b || elim (carrier_of state serial) as (λ _. Bool)
    [ None ↦ false | Some carrier ↦ meets state hops top carrier ]) ≡ true → IsCircular state top serial) [
      | true ↦ λ (same : _) (_ : _). (zero, number_same serial top same)
      | false ↦ λ (_ : _) (later : _).
          elim (carrier_of state serial)
          as (λ (o : Option ℕ). carrier_of state serial ≡ o
          → elim o as (λ _. Bool) [ None ↦ false | Some carrier ↦ meets state hops top carrier ] ≡ true
          → IsCircular state top serial) [
            | None ↦ λ (_ : _) (e : _). absurd (cc e)
            | Some carrier ↦ λ (is : _) (e : _).
                let up = leads state hops top carrier e in
                (suc up.0, (carrier, carrier_carries state serial carrier is, up.1))
          ] refl later
    ] refl met

module _ (rank : ℕ → ℕ) (state : Ipc) (once : TravelsOnce state)
    (grows : (outer inner : ℕ) → Carries state outer inner → rank inner < rank outer) where
  -- if a port is met, so is what hops from it lead to
  climbed : (from hops top serial : ℕ) → meets state (finmap.len state.ports) serial from ≡ true
      → LeadsUp state hops top serial → meets state (finmap.len state.ports) top from ≡ true
  climbed from zero top serial met here = subst (λ (n : ℕ). meets state (finmap.len state.ports) n from ≡ true) here met
  climbed from (suc hops) top serial met (carrier, carries, up) =
      climbed from hops top carrier
      (met_more rank state grows (finmap.len state.ports) from serial carrier (few_above rank (rank from) state) met
      (one_carrier state once serial carrier carries)) up

-- In a lawful and acyclic state what is computed agrees with the definition: a receive right can't be put into a queue
-- from which a path leads up to its port, and it can be put into any other.
abbrev pub CirclesLeadUp : Type 0
CirclesLeadUp =
    (state : Ipc) (serial queue : ℕ) → Lawful state → Acyclic state
    → (is_circular state serial queue ≡ true) ↔ IsCircular state serial queue

pub circles_lead_up : CirclesLeadUp
unfolding is_circular
circles_lead_up state serial queue lawful acyclic = (
  leads state (finmap.len state.ports) serial queue,
  λ below. climbed acyclic.0 state
      (travels_once state [] ((lawful_is_at_rest state).0 lawful)) acyclic.1 queue below.0 serial queue
      (meets_itself state (finmap.len state.ports) queue) below.1,
)
