-- One hop on the way up, from a port to the one whose queue carries its receive right.
use Rattle.std.proofs.Common.{◌≡◌, ℕ, suc, Bool, true, false, ◌==◌, ◌||◌, Option, None, Some, refl, sym, ◌∙◌, ap, subst}
use Rattle.ipc_model.specs.state.Circular.{carrier_of, meets}
use Rattle.ipc_laws.specs.Ranks.{meets_itself}
use Rattle.ipc_model.specs.state.Ipc.{Ipc}

module _ (state : Ipc) (port : ℕ) where
  abbrev climb : ℕ → Option ℕ → Bool
  climb hops None = false
  climb hops (Some carrier) = meets state hops port carrier

  one_hop : (hops at : ℕ) → meets state (suc hops) port at ≡ ((at == port) || climb hops (carrier_of state at))
  one_hop hops at = refl

  pub arrived : (hops at : ℕ) → at ≡ port → meets state hops port at ≡ true
  arrived hops at e = subst (λ (p : ℕ). meets state hops port p ≡ true) (sym e) (meets_itself state hops port)

  pub goes_on : (hops at : ℕ) (carried : Option ℕ) → (at == port) ≡ false → carrier_of state at ≡ carried
      → meets state (suc hops) port at ≡ climb hops carried
  goes_on hops at carried apart is =
      one_hop hops at ∙ ap (λ (b : Bool). b || climb hops (carrier_of state at)) apart ∙ ap (climb hops) is
