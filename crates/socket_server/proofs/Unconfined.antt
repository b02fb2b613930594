-- Calls that are made as they were asked for.
use Rattle.std.proofs.Common.{◌≡◌, ℕ, Bool, false, ◌&&◌, Option, Result, Ok, Err, IfOk, ap, subst, sym}
use Rattle.std.specs.Prelude.{IfSome, if◌then◌else◌}
use Rattle.std.specs.Result.{result_ok}
use Rattle.frame_service.specs.Confining.{attach_to, is_attach, made_of}
use Rattle.ipc_model.specs.declared.call.Call.{Call}
use Rattle.ipc_model.specs.state.State.{State}
use Rattle.keepers.specs.Destroying.{MadeSince}
use Rattle.keepers.specs.Tokens.{SessionValue}
use Rattle.system.specs.Halves.{TicketValue}

pub made_free : (confined : Bool) (space : ℕ) (c : Call) → (confined && is_attach c) ≡ false
    → made_of confined space c ≡ c
made_free confined space c is = ap (λ (b : Bool). if b then attach_to space else c) is

pub some_made : {E : Type 0} (base : State) (since : Option ℕ) (old new : SessionValue) (c k : Call)
    (r : Result TicketValue E) (o : Option TicketValue) → o ≡ result_ok r → k ≡ c
    → IfOk r (λ ticket. MadeSince base since old c ticket new) → IfSome o (λ ticket. MadeSince base since old k ticket new)
some_made {E} base since old new c k r o is same made =
    subst (λ (p : Option TicketValue). IfSome p (λ ticket. MadeSince base since old k ticket new)) (sym is) (of r made)
  where
    of : (r : Result TicketValue E) → IfOk r (λ ticket. MadeSince base since old c ticket new)
        → IfSome (result_ok r) (λ ticket. MadeSince base since old k ticket new)
    of (Ok ticket) made = subst (λ (d : Call). MadeSince base since old d ticket new) (sym same) made
    of (Err fault) made = tt
