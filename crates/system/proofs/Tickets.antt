-- Tickets as they are given and answered.
use Rattle.std.proofs.Common.{◌≡◌, ℕ, ◌+◌, ◌≤◌, Bool, true, false, cond, Option, None, Some, Result, Err, refl, sym, ap, subst, ◌∙◌, arith}
use Rattle.std.specs.Option.{IfNone, IfSome, IsSome, option_flatten}
use Rattle.std.specs.Ordering.{nat_cmp, eq_by_cmp}
use Rattle.std.specs.Cmp.{nat_cmp_total}
use Rattle.std.specs.FinMap as finmap
use Rattle.std.specs.FinMap.{FinMap, get-empty, get-insert, get-remove, nat_cmp-IsAntisymmetric, same_map}
use Rattle.ipc_laws.specs.MapLaws.{get-here, get-there}
use Rattle.ipc_laws.specs.MapSums.{insert-insert, key_is}
use Rattle.system.specs.Core.{TicketsValue}
use Rattle.system.specs.Halves.{TicketValue}

module _ {X : Type 0} where
  pub place_there : (m : FinMap nat_cmp X) (k : ℕ) (v : X) → IsSome (finmap.get (finmap.insert m k v) k)
  place_there m k v = subst IsSome (sym (get-here m k v)) refl

  place_gone : (m : FinMap nat_cmp X) (k : ℕ) (v : X) → finmap.get m k ≡ None
      → finmap.remove (finmap.insert m k v) k ≡ m
  place_gone m k v none = same_map nat_cmp_total nat_cmp-IsAntisymmetric _ _ (λ (q : ℕ).
      get-remove nat_cmp_total (finmap.insert m k v) k q
      ∙ elim (eq_by_cmp nat_cmp q k)
      as (λ (b : Bool). eq_by_cmp nat_cmp q k ≡ b
      → cond b None (finmap.get (finmap.insert m k v) q) ≡ finmap.get m q) [
        | true ↦ λ (e : _). sym none ∙ ap (finmap.get m) (sym (key_is q k e))
        | false ↦ λ (e : _). get-insert nat_cmp_total m k v q ∙ ap (λ (b : Bool). cond b (Some v) (finmap.get m q)) e
      ] refl)

  pub fresh_more : (m : FinMap nat_cmp X) (given : ℕ) (v : X) → ((n : ℕ) → given ≤ n → finmap.get m n ≡ None) → (n : ℕ)
      → given + 1 ≤ n → finmap.get (finmap.insert m given v) n ≡ None
  fresh_more m given v fresh n later =
      get-there m given v n (λ (same : n ≡ given). omega (arith, same)) ∙ fresh n (omega arith)

  none_left : (b : Bool) (o : Option X) → o ≡ None → cond b None o ≡ None
  none_left true o none = refl
  none_left false o none = none

  pub fresh_less : (m : FinMap nat_cmp X) (given k : ℕ) → ((n : ℕ) → given ≤ n → finmap.get m n ≡ None) → (n : ℕ)
      → given ≤ n → finmap.get (finmap.remove m k) n ≡ None
  fresh_less m given k fresh n later =
      get-remove nat_cmp_total m k n ∙ none_left (eq_by_cmp nat_cmp n k) (finmap.get m n) (fresh n later)

  pub none_fresh : (n : ℕ) → finmap.get (finmap.empty {X = X} {R = nat_cmp}) n ≡ None
  none_fresh n = get-empty nat_cmp n

-- a ticket that was kept in the place made for it
pub given_ticket : (old made new : TicketsValue) (t : TicketValue)
    → made ≡ record { kept = finmap.insert old.kept old.given None; given = old.given }
    → new ≡ record { kept = finmap.insert made.kept made.given (Some t); given = made.given + 1 }
    → new ≡ record { kept = finmap.insert old.kept old.given (Some t); given = old.given + 1 }
given_ticket old made new t is_made is_new =
    is_new ∙ ap (λ (m : TicketsValue). record { kept = finmap.insert m.kept m.given (Some t); given = m.given + 1 })
    is_made
    ∙ ap (λ (k : FinMap nat_cmp (Option TicketValue)). record { kept = k; given = old.given + 1 })
    (insert-insert old.kept old.given None (Some t))

-- a place that was made and removed again
pub dropped_place : (old made new : TicketsValue)
    → made ≡ record { kept = finmap.insert old.kept old.given None; given = old.given }
    → new ≡ record { kept = finmap.remove made.kept made.given; given = made.given }
    → finmap.get old.kept old.given ≡ None
    → new ≡ old
dropped_place old made new is_made is_new none =
    is_new ∙ ap (λ (m : TicketsValue). record { kept = finmap.remove m.kept m.given; given = m.given }) is_made
    ∙ ap (λ (k : FinMap nat_cmp (Option TicketValue)). record { kept = k; given = old.given })
    (place_gone old.kept old.given None none)

pub err_same : {T E : Type 0} (r : Result T E) (a b : E) → r ≡ Err a → r ≡ Err b → a ≡ b
err_same r a b one two = cc (one, two)

-- a place that was taken out had a ticket, if one comes from it
pub taken_there : (o : Option (Option TicketValue)) (taken : Option TicketValue) → taken ≡ option_flatten o
    → IfSome taken (λ ticket. o ≡ Some (Some ticket))
taken_there None taken is =
    subst (λ (t : Option TicketValue). IfSome t (λ ticket. None ≡ Some (Some ticket))) (sym is) tt
taken_there (Some None) taken is =
    subst (λ (t : Option TicketValue). IfSome t (λ ticket. Some None ≡ Some (Some ticket))) (sym is) tt
taken_there (Some (Some kept)) taken is =
    subst (λ (t : Option TicketValue). IfSome t (λ ticket. Some (Some kept) ≡ Some (Some ticket))) (sym is) refl

pub none_taken : (o : Option (Option TicketValue)) (taken : Option TicketValue) → taken ≡ option_flatten o
    → IfNone taken ((ticket : TicketValue) → o ≡ Some (Some ticket) → ⊥)
none_taken None taken is =
    subst (λ (t : Option TicketValue). IfNone t ((ticket : TicketValue) → None ≡ Some (Some ticket) → ⊥)) (sym is)
    (λ ticket there. cc there)
none_taken (Some None) taken is =
    subst (λ (t : Option TicketValue). IfNone t ((ticket : TicketValue) → Some None ≡ Some (Some ticket) → ⊥)) (sym is)
    (λ ticket there. cc there)
none_taken (Some (Some kept)) taken is =
    subst (λ (t : Option TicketValue). IfNone t ((ticket : TicketValue) → Some (Some kept) ≡ Some (Some ticket) → ⊥))
    (sym is) tt
