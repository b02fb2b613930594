-- A place that keeps its number.
use Rattle.std.proofs.Common.{◌≡◌, ℕ, true, nat_eq, Option, None, Some, Result, Ok, Err, is_some, refl, sym, ◌∙◌, ap}
use Rattle.std.proofs.lemmas.Bool.{eqb-true}
use Rattle.std.specs.Option.{option_eq}
use Rattle.std.specs.Prelude.{OnOk}
use Rattle.std.specs.FinMap.{get, insert}
use Rattle.ipc_laws.specs.MapSums.{insert-remove, insert-same}
use Rattle.port_indexes.specs.Places.{Numbers, key, moved, with_place}

same_number : (former number : Option ℕ) → option_eq nat_eq former number ≡ true → former ≡ number
same_number None None is = refl
same_number None (Some n) is = absurd (cc is)
same_number (Some n) None is = absurd (cc is)
same_number (Some m) (Some n) is = ap Some (eqb-true m n is)

stayed : (places : Numbers) (place : ℕ) (former number : Option ℕ) → former ≡ number
    → with_place places number place ≡ moved places place former number
stayed places place former None same = ap (λ (f : Option ℕ). moved places place f None) (sym same)
stayed places place former (Some number) same =
    sym (insert-remove places (key number place) tt) ∙ ap
    (λ (f : Option ℕ). moved places place f (Some number)) (sym same)

-- if the place has the number already, nothing changes
pub stands : (places : Numbers) (at : ℕ) → is_some (get places at) ≡ true → places ≡ insert places at tt
stands places at there = go (get places at) refl there
  where
    go : (o : Option (Unit {0})) → get places at ≡ o → is_some o ≡ true → places ≡ insert places at tt
    go None is there = absurd (cc there)
    go (Some x) is there = sym (insert-same places at tt is)

-- replacing a place's number by itself changes nothing
pub stays : {T E : Type 0} (r : Result T E) (old new : Numbers) (place : ℕ) (former number : Option ℕ)
    → option_eq nat_eq former number ≡ true → OnOk r (new ≡ with_place old number place)
    → OnOk r (new ≡ moved old place former number)
stays (Ok done) old new place former number same at =
    at ∙ stayed old place former number (same_number former number same)
stays (Err error) old new place former number same at = tt
