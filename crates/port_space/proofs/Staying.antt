-- A name that keeps a right of the same port.
use Rattle.std.proofs.Common.{◌≡◌, ℕ, true, nat_eq, Option, None, Some, Result, Ok, Err, is_some, refl, sym, ◌∙◌, ap}
use Rattle.std.proofs.lemmas.Bool.{eqb-true}
use Rattle.std.specs.FinMap.{get, insert}
use Rattle.std.specs.Option.{option_eq}
use Rattle.std.specs.Prelude.{OnOk}
use Rattle.ipc_laws.specs.MapSums.{insert-remove, insert-same}
use Rattle.port_space.specs.Alongside.{Numbers, port_key, with_port, without_port}

same_port : (former port : Option ℕ) → option_eq nat_eq former port ≡ true → former ≡ port
same_port None None is = refl
same_port None (Some n) is = absurd (cc is)
same_port (Some n) None is = absurd (cc is)
same_port (Some m) (Some n) is = ap Some (eqb-true m n is)

stayed : (numbers : Numbers) (name : ℕ) (former port : Option ℕ) → former ≡ port
    → with_port numbers port name ≡ with_port (without_port numbers former name) port name
stayed numbers name former None same = ap (λ (f : Option ℕ). without_port numbers f name) (sym same)
stayed numbers name former (Some port) same =
    sym (insert-remove numbers (port_key port name) tt) ∙ ap
    (λ (f : Option ℕ). with_port (without_port numbers f name) (Some port) name) (sym same)

-- inserting a present key changes nothing
pub stands : (numbers : Numbers) (at : ℕ) → is_some (get numbers at) ≡ true → numbers ≡ insert numbers at tt
stands numbers at there = go (get numbers at) refl there
  where
    go : (o : Option (Unit {0})) → get numbers at ≡ o → is_some o ≡ true → numbers ≡ insert numbers at tt
    go None is there = absurd (cc there)
    go (Some x) is there = sym (insert-same numbers at tt is)

pub stays : {T E : Type 0} (r : Result T E) (old new : Numbers) (name : ℕ) (former port : Option ℕ)
    → option_eq nat_eq former port ≡ true → OnOk r (new ≡ with_port old port name)
    → OnOk r (new ≡ with_port (without_port old former name) port name)
stays (Ok done) old new name former port same at = at ∙ stayed old name former port (same_port former port same)
stays (Err error) old new name former port same at = tt
