-- The reported places as plain data.
use Rattle.std.specs.Prelude.{ℕ, Bool, List, refl}
use Rattle.std.specs.Coded.{Coded, code_by, coded×, coded_ℕ, coded_bool, coded_list}
use Rattle.waiting.specs.Places.{Named}

abbrev pub named_code : Coded Named
named_code =
    code_by (List ℕ × (List ℕ × Bool)) (coded× (coded_list coded_ℕ) (coded× (coded_list coded_ℕ) coded_bool))
    (λ n. (n.changed, (n.ready, n.are_all))) (λ p. record { changed = p.0; ready = p.1.0; are_all = p.1.1 })
    (λ _. refl)
