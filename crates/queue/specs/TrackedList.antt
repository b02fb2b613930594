-- Lists whose changes are committed or rolled back.
use Rattle.std.specs.Prelude.{List, refl}
use Rattle.std.specs.Coded.{Coded, code_by, coded×}
use base.Stored.{coded_list}

-- a list at the last commit or rollback, and the current one
pub record TrackedList (X : Type 0) : Type 0 where
  pub before : List X
  pub current : List X

abbrev pub tracked_list_code : {X : Type 0} → Coded X → Coded (TrackedList X)
tracked_list_code {X} c =
    code_by (List X × List X) (coded× (coded_list c) (coded_list c)) (λ t. (t.before, t.current))
    (λ p. record { before = p.0; current = p.1 }) (λ _. refl)

-- a list without changes to commit or roll back
abbrev pub list_at_rest : {X : Type 0} → List X → TrackedList X
list_at_rest xs = record { before = xs; current = xs }
