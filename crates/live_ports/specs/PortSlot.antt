-- A port at the last commit or rollback, and now: None if it isn't live.
use Rattle.std.specs.Prelude.{Option, refl}
use Rattle.std.specs.Coded.{Coded, code_by, coded×, coded_option}
use Rattle.ipc_model.specs.declared.port.PortState.{PortState}

pub record PortSlot : Type 0 where
  pub before : Option PortState
  pub current : Option PortState

abbrev pub slot_code : Coded PortState → Coded PortSlot
slot_code c =
    code_by (Option PortState × Option PortState) (coded× (coded_option c) (coded_option c))
    (λ t. (t.before, t.current)) (λ p. record { before = p.0; current = p.1 }) (λ _. refl)

-- a port without changes to commit or roll back
abbrev pub slot_at_rest : Option PortState → PortSlot
slot_at_rest port = record { before = port; current = port }
