-- The value of an opened store in contracts.
use Rattle.std.specs.Prelude.{ℕ, refl}
use Rattle.std.specs.Coded.{Coded, code_by, coded×, coded_ℕ}
use Rattle.ipc_model.specs.state.State.{State}
use Rattle.ipc_model.specs.state.StateCode.{state_code}
use Rattle.journal.specs.declared.segment.Segment.{Segment}

-- the state of an opened store, its disk, and the segment in use
pub record OpenedValue (D : Type 0) : Type 0 where
  pub kernel : State
  pub disk : D
  pub segment : Segment

abbrev pub opened_code : {D : Type 0} → Coded D → Coded (OpenedValue D)
opened_code {D = D} code =
    code_by (State × (D × (ℕ × ℕ))) (coded× state_code (coded× code (coded× coded_ℕ coded_ℕ)))
    (λ o. (o.kernel, (o.disk, (o.segment.epoch, o.segment.records))))
    (λ p. record { kernel = p.0; disk = p.1.0; segment = record { epoch = p.1.1.0; records = p.1.1.1 } }) (λ _. refl)
