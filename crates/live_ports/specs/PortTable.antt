-- The live ports of a state and the next serial, at the last commit or rollback, and now.
use Rattle.std.specs.Prelude.{ℕ, refl}
use Rattle.std.specs.Ordering.{nat_cmp}
use Rattle.std.specs.FinMap as finmap
use Rattle.std.specs.Coded.{Coded, code_by, coded×, coded_ℕ}
use Rattle.ipc_model.specs.declared.port.PortState.{PortState}

pub record PortTable : Type 0 where
  pub ports : finmap.FinMap {K = ℕ} nat_cmp PortState
  pub next : ℕ

pub record TrackedPorts : Type 0 where
  pub before : PortTable
  pub current : PortTable

abbrev pub table_code : Coded PortState → Coded PortTable
table_code c =
    code_by (finmap.FinMap {K = ℕ} nat_cmp PortState × ℕ) (coded× (finmap.code coded_ℕ c) coded_ℕ)
    (λ t. (t.ports, t.next)) (λ p. record { ports = p.0; next = p.1 }) (λ _. refl)

abbrev pub tracked_ports_code : Coded PortState → Coded TrackedPorts
tracked_ports_code c =
    code_by (PortTable × PortTable) (coded× (table_code c) (table_code c)) (λ t. (t.before, t.current))
    (λ p. record { before = p.0; current = p.1 }) (λ _. refl)

-- ports without changes to commit or roll back
abbrev pub ports_at_rest : PortTable → TrackedPorts
ports_at_rest table = record { before = table; current = table }
