-- The indexes that a space keeps beside its names, so that no call has to search.
use Rattle.std.specs.Prelude.{◌≡◌, ◌⊎◌, ℕ, ◌+◌, ◌*◌, ◌^◌, ◌<◌, ◌≤◌, Bool, true, not, Option, None, Some, is_some, option_and_then}
use Rattle.std.specs.Ordering.{nat_cmp}
use Rattle.std.specs.FinMap as map
use Rattle.codes.specs.declared.name.TheConstants.{FIRST_NAME}
use Rattle.ipc_model.specs.state.Ipc.{Names, is_number, port_held}
use Rattle.port_space.specs.References.{AreBounded}

-- a set of numbers
abbrev pub Numbers : Type 0
Numbers = map.FinMap {K = ℕ} nat_cmp (Unit {0})

abbrev pub has : Numbers → ℕ → Bool
has numbers n = is_some (map.get numbers n)

-- the key of a port and a name; the keys of one port's names are consecutive and ascend
abbrev pub port_key : ℕ → ℕ → ℕ
port_key serial name = serial * 2 ^ 32 + name

-- true if a name holds a send or receive right of a port
abbrev pub holds : Names → ℕ → ℕ → Bool
holds names serial name = is_number (option_and_then port_held (map.get names name)) serial

-- the index contains exactly the names by the ports of which they hold send or receive rights
abbrev pub AreByPort : Names → Numbers → Type 0
AreByPort names by_port =
    (serial name : ℕ) → name < 2 ^ 32 → has by_port (port_key serial name) ≡ holds names serial name

-- `low` is unused, and the unused names from FIRST_NAME up to it are the gaps.
pub record AreFree (names : Names) (gaps : Numbers) (low : ℕ) : Type 0 where
  pub from : FIRST_NAME ≤ low
  pub below : (name : ℕ) → FIRST_NAME ≤ name → name < low → is_some (map.get names name) ≡ not (has gaps name)
  pub within : (name : ℕ) → has gaps name ≡ true → (FIRST_NAME ≤ name) × (name < low)
  pub next : map.get names low ≡ None

-- the invariant of a space's indexes
pub record StandAlongside (names : Names) (by_port gaps : Numbers) (low : ℕ) : Type 0 where
  pub bounded : AreBounded names
  pub ports : AreByPort names by_port
  pub free : AreFree names gaps low

-- the index with a name added to its port, and with a name removed from it
abbrev pub with_port : Numbers → Option ℕ → ℕ → Numbers
with_port numbers None name = numbers
with_port numbers (Some serial) name = map.insert numbers (port_key serial name) tt

abbrev pub without_port : Numbers → Option ℕ → ℕ → Numbers
without_port numbers None name = numbers
without_port numbers (Some serial) name = map.remove numbers (port_key serial name)

-- `next` is the first unused name from `from` on
pub record IsFirstUnused (names : Names) (from next : ℕ) : Type 0 where
  pub from_on : from ≤ next
  pub used : (name : ℕ) → from ≤ name → name < next → is_some (map.get names name) ≡ true
  pub unused : map.get names next ≡ None

-- `low` after a name is used: the first unused name after it if it was `low`, else `low`
abbrev pub GoesOn : Names → ℕ → ℕ → ℕ → Type 0
GoesOn names name low next = ((name ≡ low) × IsFirstUnused names (low + 1) next) ⊎ ((name ≡ low → ⊥) × (next ≡ low))
