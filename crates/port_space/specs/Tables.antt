-- A space's tables after changes.
use Rattle.std.specs.Prelude.{◌≡◌, ℕ, ◌^◌, ◌<◌, ◌≤◌, ◌⊎◌, true, is_some, option_and_then}
use Rattle.std.specs.FinMap as map
use Rattle.codes.specs.declared.name.TheConstants.{FIRST_NAME}
use Rattle.ipc_model.specs.declared.entry.Entry.{Entry}
use Rattle.ipc_model.specs.state.Ipc.{Names, port_held}
use Rattle.port_space.specs.Alongside.{with_port, without_port, GoesOn}
use Rattle.tracked_map.specs.Tracked.{at_rest}
use Rattle.port_space.specs.declared.tables.Tables.{Tables}

-- every name fits 32 bits
abbrev pub AreSmall : Names → Type 0
AreSmall names = (name : ℕ) → is_some (map.get names name) ≡ true → name < 2 ^ 32

-- the tables at the last commit or rollback are the same
pub record SameBefore (old new : Tables) : Type 0 where
  pub names : new.names.before ≡ old.names.before
  pub by_port : new.by_port.before ≡ old.by_port.before
  pub gaps : new.gaps.before ≡ old.gaps.before
  pub low : new.low_before ≡ old.low_before

pub record IsPut (old new : Tables) (name : ℕ) (entry : Entry) : Type 0 where
  pub names : new.names.current ≡ map.insert old.names.current name entry
  pub by_port : new.by_port.current
      ≡ with_port (without_port old.by_port.current (option_and_then port_held (map.get old.names.current name)) name)
      (port_held entry) name
  pub gaps : new.gaps.current ≡ map.remove old.gaps.current name
  pub low : GoesOn new.names.current name old.low new.low

-- a removed name becomes a gap if it is below `low`
abbrev pub LeavesGap : Tables → Tables → ℕ → Type 0
LeavesGap old new name =
    ((FIRST_NAME ≤ name) × (name < old.low) × (new.gaps.current ≡ map.insert old.gaps.current name tt))
    ⊎ (((FIRST_NAME ≤ name) → (name < old.low) → ⊥) × (new.gaps.current ≡ old.gaps.current))

pub record IsRemoved (old new : Tables) (name : ℕ) : Type 0 where
  pub names : new.names.current ≡ map.remove old.names.current name
  pub by_port : new.by_port.current
      ≡ without_port old.by_port.current (option_and_then port_held (map.get old.names.current name)) name
  pub gaps : LeavesGap old new name
  pub low : new.low ≡ old.low

-- the tables of an empty space
pub record AreNew (new : Tables) : Type 0 where
  pub names : new.names ≡ at_rest map.empty
  pub by_port : new.by_port ≡ at_rest map.empty
  pub gaps : new.gaps ≡ at_rest map.empty
  pub low : new.low ≡ FIRST_NAME
  pub low_before : new.low_before ≡ FIRST_NAME

-- the changes are committed
pub record AreCommitted (old new : Tables) : Type 0 where
  pub names : new.names ≡ at_rest old.names.current
  pub by_port : new.by_port ≡ at_rest old.by_port.current
  pub gaps : new.gaps ≡ at_rest old.gaps.current
  pub low : new.low ≡ old.low
  pub low_before : new.low_before ≡ old.low

-- the changes are rolled back
pub record AreRolledBack (old new : Tables) : Type 0 where
  pub names : new.names ≡ at_rest old.names.before
  pub by_port : new.by_port ≡ at_rest old.by_port.before
  pub gaps : new.gaps ≡ at_rest old.gaps.before
  pub low : new.low ≡ old.low_before
  pub low_before : new.low_before ≡ old.low_before
