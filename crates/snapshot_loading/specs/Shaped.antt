-- Rows of a lawful shape, each on its own: they ascend, there are at most as many as allowed, and each is within its
-- bounds.
use Rattle.std.specs.Prelude.{◌≡◌, ℕ, ◌<◌, ◌≤◌, ◌^◌, All, List, [], ◌∷◌, length, map}
use Rattle.codes.specs.declared.limits.TheConstants.{MAX_NAMES, MAX_PORTS, MAX_SPACES}
use Rattle.codes.specs.declared.name.TheConstants.{FIRST_SPACE, MACH_PORT_DEAD}
use Rattle.ipc_model.specs.state.Lawful.{LawfulEntry, LawfulPort}
use Rattle.snapshot.specs.Ascending.{AscendsFrom}
use Rattle.snapshot.specs.declared.rows.LivePort.{LivePort}
use Rattle.snapshot.specs.declared.rows.NamedEntry.{NamedEntry}
use Rattle.snapshot.specs.declared.rows.IpcSnapshot.{IpcSnapshot}
use Rattle.snapshot.specs.declared.rows.Space.{Space}
use Rattle.snapshot.specs.Rows.{name_of, number_of, serial_of}

-- a name that may be given to a right, with an entry within its bounds
abbrev pub IsShapedName : NamedEntry → Type 0
IsShapedName row = (row.name < MACH_PORT_DEAD) × LawfulEntry row.entry

pub record IsShapedSpace (row : Space) : Type 0 where
  pub number : row.number ≤ MAX_SPACES
  pub few : length row.names ≤ MAX_NAMES
  pub ascend : AscendsFrom 1 (map name_of row.names)
  pub each : All IsShapedName row.names

pub record IsShapedPort (next : ℕ) (row : LivePort) : Type 0 where
  pub below : row.serial < next
  pub lawful : LawfulPort row.state
  pub short : length row.state.messages < 2 ^ 32

-- the first space has the number FIRST_SPACE
abbrev pub BeginsFirst : List Space → Type 0
BeginsFirst [] = ⊥
BeginsFirst (row ∷ rows) = row.number ≡ FIRST_SPACE

pub record IsShaped (snapshot : IpcSnapshot) : Type 0 where
  pub first : BeginsFirst snapshot.spaces
  pub spaces_ascend : AscendsFrom 1 (map number_of snapshot.spaces)
  pub spaces : All IsShapedSpace snapshot.spaces
  pub next : 0 < snapshot.next_serial
  pub few_ports : length snapshot.ports ≤ MAX_PORTS
  pub ports_ascend : AscendsFrom 1 (map serial_of snapshot.ports)
  pub ports : All (IsShapedPort snapshot.next_serial) snapshot.ports
