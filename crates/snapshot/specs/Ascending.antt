-- Rows whose numbers ascend.
use Rattle.std.specs.Prelude.{ℕ, ◌+◌, ◌≤◌, List, [], ◌∷◌}
use Rattle.snapshot.specs.declared.rows.LivePort.{LivePort}
use Rattle.snapshot.specs.declared.rows.NamedEntry.{NamedEntry}
use Rattle.snapshot.specs.declared.rows.Space.{Space}

-- strictly ascending numbers, the first of them at least this one
abbrev pub AscendsFrom : ℕ → List ℕ → Type 0
AscendsFrom at [] = Unit {0}
AscendsFrom at (n ∷ rest) = (at ≤ n) × AscendsFrom (n + 1) rest

-- the number of a row
abbrev pub name_of : NamedEntry → ℕ
name_of row = row.name

abbrev pub number_of : Space → ℕ
number_of space = space.number

abbrev pub serial_of : LivePort → ℕ
serial_of port = port.serial
