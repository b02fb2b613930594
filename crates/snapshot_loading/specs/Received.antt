-- The test that the rows have one receive right of each port.
use Rattle.std.specs.Prelude.{◌≡◌, List, ℕ, map, IsPermutation}
use Rattle.std.specs.List.Sorted.{IsNonDecreasing}
use Rattle.snapshot.specs.declared.rows.IpcSnapshot.{IpcSnapshot}
use Rattle.snapshot_loading.specs.Receivers.{receivers}
use Rattle.snapshot.specs.Rows.{serial_of}

-- in some order, the ports of the receive rights are the ports of the snapshot
pub record AreSorted (snapshot : IpcSnapshot) : Type 0 where
  pub sorted : List ℕ
  pub moved : IsPermutation (receivers snapshot) sorted
  pub same : sorted ≡ map serial_of snapshot.ports

-- in ascending order, the ports of the receive rights aren't those of the snapshot
pub record AreOthers (snapshot : IpcSnapshot) : Type 0 where
  pub sorted : List ℕ
  pub moved : IsPermutation (receivers snapshot) sorted
  pub ascend : IsNonDecreasing sorted
  pub other : sorted ≡ map serial_of snapshot.ports → ⊥
