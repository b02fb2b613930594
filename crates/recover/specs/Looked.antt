-- The result of reading a store without opening it.
use Rattle.std.specs.Prelude.{◌≡◌}
use Rattle.disk.specs.Slots.{Slots}
use Rattle.ipc_model.specs.state.State.{State}
use Rattle.snapshot.specs.Snapshots.{snapshot_of}
use Rattle.recover.specs.Found.{Reads}
use Rattle.recover.specs.declared.looking.Looked.{Looked}

-- A look is the rows of some state. On an honest disk the slots encode that state, with the epoch of its image and the
-- number of records.
pub record IsLook (honest : Type 0) (slots : Slots) (look : Looked) : Type 0 where
  pub state : State
  pub reads : honest → Reads slots look.epoch look.records state
  pub rows : look.snapshot ≡ snapshot_of state
