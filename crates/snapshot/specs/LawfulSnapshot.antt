-- The snapshots of lawful states.
use Rattle.std.specs.Prelude.{◌≡◌}
use Rattle.ipc_model.specs.state.Circular.{Acyclic}
use Rattle.ipc_model.specs.state.Ipc.{Ipc}
use Rattle.ipc_model.specs.state.Lawful.{Lawful, ShortQueues}
use Rattle.ipc_model.specs.state.LawfulState.{LawfulState}
use Rattle.ipc_model.specs.state.State.{State}
use Rattle.snapshot.specs.Snapshots.{ipc_snapshot_of, snapshot_of}
use Rattle.snapshot.specs.declared.rows.IpcSnapshot.{IpcSnapshot}
use Rattle.snapshot.specs.declared.rows.Snapshot.{Snapshot}

-- A lawful IPC snapshot is the snapshot of a lawful and acyclic IPC state whose queues are short enough to count.
pub record IsLawfulIpc (snapshot : IpcSnapshot) : Type 0 where
  pub state : Ipc
  pub same : snapshot ≡ ipc_snapshot_of state
  pub lawful : Lawful state
  pub acyclic : Acyclic state
  pub short : ShortQueues state

-- A lawful snapshot is the snapshot of a lawful state.
pub record IsLawfulSnapshot (snapshot : Snapshot) : Type 0 where
  pub state : State
  pub same : snapshot ≡ snapshot_of state
  pub lawful : LawfulState state
  pub acyclic : Acyclic state.ipc
  pub short : ShortQueues state.ipc
