-- States as rows.
use Rattle.std.specs.Prelude.{List, map}
use Rattle.std.specs.FinMap as finmap
use Rattle.ipc_model.specs.state.Ipc.{Names, Ipc}
use Rattle.ipc_model.specs.state.State.{State}
use Rattle.snapshot.specs.declared.rows.IpcSnapshot.{IpcSnapshot}
use Rattle.snapshot.specs.declared.rows.NamedEntry.{NamedEntry}
use Rattle.snapshot.specs.declared.rows.Snapshot.{Snapshot}

-- the names of a space, in ascending order
abbrev pub names_of : Names → List NamedEntry
names_of names = map (λ e. record { name = e.0; entry = e.1 }) (finmap.entries names)

-- the snapshot of an IPC state: its spaces with their names, and its live ports, in ascending order
unfoldable pub ipc_snapshot_of : Ipc → IpcSnapshot
ipc_snapshot_of state = record {
  next_serial = state.next;
  spaces = map (λ e. record { number = e.0; names = names_of e.1 }) (finmap.entries state.spaces);
  ports = map (λ e. record { serial = e.0; state = e.1 }) (finmap.entries state.ports);
}

-- the snapshot of a state: also the reply that each space keeps, in the order of the spaces
unfoldable pub snapshot_of : State → Snapshot
snapshot_of state = record {
  ipc = ipc_snapshot_of state.ipc;
  kept = map (λ e. finmap.get state.kept e.0) (finmap.entries state.ipc.spaces);
}
