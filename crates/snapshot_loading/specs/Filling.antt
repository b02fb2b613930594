-- The steps that fill a state from the rows of a snapshot: the ports with their numbers, then the spaces with their
-- names, then the messages.
use Rattle.std.specs.Prelude.{ℕ, ◌+◌, List, [], ◌∷◌}
use Rattle.std.specs.FinMap as finmap
use Rattle.ipc_model.specs.declared.message.Message.{Message}
use Rattle.ipc_model.specs.declared.port.PortState.{PortState}
use Rattle.ipc_model.specs.effects.Effects.{queued}
use Rattle.ipc_model.specs.state.Ipc.{Ipc, with_entry, with_names}
use Rattle.snapshot.specs.declared.rows.LivePort.{LivePort}
use Rattle.snapshot.specs.declared.rows.NamedEntry.{NamedEntry}
use Rattle.snapshot.specs.declared.rows.Space.{Space}

-- a port without its messages
abbrev pub emptied : PortState → PortState
emptied port = record port { messages = [] }

abbrev pub opened : LivePort → Ipc → Ipc
opened row state =
    record state { ports = finmap.insert state.ports row.serial (emptied row.state); next = row.serial + 1 }

-- the state after the ports of these rows are added
abbrev pub opened_all : List LivePort → Ipc → Ipc
opened_all [] state = state
opened_all (row ∷ rows) state = opened_all rows (opened row state)

-- the state after these names are added to a space
abbrev pub named_all : ℕ → List NamedEntry → Ipc → Ipc
named_all space [] state = state
named_all space (row ∷ rows) state = named_all space rows (with_entry state space row.name row.entry)

abbrev pub spaced : Space → Ipc → Ipc
spaced row state = named_all row.number row.names (with_names state row.number finmap.empty)

-- the state after the spaces of these rows are added
abbrev pub spaced_all : List Space → Ipc → Ipc
spaced_all [] state = state
spaced_all (row ∷ rows) state = spaced_all rows (spaced row state)

-- the state after these messages are appended to a port's queue
abbrev pub queued_all : ℕ → List Message → Ipc → Ipc
queued_all serial [] state = state
queued_all serial (message ∷ messages) state = queued_all serial messages (queued state serial message)

-- the state after the messages of these ports are appended
abbrev pub filled_all : List LivePort → Ipc → Ipc
filled_all [] state = state
filled_all (row ∷ rows) state = filled_all rows (queued_all row.serial row.state.messages state)
