-- The ports of all receive rights in a snapshot's rows.
use Rattle.std.specs.Prelude.{ℕ, List, [], ◌∷◌, ◌++◌, flat_map, None, Some}
use Rattle.ipc_model.specs.declared.message.CarriedRight.{CarriedRight}
use Rattle.ipc_model.specs.declared.message.Message.{Message}
use Rattle.ipc_model.specs.declared.message.PortInMessage.{PortInMessage}
use Rattle.ipc_model.specs.declared.message.PortInMessage.TheVariants as in_message
use Rattle.ipc_model.specs.declared.message.RightKind.{RightKind}
use Rattle.ipc_model.specs.declared.message.RightKind.TheVariants as kind
use Rattle.ipc_model.specs.state.Ipc.{received_port}
use Rattle.snapshot.specs.declared.rows.LivePort.{LivePort}
use Rattle.snapshot.specs.declared.rows.NamedEntry.{NamedEntry}
use Rattle.snapshot.specs.declared.rows.IpcSnapshot.{IpcSnapshot}
use Rattle.snapshot.specs.declared.rows.Space.{Space}

-- the port whose receive right a name holds
abbrev pub received_under : NamedEntry → List ℕ
received_under row = elim (received_port row.entry) as (λ _. List ℕ) [ None ↦ [] | Some serial ↦ serial ∷ [] ]

abbrev pub received_in : Space → List ℕ
received_in space = flat_map received_under space.names

abbrev pub received_to : PortInMessage → List ℕ
received_to in_message.Null = []
received_to in_message.Dead = []
received_to (in_message.Live serial) = serial ∷ []

abbrev pub received_as : RightKind → PortInMessage → List ℕ
received_as kind.Receive port = received_to port
received_as kind.Send port = []
received_as kind.SendOnce port = []

-- the port of a carried right, if it is a receive right
abbrev pub received_by : CarriedRight → List ℕ
received_by right = received_as right.kind right.port

abbrev pub received_with : Message → List ℕ
received_with message = flat_map received_by message.rights

abbrev pub received_at : LivePort → List ℕ
received_at port = flat_map received_with port.state.messages

abbrev pub receivers : IpcSnapshot → List ℕ
receivers snapshot = flat_map received_in snapshot.spaces ++ flat_map received_at snapshot.ports
