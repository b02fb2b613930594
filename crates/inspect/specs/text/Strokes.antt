-- The parts of a drawing, from a snapshot's rows.
use Rattle.std.specs.Prelude.{ℕ, List, ◌++◌, flat_map, codes}
use Rattle.ipc_model.specs.declared.message.RightKind.{RightKind}
use Rattle.snapshot.specs.declared.rows.LivePort.{LivePort}
use Rattle.snapshot.specs.declared.rows.NamedEntry.{NamedEntry}
use Rattle.snapshot.specs.declared.rows.IpcSnapshot.{IpcSnapshot}
use Rattle.snapshot.specs.declared.rows.Space.{Space}
use Rattle.inspect.specs.declared.text.standing.Standing.{Standing}
use Rattle.inspect.specs.declared.text.standing.Standing.TheVariants.{Held, Queued, DeadNameRequest, NoSendersRequest, PortDestroyedRequest}
use Rattle.inspect.specs.declared.text.standing.StandingRight.{StandingRight}
use Rattle.inspect.specs.text.Drawing.{name_node, port_node, name_node_line, cluster_head, cluster_end, port_node_text, kind_word, held_label, edge_text, drawing_head, drawing_end}
use Rattle.inspect.specs.text.Gathering.{Notes, tally_of, gathered}
use Rattle.inspect.specs.text.Walking.{snapshot_seen}

abbrev pub names_drawn : ℕ → List NamedEntry → List ℕ
names_drawn space names = flat_map (λ (named : NamedEntry). name_node_line space named.name named.entry) names

abbrev pub space_drawn : Space → List ℕ
space_drawn space = cluster_head space.number ++ (names_drawn space.number space.names ++ cluster_end)

abbrev pub spaces_drawn : List Space → List ℕ
spaces_drawn spaces = flat_map space_drawn spaces

abbrev pub port_drawn : Notes → LivePort → List ℕ
port_drawn notes port =
    let tally = tally_of notes port.serial in port_node_text port.serial tally.send tally.send_once port.state

abbrev pub ports_drawn : Notes → List LivePort → List ℕ
ports_drawn notes ports = flat_map (port_drawn notes) ports

abbrev pub source_of : Standing → List ℕ
source_of (Held space name) = name_node space name
source_of (Queued queue) = port_node queue
source_of (DeadNameRequest space name) = name_node space name
source_of (NoSendersRequest port) = port_node port
source_of (PortDestroyedRequest port) = port_node port

abbrev pub label_of : ℕ → RightKind → Standing → List ℕ
label_of references of_kind (Held space name) = held_label references of_kind
label_of references of_kind (Queued queue) = codes "carried " ++ kind_word of_kind
label_of references of_kind (DeadNameRequest space name) = codes "dead-name request"
label_of references of_kind (NoSendersRequest port) = codes "no-senders request"
label_of references of_kind (PortDestroyedRequest port) = codes "port-destroyed request"

abbrev pub edge_of : StandingRight → List ℕ
edge_of right = edge_text (source_of right.standing) right.port (label_of right.references right.kind right.standing)

-- a text with one more edge
abbrev pub edge_drawn : StandingRight → List ℕ → List ℕ
edge_drawn right text = text ++ edge_of right

abbrev pub edges_drawn : IpcSnapshot → List ℕ → List ℕ
edges_drawn snapshot text = snapshot_seen edge_drawn snapshot text

-- a text followed by a whole drawing
unfoldable pub drawn : IpcSnapshot → List ℕ → List ℕ
drawn snapshot text =
    edges_drawn snapshot (((text ++ drawing_head) ++ spaces_drawn snapshot.spaces)
    ++ ports_drawn (gathered snapshot) snapshot.ports) ++ drawing_end
