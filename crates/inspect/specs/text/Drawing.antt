-- A state as a text for Graphviz: a cluster for each space with its names as nodes, a node for each live port, and an
-- edge for each right from its place to its port.
use Rattle.std.specs.Prelude.{ℕ, List, ◌++◌, length, flat_map, codes, decimal}
use Rattle.std.specs.FinMap as finmap
use Rattle.ipc_model.specs.declared.entry.Entry.{Entry}
use Rattle.ipc_model.specs.declared.message.RightKind.{RightKind}
use Rattle.ipc_model.specs.declared.message.RightKind.TheVariants as kind
use Rattle.ipc_model.specs.declared.port.PortState.{PortState}
use Rattle.ipc_model.specs.state.Placed.{Place, held, destination, reply, body, dead_name_request, no_senders_request, port_destroyed_request, waiting, Right, rights_of_entry, rights_of_port, send_count, send_once_count}
use Rattle.ipc_model.specs.state.Ipc.{Ipc, Names, type_of}
use Rattle.inspect.specs.text.Listing.{hexadecimal, references_of}

unfoldable pub name_node : ℕ → ℕ → List ℕ
name_node space name = codes "n" ++ (decimal space ++ (codes "_" ++ hexadecimal name))

unfoldable pub port_node : ℕ → List ℕ
port_node serial = codes "p" ++ decimal serial

-- the node of a name, with its type and its references
unfoldable pub name_node_line : ℕ → ℕ → Entry → List ℕ
name_node_line space name entry =
    codes "    " ++ (name_node space name ++ (codes " [label=\""
    ++ (hexadecimal name ++ (codes " " ++ (hexadecimal (type_of entry)
    ++ (codes " refs " ++ (decimal (references_of entry) ++ codes "\"];\n")))))))

unfoldable pub cluster_head : ℕ → List ℕ
cluster_head space =
    codes "  subgraph cluster_" ++ (decimal space ++ (codes " {\n    label=\"space "
    ++ (decimal space ++ codes "\";\n")))

abbrev pub cluster_end : List ℕ
cluster_end = codes "  }\n"

-- a space with its names
abbrev pub cluster : ℕ → Names → List ℕ
cluster space names =
    cluster_head space ++ (flat_map (λ e. name_node_line space e.0 e.1) (finmap.entries names) ++ cluster_end)

unfoldable pub queue_label : PortState → List ℕ
queue_label port =
    codes "queue " ++ (decimal (length port.messages) ++ (codes " of " ++ (decimal port.limit
    ++ (codes "\\nseqno " ++ (decimal port.sequence_number ++ (codes " mscount " ++ decimal port.make_send_count))))))

unfoldable pub port_node_text : ℕ → ℕ → ℕ → PortState → List ℕ
port_node_text serial send send_once port =
    codes "  " ++ (port_node serial ++ (codes " [shape=ellipse, label=\"port "
    ++ (decimal serial ++ (codes "\\nsend " ++ (decimal send
    ++ (codes " once " ++ (decimal send_once ++ (codes "\\n" ++ (queue_label port ++ codes "\"];\n")))))))))

-- a live port, with the numbers of its send and send-once rights
abbrev pub port_node_line : Ipc → ℕ → PortState → List ℕ
port_node_line state serial port = port_node_text serial (send_count state serial) (send_once_count state serial) port

abbrev pub kind_word : RightKind → List ℕ
kind_word kind.Receive = codes "receive"
kind_word kind.Send = codes "send"
kind_word kind.SendOnce = codes "send-once"

-- the label of a right under a name: a send right has its references
abbrev pub held_label : ℕ → RightKind → List ℕ
held_label references kind.Receive = codes "receive"
held_label references kind.Send = codes "send x" ++ decimal references
held_label references kind.SendOnce = codes "send-once"

-- the node from which a right's edge starts: its name, the port whose queue contains it, or the name or port of its
-- request; no right of a state is in pending effects
abbrev pub source : Place → List ℕ
source (held space name) = name_node space name
source (destination queue) = port_node queue
source (reply queue) = port_node queue
source (body queue) = port_node queue
source (dead_name_request space name) = name_node space name
source (no_senders_request port) = port_node port
source (port_destroyed_request port) = port_node port
source waiting = port_node 0

abbrev pub label : ℕ → RightKind → Place → List ℕ
label references of_kind (held space name) = held_label references of_kind
label references of_kind (destination queue) = codes "carried " ++ kind_word of_kind
label references of_kind (reply queue) = codes "carried " ++ kind_word of_kind
label references of_kind (body queue) = codes "carried " ++ kind_word of_kind
label references of_kind (dead_name_request space name) = codes "dead-name request"
label references of_kind (no_senders_request port) = codes "no-senders request"
label references of_kind (port_destroyed_request port) = codes "port-destroyed request"
label references of_kind waiting = codes "no-senders request"

unfoldable pub edge_text : List ℕ → ℕ → List ℕ → List ℕ
edge_text from serial called =
    codes "  " ++ (from ++ (codes " -> " ++ (port_node serial ++ (codes " [label=\"" ++ (called ++ codes "\"];\n")))))

abbrev pub edge_line : ℕ → Right → List ℕ
edge_line references right = edge_text (source right.place) right.port (label references right.kind right.place)

-- the rights of a space's names, and of their requests
abbrev pub space_edges : ℕ → Names → List ℕ
space_edges space names =
    flat_map (λ e. flat_map (edge_line (references_of e.1)) (rights_of_entry space e.0 e.1)) (finmap.entries names)

-- the rights of a port's messages and requests
abbrev pub port_edges : ℕ → PortState → List ℕ
port_edges serial port = flat_map (edge_line 0) (rights_of_port serial port)

abbrev pub drawing_head : List ℕ
drawing_head = codes "digraph ports {\n  rankdir=LR;\n  node [shape=box];\n"

abbrev pub drawing_end : List ℕ
drawing_end = codes "}\n"

unfoldable pub drawing : Ipc → List ℕ
drawing state =
    drawing_head
    ++ (flat_map (λ e. cluster e.0 e.1) (finmap.entries state.spaces)
    ++ (flat_map (λ e. port_node_line state e.0 e.1) (finmap.entries state.ports)
    ++ (flat_map (λ e. space_edges e.0 e.1) (finmap.entries state.spaces)
    ++ (flat_map (λ e. port_edges e.0 e.1) (finmap.entries state.ports) ++ drawing_end))))
