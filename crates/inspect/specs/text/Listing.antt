-- A state as lines of text: a line with the numbers of its store, then each space with its names, then each live port.
use Rattle.std.specs.Prelude.{ℕ, Bool, ◌==◌, ◌&&◌, List, [], ◌++◌, length, flat_map, find, Option, None, Some, codes, decimal}
use Rattle.std.specs.Int.{w32, to_be_bytes}
use Rattle.std.specs.FinMap as finmap
use Rattle.hex.specs.Hex.{encode_lower}
use Rattle.ipc_model.specs.declared.entry.Entry.{Entry}
use Rattle.ipc_model.specs.declared.entry.Entry.TheVariants.{Port, SendOnce, Set, Dead}
use Rattle.ipc_model.specs.declared.message.RightKind.TheVariants as kind
use Rattle.ipc_model.specs.declared.port.PortState.{PortState}
use Rattle.ipc_model.specs.state.Placed.{Place, held, destination, reply, body, dead_name_request, no_senders_request, port_destroyed_request, waiting, Right, same_kind, placed, send_count, send_once_count}
use Rattle.ipc_model.specs.state.Ipc.{Ipc, Names, type_of}

-- eight hexadecimal digits: the four bytes of a number in big-endian order
unfoldable pub hexadecimal : ℕ → List ℕ
hexadecimal n = encode_lower (to_be_bytes w32 n)

-- the port of an entry's rights, or 0 for a set or a dead name
abbrev pub port_of : Entry → ℕ
port_of (Port rights) = rights.port
port_of (SendOnce port target) = port
port_of Set = 0
port_of (Dead references) = 0

-- the references of an entry, or 0 if it holds only a receive right
abbrev pub references_of : Entry → ℕ
references_of (Port rights) = rights.send
references_of (SendOnce port target) = 1
references_of Set = 1
references_of (Dead references) = references

unfoldable pub name_line : ℕ → Entry → List ℕ
name_line name entry =
    codes "name " ++ (hexadecimal name ++ (codes " " ++ (hexadecimal (type_of entry)
    ++ (codes " port " ++ (decimal (port_of entry) ++ (codes " refs "
    ++ (decimal (references_of entry) ++ codes "\n")))))))

unfoldable pub space_line : ℕ → List ℕ
space_line space = codes "space " ++ (decimal space ++ codes "\n")

-- a space and its names, in ascending order
abbrev pub space_lines : ℕ → Names → List ℕ
space_lines space names = space_line space ++ flat_map (λ e. name_line e.0 e.1) (finmap.entries names)

-- the place of a receive right: a name, or a message in a port's queue; targets of requests are send-once rights only
abbrev pub place_encoding : Place → List ℕ
place_encoding (held space name) = codes " held " ++ (decimal space ++ (codes " " ++ hexadecimal name))
place_encoding (destination queue) = codes " carried " ++ decimal queue
place_encoding (reply queue) = codes " carried " ++ decimal queue
place_encoding (body queue) = codes " carried " ++ decimal queue
place_encoding (dead_name_request space name) = []
place_encoding (no_senders_request port) = []
place_encoding (port_destroyed_request port) = []
place_encoding waiting = []

-- a right is the receive right of a port; each port of a lawful state has one
abbrev pub is_receive_right : ℕ → Right → Bool
is_receive_right serial right = same_kind right.kind kind.Receive && right.port == serial

abbrev pub receive_right : Ipc → ℕ → Option Right
receive_right state serial = find (is_receive_right serial) (placed state)

abbrev pub receive_text : Option Right → List ℕ
receive_text None = []
receive_text (Some right) = place_encoding right.place

-- the state of a port besides its rights
unfoldable pub queue_text : PortState → List ℕ
queue_text port =
    codes " queue " ++ (decimal (length port.messages) ++ (codes " of " ++ (decimal port.limit
    ++ (codes " seqno " ++ (decimal port.sequence_number
    ++ (codes " mscount " ++ (decimal port.make_send_count ++ codes "\n")))))))

unfoldable pub port_encoding : ℕ → List ℕ → ℕ → ℕ → PortState → List ℕ
port_encoding serial receive send send_once port =
    codes "port " ++ (decimal serial ++ (receive ++ (codes " send "
    ++ (decimal send ++ (codes " once " ++ (decimal send_once ++ queue_text port))))))

-- a live port, the place of its receive right, and the numbers of its send and send-once rights
abbrev pub port_line : Ipc → ℕ → PortState → List ℕ
port_line state serial port =
    port_encoding serial (receive_text (receive_right state serial)) (send_count state serial)
    (send_once_count state serial) port

-- the epoch of a store, and the number of records in its segments
unfoldable pub store_line : ℕ → ℕ → List ℕ
store_line epoch records = codes "epoch " ++ (decimal epoch ++ (codes " records " ++ (decimal records ++ codes "\n")))

unfoldable pub listing : ℕ → ℕ → Ipc → List ℕ
listing epoch records state =
    store_line epoch records
    ++ (flat_map (λ e. space_lines e.0 e.1) (finmap.entries state.spaces) ++ flat_map
    (λ e. port_line state e.0 e.1) (finmap.entries state.ports))
