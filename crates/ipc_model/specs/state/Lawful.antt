-- The lawful states: each live port has one receive right, each right names a live port, and numbers keep their bounds.
-- (Kernel Interfaces, "Ports and Messages" and "Port Manipulation"; the bounds are this server's.)
use Rattle.std.specs.Prelude.{false, ◌∷◌, ◌≡◌, ◌≢◌, ◌⊎◌, ℕ, ◌%◌, ◌^◌, ◌<◌, ◌≤◌, true, ◌==◌, ◌&&◌, List, [], ◌++◌, length, map, flat_map, replicate, All, Contains, count_by, Option, None, Some, Ok, if◌then◌else◌, MatchBool}
use Rattle.std.specs.Ordering.{nat_cmp}
use Rattle.std.specs.FinMap as finmap
use Rattle.codes.specs.declared.limits.TheConstants.{MAX_NAMES, MAX_PORTS, MAX_SPACES, MAX_MESSAGE_SIZE, MAX_MESSAGE_PORTS, MAX_SEND_REFERENCES, MAX_DEAD_REFERENCES, MAX_QUEUE_LIMIT}
use Rattle.codes.specs.declared.name.TheConstants.{MACH_PORT_DEAD, FIRST_SPACE}
use Rattle.ipc_model.specs.declared.entry.Entry.{Entry}
use Rattle.ipc_model.specs.declared.entry.Entry.TheVariants.{Port, SendOnce, Set, Dead}
use Rattle.ipc_model.specs.declared.message.CarriedRight.{CarriedRight}
use Rattle.ipc_model.specs.declared.message.Message.{Message}
use Rattle.ipc_model.specs.declared.message.RightKind.{RightKind}
use Rattle.ipc_model.specs.declared.message.RightKind.TheVariants as kind
use Rattle.ipc_model.specs.declared.port.PortState.{PortState}
use Rattle.ipc_model.specs.effects.Effects.{Effect, release, notify}
use Rattle.ipc_model.specs.messages.Notices as notice
use Rattle.ipc_model.specs.messages.Items.{Item, items_of, is_port_item}
use Rattle.ipc_model.specs.rights.Dispositions.{number_of_kind}
use Rattle.ipc_model.specs.state.Placed.{Right, waiting, placed, same_kind, receive_count}
use Rattle.ipc_model.specs.messages.Receiving.{message_size}
use Rattle.ipc_model.specs.state.Ipc.{Ipc, Names, lives, port_held, received_port}
use Rattle.words.specs.Words.{AreBytes}

-- how many rights of any kind a port has
abbrev pub rights_count : Ipc → ℕ → ℕ
rights_count state serial = count_by (λ r. r.port == serial) (placed state)

-- What a name may stand for: a port by its receive right or at least one reference, a dead name with at least one.
abbrev pub LawfulEntry : Entry → Type 0
LawfulEntry (Port rights) = ((rights.receive ≡ true) ⊎ (0 < rights.send)) × (rights.send ≤ MAX_SEND_REFERENCES)
LawfulEntry (SendOnce port target) = Unit {0}
LawfulEntry Set = Unit {0}
LawfulEntry (Dead references) = (0 < references) × (references ≤ MAX_DEAD_REFERENCES)

-- The names of a space: each may be handed out, their number has a bound, and a port's send and receive rights stand
-- under one.
pub record LawfulNames (names : Names) : Type 0 where
  pub few : finmap.len names ≤ MAX_NAMES
  pub named : (name : ℕ) (entry : Entry) → finmap.get names name ≡ Some entry → (0 < name) × (name < MACH_PORT_DEAD)
      × LawfulEntry entry
  pub one_name : (one other serial : ℕ) (first second : Entry) → finmap.get names one ≡ Some first
      → finmap.get names other ≡ Some second
      → port_held first ≡ Some serial → port_held second ≡ Some serial → one ≡ other

-- the kinds of right that a port item brings: one for each of its ports
abbrev pub kind_of_number : ℕ → RightKind
kind_of_number n =
    if n == number_of_kind kind.Receive then kind.Receive else if n == number_of_kind kind.Send then kind.Send
    else kind.SendOnce

abbrev pub kinds_of_item : Item → List RightKind
kinds_of_item item = if is_port_item item then replicate item.number (kind_of_number item.type_name) else []

-- a port item has a type as received, and 0 in each port's place
abbrev pub IsStoredItem : Item → Type 0
IsStoredItem item =
    MatchBool (is_port_item item) ((item.type_name ≤ number_of_kind kind.SendOnce)
    × All (λ byte. byte ≡ 0) item.content) (Unit {0})

-- A body with ports: its items tile it, at least one holds ports, and the rights are those of its ports, in order.
pub record HoldsPorts (body : List ℕ) (rights : List CarriedRight) : Type 0 where
  pub items : List Item
  pub tiled : items_of body ≡ Ok items
  pub has_port : (item : Item) × Contains items item × (is_port_item item ≡ true)
  pub stored : All IsStoredItem items
  pub kinds : map (λ (r : CarriedRight). r.kind) rights ≡ flat_map kinds_of_item items
  pub few : length rights ≤ MAX_MESSAGE_PORTS

abbrev pub LawfulReply : Option CarriedRight → Type 0
LawfulReply None = Unit {0}
LawfulReply (Some right) = right.kind ≢ kind.Receive

-- A queued message: sent by a send or send-once right, of a size that a message may have, with the rights of its body's
-- ports.
pub record LawfulMessage (message : Message) : Type 0 where
  pub destination : message.destination ≢ kind.Receive
  pub reply : LawfulReply message.reply
  pub id : message.id < 2 ^ 32
  pub whole_words : message_size message % 4 ≡ 0
  pub small : message_size message ≤ MAX_MESSAGE_SIZE
  pub bytes : AreBytes message.body
  pub ports : MatchBool message.complex (HoldsPorts message.body message.rights) (message.rights ≡ [])

-- What a live port keeps.
pub record LawfulPort (port : PortState) : Type 0 where
  pub limit : port.limit ≤ MAX_QUEUE_LIMIT
  pub sequence_number : port.sequence_number < 2 ^ 32
  pub make_send_count : port.make_send_count < 2 ^ 32
  pub messages : All LawfulMessage port.messages

-- The space that holds the port's receive right has a set of this name.
abbrev pub IsHeldAlongsideSet : Ipc → ℕ → ℕ → Type 0
IsHeldAlongsideSet state serial set =
    (space : ℕ) × (names : Names) × (name : ℕ) × (entry : Entry) × (finmap.get state.spaces space ≡ Some names)
    × (finmap.get names name ≡ Some entry) × (received_port entry ≡ Some serial) × (finmap.get names set ≡ Some Set)

-- A lawful state.
pub record Lawful (state : Ipc) : Type 0 where
  pub first_space : (names : Names) × (finmap.get state.spaces FIRST_SPACE ≡ Some names)
  pub spaces : (space : ℕ) (names : Names) → finmap.get state.spaces space ≡ Some names → (0 < space)
      × (space ≤ MAX_SPACES) × LawfulNames names
  pub ports : (serial : ℕ) (port : PortState) → finmap.get state.ports serial ≡ Some port → (0 < serial)
      × (serial < state.next) × LawfulPort port
  pub few_ports : finmap.len state.ports ≤ MAX_PORTS
  pub next : (0 < state.next) × (state.next < 2 ^ 64)
  -- each live port has exactly one receive right, held or carried
  pub one_receive : (serial : ℕ) → lives state serial ≡ true → receive_count state serial ≡ 1
  -- each right names a live port: a port that isn't live has none
  pub live : (serial : ℕ) → lives state serial ≡ false → rights_count state serial ≡ 0
  -- a port is in a set of the space that holds its receive right
  pub sets : (serial set : ℕ) (port : PortState) → finmap.get state.ports serial ≡ Some port → port.set ≡ Some set
      → IsHeldAlongsideSet state serial set

-- No queue holds more messages than a word counts. This is not part of being lawful, since no call of the machine is
-- refused for it: notices and messages by send-once rights are queued whatever the limit. A program keeps it by
-- answering that it is out of memory where a queue would grow past it. An image can encode no other state.
abbrev pub AreShort : finmap.FinMap nat_cmp PortState → Type 0
AreShort ports = (serial : ℕ) (port : PortState) → finmap.get ports serial ≡ Some port → length port.messages < 2 ^ 32

abbrev pub ShortQueues : Ipc → Type 0
ShortQueues state = AreShort state.ports

-- While the effects of a call are drained, rights wait among them, and a port whose receive right waits is still in its
-- set.

-- the rights that wait among effects: released ones, and those that notices are sent by
abbrev pub right_of_effect : Effect → Right
right_of_effect (release kind serial) = record { kind = kind; port = serial; place = waiting }
right_of_effect (notify target what) = record { kind = kind.SendOnce; port = target; place = waiting }

-- every right of a state, and every right that waits among effects
abbrev pub placed_with : Ipc → List Effect → List Right
placed_with state effects = placed state ++ map right_of_effect effects

-- how many rights of a kind a port has, those among effects too
abbrev pub count_with : RightKind → Ipc → List Effect → ℕ → ℕ
count_with wanted state effects serial =
    count_by (λ r. same_kind r.kind wanted && r.port == serial) (placed_with state effects)

-- a port-destroyed notice goes out within the effect that sends it, and never waits
abbrev pub IsWaiting : Effect → Type 0
IsWaiting (release kind serial) = Unit {0}
IsWaiting (notify target (notice.PortDeleted name)) = Unit {0}
IsWaiting (notify target (notice.PortDestroyed serial)) = ⊥
IsWaiting (notify target (notice.NoSenders count)) = Unit {0}
IsWaiting (notify target notice.SendOnce) = Unit {0}
IsWaiting (notify target (notice.DeadName name)) = Unit {0}

abbrev pub AllWaiting : List Effect → Type 0
AllWaiting [] = Unit {0}
AllWaiting (first ∷ rest) = IsWaiting first × AllWaiting rest

-- the port's receive right waits among effects
abbrev pub IsReleased : List Effect → ℕ → Type 0
IsReleased effects serial = Contains effects (release kind.Receive serial)

-- A state is lawful, if the rights that wait among effects count as placed. With no effects left it is lawful.
pub record LawfulBut (state : Ipc) (effects : List Effect) : Type 0 where
  pub first_space : (names : Names) × (finmap.get state.spaces FIRST_SPACE ≡ Some names)
  pub spaces : (space : ℕ) (names : Names) → finmap.get state.spaces space ≡ Some names → (0 < space)
      × (space ≤ MAX_SPACES) × LawfulNames names
  pub ports : (serial : ℕ) (port : PortState) → finmap.get state.ports serial ≡ Some port → (0 < serial)
      × (serial < state.next) × LawfulPort port
  pub few_ports : finmap.len state.ports ≤ MAX_PORTS
  pub next : (0 < state.next) × (state.next < 2 ^ 64)
  -- each live port has exactly one receive right
  pub one_receive : (serial : ℕ) → lives state serial ≡ true → count_with kind.Receive state effects serial ≡ 1
  -- each right that stands in a place names a live port: a port that isn't live has none
  pub live : (serial : ℕ) → lives state serial ≡ false → rights_count state serial ≡ 0
  pub waits : AllWaiting effects
  pub sets : (serial set : ℕ) (port : PortState) → finmap.get state.ports serial ≡ Some port → port.set ≡ Some set
      → IsHeldAlongsideSet state serial set ⊎ IsReleased effects serial
