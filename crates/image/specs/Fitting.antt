-- The snapshots that an image can encode: their numbers fit their words, and their rows ascend.
use Rattle.std.specs.Prelude.{◌≡◌, ◌≢◌, ◌^◌, ◌<◌, length, map, All, Option, None, Some}
use Rattle.codes.specs.declared.store_version.StoreVersion.{StoreVersion}
use Rattle.codes.specs.declared.store_version.StoreVersion.TheVariants.{One, Two}
use Rattle.ipc_laws.specs.ImageLaws.{EncodableNamed, EncodableReplyRight, EncodableRight, EncodableSet, EncodableTarget}
use Rattle.ipc_model.specs.declared.message.Message.{Message}
use Rattle.ipc_model.specs.declared.message.RightKind.TheVariants as kind
use Rattle.ipc_model.specs.declared.port.PortState.{PortState}
use Rattle.ipc_model.specs.declared.reply.NumberedReply.{NumberedReply}
use Rattle.ipc_model.specs.state.LawfulState.{IsKeptReply}
use Rattle.ipc_model.specs.messages.Receiving.{message_size}
use Rattle.ipc_model.specs.encodings.PlainCalls.{IsMessageSize}
pub use Rattle.snapshot.specs.Ascending.{AscendsFrom, name_of, number_of, serial_of}
use Rattle.snapshot.specs.declared.rows.LivePort.{LivePort}
use Rattle.snapshot.specs.declared.rows.NamedEntry.{NamedEntry}
use Rattle.snapshot.specs.declared.rows.Snapshot.{Snapshot}
use Rattle.snapshot.specs.declared.rows.Space.{Space}
use Rattle.image.specs.Rows.{Row, rows_of}
use Rattle.words.specs.Words.{AreBytes}

-- a queued message: sent by a send right or a send-once right, of a size that messages may have, with bytes as its
-- body, and with its other numbers within their words
pub record FitsMessage (message : Message) : Type 0 where
  pub destination : message.destination ≢ kind.Receive
  pub reply : EncodableReplyRight message.reply
  pub id : message.id < 2 ^ 32
  pub size : IsMessageSize (message_size message)
  pub few_rights : length message.rights < 2 ^ 32
  pub rights : All EncodableRight message.rights
  pub bytes : AreBytes message.body

-- the state of a live port
pub record FitsPort (port : PortState) : Type 0 where
  pub limit : port.limit < 2 ^ 32
  pub sequence_number : port.sequence_number < 2 ^ 32
  pub make_send_count : port.make_send_count < 2 ^ 32
  pub set : EncodableSet port.set
  pub no_senders_target : EncodableTarget port.no_senders_target
  pub port_destroyed_target : EncodableTarget port.port_destroyed_target
  pub few_messages : length port.messages < 2 ^ 32
  pub messages : All FitsMessage port.messages

-- a name with its entry
abbrev pub FitsNamed : NamedEntry → Type 0
FitsNamed row = EncodableNamed (row.name, row.entry)

-- a space
pub record FitsSpace (space : Space) : Type 0 where
  pub number : space.number < 2 ^ 32
  pub few_names : length space.names < 2 ^ 32
  pub names : All FitsNamed space.names
  pub names_ascend : AscendsFrom 0 (map name_of space.names)

-- the kept reply of a space, which must be absent in version 1
abbrev pub FitsKept : StoreVersion → Option NumberedReply → Type 0
FitsKept version None = Unit {0}
FitsKept One (Some kept) = ⊥
FitsKept Two (Some kept) = IsKeptReply kept

-- a space with its kept reply
abbrev pub FitsRow : StoreVersion → Row → Type 0
FitsRow version row = FitsSpace row.space × FitsKept version row.kept

-- a live port with its serial
abbrev pub FitsLivePort : LivePort → Type 0
FitsLivePort port = (port.serial < 2 ^ 64) × FitsPort port.state

-- A snapshot that an image of a version can encode.
pub record FitsImage (version : StoreVersion) (snapshot : Snapshot) : Type 0 where
  pub next_serial : snapshot.ipc.next_serial < 2 ^ 64
  pub few_spaces : length snapshot.ipc.spaces < 2 ^ 32
  pub spaces : All (FitsRow version) (rows_of snapshot.ipc.spaces snapshot.kept)
  pub spaces_ascend : AscendsFrom 0 (map number_of snapshot.ipc.spaces)
  pub each_kept : length snapshot.kept ≡ length snapshot.ipc.spaces
  pub few_ports : length snapshot.ipc.ports < 2 ^ 32
  pub ports : All FitsLivePort snapshot.ipc.ports
  pub ports_ascend : AscendsFrom 0 (map serial_of snapshot.ipc.ports)
