-- The encoding of a snapshot, row by row. For the snapshot of a state it is the state's image.
use Rattle.std.specs.Prelude.{ℕ, List, [], ◌∷◌, ◌++◌, length, flat_map, Option, None}
use Rattle.codes.specs.StoreVersion.{current}
use Rattle.codes.specs.declared.store_version.StoreVersion.{StoreVersion}
use Rattle.ipc_model.specs.encodings.Images.{entry_encoding, kept_encoding, port_encoding}
use Rattle.ipc_model.specs.declared.reply.NumberedReply.{NumberedReply}
use Rattle.snapshot.specs.declared.rows.LivePort.{LivePort}
use Rattle.snapshot.specs.declared.rows.NamedEntry.{NamedEntry}
use Rattle.snapshot.specs.declared.rows.Snapshot.{Snapshot}
use Rattle.snapshot.specs.declared.rows.Space.{Space}
use Rattle.words.specs.Words.{word, long_word}

-- a name and its entry
abbrev pub named_encoding : NamedEntry → List ℕ
named_encoding row = word row.name ++ entry_encoding row.entry

-- the names of a space
abbrev pub names_encoding_of : List NamedEntry → List ℕ
names_encoding_of names = word (length names) ++ flat_map named_encoding names

-- a space with its kept reply
pub record Row : Type 0 where
  pub space : Space
  pub kept : Option NumberedReply

abbrev pub row_encoding_of : StoreVersion → Row → List ℕ
row_encoding_of version row =
    word row.space.number ++ (kept_encoding version row.kept ++ names_encoding_of row.space.names)

-- Each space with the element at its index in the other list, or with none if that list is too short.
abbrev pub rows_of : List Space → List (Option NumberedReply) → List Row
rows_of [] kept = []
rows_of (space ∷ spaces) [] = record { space = space; kept = None } ∷ rows_of spaces []
rows_of (space ∷ spaces) (first ∷ kept) = record { space = space; kept = first } ∷ rows_of spaces kept

-- a live port: its serial and its state
abbrev pub live_port_encoding : LivePort → List ℕ
live_port_encoding port = long_word port.serial ++ port_encoding port.state

-- a snapshot: the next serial, the spaces, the ports
unfoldable pub snapshot_encoding_of : StoreVersion → Snapshot → List ℕ
snapshot_encoding_of version snapshot =
    long_word snapshot.ipc.next_serial
    ++ (word (length snapshot.ipc.spaces)
    ++ (flat_map (row_encoding_of version) (rows_of snapshot.ipc.spaces snapshot.kept)
    ++ (word (length snapshot.ipc.ports) ++ flat_map live_port_encoding snapshot.ipc.ports)))

-- the encoding in the current version, which is the one that is written
abbrev pub snapshot_encoding : Snapshot → List ℕ
snapshot_encoding = snapshot_encoding_of current
