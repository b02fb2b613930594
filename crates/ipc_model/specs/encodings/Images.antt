-- States in bytes, with one canonical encoding each.
use Rattle.std.specs.Prelude.{ℕ, List, [], ◌∷◌, ◌++◌, length, flat_map, Option, None, Some}
use Rattle.std.specs.FinMap as finmap
use Rattle.codes.specs.StoreVersion.{current}
use Rattle.codes.specs.declared.store_version.StoreVersion.{StoreVersion}
use Rattle.codes.specs.declared.store_version.StoreVersion.TheVariants.{One, Two}
use Rattle.ipc_model.specs.declared.entry.Entry.{Entry}
use Rattle.ipc_model.specs.declared.entry.Entry.TheVariants.{Port, SendOnce, Set, Dead}
use Rattle.ipc_model.specs.declared.message.CarriedRight.{CarriedRight}
use Rattle.ipc_model.specs.declared.message.Message.{Message}
use Rattle.ipc_model.specs.declared.message.PortInMessage.{PortInMessage}
use Rattle.ipc_model.specs.declared.message.PortInMessage.TheVariants as in_message
use Rattle.ipc_model.specs.declared.port.PortState.{PortState}
use Rattle.ipc_model.specs.declared.reply.NumberedReply.{NumberedReply}
use Rattle.ipc_model.specs.rights.Dispositions.{number_of_kind}
use Rattle.ipc_model.specs.messages.Receiving.{message_size}
use Rattle.ipc_model.specs.state.Ipc.{Names}
use Rattle.ipc_model.specs.state.State.{State, KeptReplies}
use Rattle.ipc_model.specs.encodings.Encodings.{numbered_encoding}
use Rattle.ipc_model.specs.encodings.PlainCalls.{number_of_bool}
use Rattle.words.specs.Words.{word, long_word, frame_encoding}

-- a serial or a name, 0 for none
abbrev pub number_or_0 : Option ℕ → ℕ
number_or_0 None = 0
number_or_0 (Some n) = n

-- after an entry's name: a byte for its kind, and the rest
abbrev pub entry_encoding : Entry → List ℕ
entry_encoding (Port rights) =
    1 ∷ (long_word rights.port ++
    (number_of_bool rights.receive ∷ (word rights.send ++ long_word (number_or_0 rights.dead_name_target))))
entry_encoding (SendOnce port target) = 2 ∷ (long_word port ++ long_word (number_or_0 target))
entry_encoding Set = 3 ∷ []
entry_encoding (Dead references) = 4 ∷ word references

-- the names of a space, ascending
abbrev pub names_encoding : Names → List ℕ
names_encoding names = word (finmap.len names) ++ flat_map (λ e. word e.0 ++ entry_encoding e.1) (finmap.entries names)

-- a right in a message: its kind, what stands in the port's place, and the port's serial
abbrev pub place_encoding : PortInMessage → List ℕ
place_encoding in_message.Null = 0 ∷ long_word 0
place_encoding in_message.Dead = 1 ∷ long_word 0
place_encoding (in_message.Live serial) = 2 ∷ long_word serial

abbrev pub carried_encoding : CarriedRight → List ℕ
carried_encoding right = number_of_kind right.kind ∷ place_encoding right.port

abbrev pub reply_right_encoding : Option CarriedRight → List ℕ
reply_right_encoding None = 0 ∷ place_encoding in_message.Null
reply_right_encoding (Some right) = carried_encoding right

abbrev pub message_image : Message → List ℕ
message_image message =
    number_of_kind message.destination ∷
    (reply_right_encoding message.reply ++ (word message.id ++ (word (message_size message)
    ++ (number_of_bool message.complex ∷
    (word (length message.rights) ++ (flat_map carried_encoding message.rights ++ message.body))))))

abbrev pub port_encoding : PortState → List ℕ
port_encoding port =
    word port.limit ++ (word port.sequence_number ++ (word port.make_send_count ++ (word (number_or_0 port.set)
    ++ (long_word (number_or_0 port.no_senders_target) ++ (long_word (number_or_0 port.port_destroyed_target)
    ++ (word (length port.messages) ++ flat_map message_image port.messages))))))

-- After a space's number, version 2 has that of its last request, and the frame of the reply that the space keeps; or
-- 0, if it keeps none. Version 1 has neither.
abbrev pub kept_encoding : StoreVersion → Option NumberedReply → List ℕ
kept_encoding One kept = []
kept_encoding Two None = word 0
kept_encoding Two (Some kept) = word kept.request ++ frame_encoding (numbered_encoding kept)

abbrev pub space_encoding : StoreVersion → KeptReplies → ℕ × Names → List ℕ
space_encoding version kept space =
    word space.0 ++ (kept_encoding version (finmap.get kept space.0) ++ names_encoding space.1)

-- A state: the next serial; the spaces, ascending; the ports, ascending, each with its messages, oldest first.
unfoldable pub image_encoding_of : StoreVersion → State → List ℕ
image_encoding_of version state =
    long_word state.ipc.next
    ++ (word (finmap.len state.ipc.spaces)
    ++ (flat_map (space_encoding version state.kept) (finmap.entries state.ipc.spaces)
    ++ (word (finmap.len state.ipc.ports) ++ flat_map
    (λ e. long_word e.0 ++ port_encoding e.1) (finmap.entries state.ipc.ports))))

-- and as it is written
abbrev pub image_encoding : State → List ℕ
image_encoding = image_encoding_of current
