-- The parts from which the states of worked examples are made.
use Rattle.std.specs.Prelude.{ℕ, Bool, true, false, List, [], ◌∷◌, length, Option, None, Some, option_map}
use Rattle.std.specs.FinMap as finmap
use Rattle.ipc_model.specs.declared.entry.Entry.{Entry}
use Rattle.ipc_model.specs.declared.entry.Entry.TheVariants.{Port}
use Rattle.ipc_model.specs.declared.message.CarriedRight.{CarriedRight}
use Rattle.ipc_model.specs.declared.message.Message.{Message}
use Rattle.ipc_model.specs.declared.message.PortInMessage.TheVariants.{Live}
use Rattle.ipc_model.specs.declared.message.RightKind.{RightKind}
use Rattle.ipc_model.specs.declared.message.RightKind.TheVariants as kind
use Rattle.ipc_model.specs.declared.port.PortState.{PortState}
use Rattle.ipc_model.specs.state.Ipc.{Ipc, Names, new_port}
use Rattle.ipc_model.specs.declared.call.Call.{Call}
use Rattle.ipc_model.specs.declared.call.Call.TheVariants as call
use Rattle.ipc_model.specs.declared.plain_call.PlainCall.{PlainCall}
use Rattle.ipc_model.specs.declared.plain_reply.PlainReply.{PlainReply}
use Rattle.ipc_model.specs.declared.reply.Reply.{Reply}
use Rattle.ipc_model.specs.declared.reply.Reply.TheVariants as reply
use Rattle.ipc_model.specs.state.State.{State}

-- a name's send and receive rights of a port, without a dead-name request
abbrev pub rights_to : ℕ → Bool → ℕ → Entry
rights_to serial receive send = Port (record { port = serial; receive = receive; send = send; dead_name_target = None })

-- the names of a space
abbrev pub names_of : List (ℕ × Entry) → Names
names_of entries = finmap.from_entries entries

-- a state with only space 1, in which the next port gets serial 10
abbrev pub in_space_1 : List (ℕ × Entry) → List (ℕ × PortState) → Ipc
in_space_1 entries ports =
    record { spaces = finmap.insert finmap.empty 1 (names_of entries); ports = finmap.from_entries ports; next = 10 }

-- a port with these messages in its queue, else as new
abbrev pub with_queue : List Message → PortState
with_queue messages = record new_port { messages = messages }

-- a message by a right of this kind, without ports
abbrev pub plain : RightKind → ℕ → List ℕ → Message
plain destination id body =
    record { destination = destination; reply = None; id = id; complex = false; rights = []; body = body }

abbrev pub live : RightKind → ℕ → CarriedRight
live of_kind serial = record { kind = of_kind; port = Live serial }

-- what waits in a port's queue
abbrev pub queue_of : Ipc → ℕ → Option (List Message)
queue_of state serial = option_map (λ (port : PortState). port.messages) (finmap.get state.ports serial)

abbrev pub message_count : Ipc → ℕ → Option ℕ
message_count state serial = option_map (λ (messages : List Message). length messages) (queue_of state serial)

-- one port, whose receive right and one send reference stand under the name 0x100
abbrev pub one_port : List Message → Ipc
one_port messages = in_space_1 ((0x100, rights_to 1 true 1) ∷ []) ((1, with_queue messages) ∷ [])

abbrev pub hello : Message
hello = plain kind.Send 7 (68 ∷ 51 ∷ 34 ∷ 17 ∷ [])

-- a message of 28 bytes, sent to 0x100 by a copy of its send right, which carries what `hello` does
abbrev pub hello_as_sent : List ℕ
hello_as_sent =
    19 ∷ 0 ∷ 0 ∷ 0 ∷ 28 ∷ 0 ∷ 0 ∷ 0 ∷ 0 ∷ 1 ∷ 0 ∷ 0 ∷ 0 ∷ 0 ∷ 0 ∷ 0 ∷ 0 ∷ 0 ∷ 0 ∷ 0 ∷ 7 ∷ 0 ∷ 0 ∷ 0 ∷ 68 ∷ 51 ∷ 34 ∷ 17
    ∷ []

-- a message with a send-once right to port 2 to reply by
abbrev pub asking : Message
asking =
    record {
      destination = kind.Send;
      reply = Some (live kind.SendOnce 2);
      id = 9;
      complex = false;
      rights = [];
      body = [];
    }

-- A state whose spaces keep no replies, and plain calls and replies.
abbrev pub keeps_none : Ipc → State
keeps_none ipc = record { ipc = ipc; kept = finmap.empty }

abbrev pub asked : PlainCall → Call
asked c = call.Plain c

abbrev pub answered : PlainReply → Reply
answered r = reply.Plain r
