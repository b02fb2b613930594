-- Worked examples of messages: what is refused, what is queued, and the bytes that are received.
use Rattle.std.specs.Prelude.{◌≡◌, ℕ, true, false, List, [], ◌∷◌, replicate, None, Some, Ok, Err, Result, refl}
use Rattle.std.specs.FinMap as finmap
use Rattle.codes.specs.declared.kern_return.KernReturn.{KernReturn}
use Rattle.codes.specs.declared.kern_return.KernReturn.TheVariants.{SendMsgTooSmall, SendTimedOut, SendInvalidType, SendInvalidReply, SendInvalidHeader, SendInvalidDest}
use Rattle.ipc_model.specs.declared.entry.Entry.TheVariants.{SendOnce, Dead}
use Rattle.ipc_model.specs.declared.message.Message.{Message}
use Rattle.ipc_model.specs.declared.message.PortInMessage.TheVariants as in_message
use Rattle.ipc_model.specs.declared.message.RightKind.TheVariants as kind
use Rattle.ipc_model.specs.rights.CopyIn.{copy_in, taken_keeping}
use Rattle.ipc_model.specs.rights.CopyOut.{names_after}
use Rattle.ipc_model.specs.rights.Dispositions.{MakeSend}
use Rattle.ipc_model.specs.effects.Effects.{queued}
use Rattle.ipc_model.specs.messages.Items.{items_of, is_port_item}
use Rattle.ipc_model.specs.messages.Messages.{body_of}
use Rattle.ipc_model.specs.state.Placed.{placed, send_count}
use Rattle.ipc_model.specs.messages.Receiving.{received_encoding, message_size, without_oldest}
use Rattle.ipc_rows.specs.RowRules.{rows}
use Rattle.ipc_rows.specs.RowStates.{rights_to, names_of, in_space_1, with_queue, plain, live, message_count, one_port, hello, hello_as_sent, asking}
use Rattle.ipc_model.specs.messages.Sending.{Ready, ready_to_send, sent}
use Rattle.ipc_model.specs.state.Ipc.{Ipc, Names, new_port, with_port, without_name, entry_at}

abbrev pub ready_at_1 : Ipc → Message → Result Ready KernReturn
ready_at_1 state message = Ok (record { message = message; port = 1; state = state; notices = [] })

pub hello-ready : ready_to_send (one_port []) 1 hello_as_sent ≡ ready_at_1 (one_port []) hello
unfolding ready_to_send copy_in
hello-ready = simp rows

-- its bits are then those of a send right, and its local name that of the port
pub hello-received : received_encoding hello 0x100 0 []
    ≡ 0 ∷ 17 ∷ 0 ∷ 0 ∷ 28 ∷ 0 ∷ 0 ∷ 0 ∷ 0 ∷ 0 ∷ 0 ∷ 0 ∷ 0 ∷ 1 ∷ 0 ∷ 0 ∷ 0 ∷ 0 ∷ 0 ∷ 0 ∷ 7 ∷ 0 ∷ 0 ∷ 0 ∷ 68 ∷ 51 ∷ 34 ∷
    17 ∷ []
hello-received = refl

pub hello-size : message_size hello ≡ 28
hello-size = refl

-- a queued message holds a send right
pub hello-counted : send_count (one_port (hello ∷ [])) 1 ≡ 2
unfolding placed
hello-counted = simp rows

-- and no longer holds it once it is taken out
pub hello-taken_out : send_count (without_oldest (one_port (hello ∷ [])) 1) 1 ≡ 1
unfolding placed
hello-taken_out = simp rows

-- a queue with five messages, as its limit says, is full
pub sixth-stopped : ready_to_send (one_port (replicate 5 hello)) 1 hello_as_sent ≡ Err SendTimedOut
unfolding ready_to_send copy_in
sixth-stopped = simp rows

abbrev pub hello_once : Message
hello_once = plain kind.SendOnce 7 (68 ∷ 51 ∷ 34 ∷ 17 ∷ [])

-- a message by a send-once right isn't stopped by the limit
pub sixth-by_send_once : ready_to_send (one_port (replicate 5 hello)) 1
    (21 ∷ 0 ∷ 0 ∷ 0 ∷ 28 ∷ 0 ∷ 0 ∷ 0 ∷ 0 ∷ 1 ∷ 0 ∷ 0 ∷ 0 ∷ 0 ∷ 0 ∷ 0 ∷ 0 ∷ 0 ∷ 0 ∷ 0 ∷ 7 ∷ 0 ∷ 0 ∷ 0 ∷ 68 ∷ 51 ∷ 34 ∷ 17
    ∷ [])
    ≡ ready_at_1 (one_port (replicate 5 hello)) hello_once
unfolding ready_to_send copy_in
sixth-by_send_once = simp rows

pub sixth-queued : message_count
    (sent (record { message = hello_once; port = 1; state = one_port (replicate 5 hello); notices = [] })).0 1 ≡ Some 6
unfolding sent
sixth-queued = simp rows

-- 23 bytes are no header, and 26 aren't a multiple of 4
pub header-short : ready_to_send (one_port []) 1
    (19 ∷ 0 ∷ 0 ∷ 0 ∷ 23 ∷ 0 ∷ 0 ∷ 0 ∷ 0 ∷ 1 ∷ 0 ∷ 0 ∷ 0 ∷ 0 ∷ 0 ∷ 0 ∷ 0 ∷ 0 ∷ 0 ∷ 0 ∷ 7 ∷ 0 ∷ 0 ∷ [])
    ≡ Err SendMsgTooSmall
unfolding ready_to_send
header-short = refl

pub size-uneven : ready_to_send (one_port []) 1
    (19 ∷ 0 ∷ 0 ∷ 0 ∷ 26 ∷ 0 ∷ 0 ∷ 0 ∷ 0 ∷ 1 ∷ 0 ∷ 0 ∷ 0 ∷ 0 ∷ 0 ∷ 0 ∷ 0 ∷ 0 ∷ 0 ∷ 0 ∷ 7 ∷ 0 ∷ 0 ∷ 0 ∷ 68 ∷ 51 ∷ [])
    ≡ Err SendMsgTooSmall
unfolding ready_to_send
size-uneven = refl

-- a header with no body is a message
pub header-alone : ready_to_send (one_port []) 1
    (19 ∷ 0 ∷ 0 ∷ 0 ∷ 24 ∷ 0 ∷ 0 ∷ 0 ∷ 0 ∷ 1 ∷ 0 ∷ 0 ∷ 0 ∷ 0 ∷ 0 ∷ 0 ∷ 0 ∷ 0 ∷ 0 ∷ 0 ∷ 7 ∷ 0 ∷ 0 ∷ 0 ∷ [])
    ≡ ready_at_1 (one_port []) (plain kind.Send 7 [])
unfolding ready_to_send copy_in
header-alone = simp rows

-- the word of the size is ignored: the count of the bytes is the size
pub size-ignored : ready_to_send (one_port []) 1
    (19 ∷ 0 ∷ 0 ∷ 0 ∷ 255 ∷ 255 ∷ 255 ∷ 255 ∷ 0 ∷ 1 ∷ 0 ∷ 0 ∷ 0 ∷ 0 ∷ 0 ∷ 0 ∷ 0 ∷ 0 ∷ 0 ∷ 0 ∷ 7 ∷ 0 ∷ 0 ∷ 0 ∷ [])
    ≡ ready_at_1 (one_port []) (plain kind.Send 7 [])
unfolding ready_to_send copy_in
size-ignored = simp rows

-- five characters need eight bytes with the padding, and there are four
pub item-cut : ready_to_send (one_port []) 1
    (19 ∷ 0 ∷ 0 ∷ 128 ∷ 32 ∷ 0 ∷ 0 ∷ 0 ∷ 0 ∷ 1 ∷ 0 ∷ 0 ∷ 0 ∷ 0 ∷ 0 ∷ 0 ∷ 0 ∷ 0 ∷ 0 ∷ 0 ∷ 7 ∷ 0 ∷ 0 ∷ 0 ∷ 8 ∷ 8 ∷ 5 ∷ 16
    ∷ 0 ∷ 0 ∷ 0 ∷ 0 ∷ []) ≡ Err SendMsgTooSmall
unfolding ready_to_send items_of
item-cut = refl

-- with the padding they are an item
pub item-padded : items_of (8 ∷ 8 ∷ 5 ∷ 16 ∷ 104 ∷ 101 ∷ 108 ∷ 108 ∷ 111 ∷ 0 ∷ 0 ∷ 0 ∷ [])
    ≡ Ok ((record {
      type_name = 8;
      bits = 8;
      number = 5;
      is_long = false;
      content = 104 ∷ 101 ∷ 108 ∷ 108 ∷ 111 ∷ 0 ∷ 0 ∷ 0 ∷ [];
    }) ∷ [])
unfolding items_of
item-padded = refl

-- a descriptor that asks for more than there is; a long descriptor without its words; a long one whose word has fields
pub item-too_many : ready_to_send (one_port []) 1
    (19 ∷ 0 ∷ 0 ∷ 128 ∷ 36 ∷ 0 ∷ 0 ∷ 0 ∷ 0 ∷ 1 ∷ 0 ∷ 0 ∷ 0 ∷ 0 ∷ 0 ∷ 0 ∷ 0 ∷ 0 ∷ 0 ∷ 0 ∷ 7 ∷ 0 ∷ 0 ∷ 0 ∷ 0 ∷ 0 ∷ 0 ∷ 48
    ∷ 8 ∷ 0 ∷ 255 ∷ 255 ∷ 255 ∷ 255 ∷ 255 ∷ 255 ∷ []) ≡ Err SendMsgTooSmall
unfolding ready_to_send items_of
item-too_many = refl

pub item-long_cut : ready_to_send (one_port []) 1
    (19 ∷ 0 ∷ 0 ∷ 128 ∷ 28 ∷ 0 ∷ 0 ∷ 0 ∷ 0 ∷ 1 ∷ 0 ∷ 0 ∷ 0 ∷ 0 ∷ 0 ∷ 0 ∷ 0 ∷ 0 ∷ 0 ∷ 0 ∷ 7 ∷ 0 ∷ 0 ∷ 0 ∷ 0 ∷ 0 ∷ 0 ∷ 48
    ∷ []) ≡ Err SendMsgTooSmall
unfolding ready_to_send items_of
item-long_cut = refl

pub item-long_fields : ready_to_send (one_port []) 1
    (19 ∷ 0 ∷ 0 ∷ 128 ∷ 36 ∷ 0 ∷ 0 ∷ 0 ∷ 0 ∷ 1 ∷ 0 ∷ 0 ∷ 0 ∷ 0 ∷ 0 ∷ 0 ∷ 0 ∷ 0 ∷ 0 ∷ 0 ∷ 7 ∷ 0 ∷ 0 ∷ 0 ∷ 8 ∷ 8 ∷ 5 ∷ 48
    ∷ 0 ∷ 0 ∷ 0 ∷ 0 ∷ 0 ∷ 0 ∷ 0 ∷ 0 ∷ []) ≡ Err SendInvalidType
unfolding ready_to_send items_of
item-long_fields = refl

-- a body without the complex bit isn't looked at
pub body-not_looked_at : ready_to_send (one_port []) 1
    (19 ∷ 0 ∷ 0 ∷ 0 ∷ 28 ∷ 0 ∷ 0 ∷ 0 ∷ 0 ∷ 1 ∷ 0 ∷ 0 ∷ 0 ∷ 0 ∷ 0 ∷ 0 ∷ 0 ∷ 0 ∷ 0 ∷ 0 ∷ 7 ∷ 0 ∷ 0 ∷ 0 ∷ 0 ∷ 0 ∷ 0 ∷ 48 ∷
    []) ≡ ready_at_1 (one_port []) (plain kind.Send 7 (0 ∷ 0 ∷ 0 ∷ 48 ∷ []))
unfolding ready_to_send copy_in
body-not_looked_at = simp rows

-- Three send rights to the port of 0x100, made by one message that goes to 0x101.
abbrev pub two_ports : Ipc
two_ports =
    in_space_1 ((0x100, rights_to 1 true 0) ∷ (0x101, rights_to 2 true 0) ∷ []) ((1, new_port) ∷ (2, new_port) ∷ [])

abbrev pub three_rights : Message
three_rights = record {
  destination = kind.Send;
  reply = None;
  id = 9;
  complex = true;
  rights = live kind.Send 1 ∷ live kind.Send 1 ∷ live kind.Send 1 ∷ [];
  body = 0 ∷ 0 ∷ 0 ∷ 48 ∷ 17 ∷ 0 ∷ 32 ∷ 0 ∷ 3 ∷ 0 ∷ 0 ∷ 0 ∷ 0 ∷ 0 ∷ 0 ∷ 0 ∷ 0 ∷ 0 ∷ 0 ∷ 0 ∷ 0 ∷ 0 ∷ 0 ∷ 0 ∷ [];
}

abbrev pub three_as_sent : List ℕ
three_as_sent =
    20 ∷ 0 ∷ 0 ∷ 128 ∷ 48 ∷ 0 ∷ 0 ∷ 0 ∷ 1 ∷ 1 ∷ 0 ∷ 0 ∷ 0 ∷ 0 ∷ 0 ∷ 0 ∷ 0 ∷ 0 ∷ 0 ∷ 0 ∷ 9 ∷ 0 ∷ 0 ∷ 0 ∷ 0 ∷ 0 ∷ 0 ∷ 48 ∷
    20 ∷ 0 ∷ 32 ∷ 0 ∷ 3 ∷ 0 ∷ 0 ∷ 0 ∷ 0 ∷ 1 ∷ 0 ∷ 0 ∷ 0 ∷ 1 ∷ 0 ∷ 0 ∷ 0 ∷ 1 ∷ 0 ∷ 0 ∷ []

-- the body is one item of three names
pub three-items : items_of (body_of three_as_sent)
    ≡ Ok ((record {
      type_name = 20;
      bits = 32;
      number = 3;
      is_long = true;
      content = 0 ∷ 1 ∷ 0 ∷ 0 ∷ 0 ∷ 1 ∷ 0 ∷ 0 ∷ 0 ∷ 1 ∷ 0 ∷ 0 ∷ [];
    }) ∷ [])
unfolding items_of
three-items = refl

-- each right is made from the receive right, which stays
pub three-one_made : copy_in two_ports 1 0x100 MakeSend
    ≡ Some (taken_keeping (with_port two_ports 1 (λ port. record port { make_send_count = 1 })) (live kind.Send 1))
unfolding copy_in
three-one_made = simp rows

-- while the message is queued its rights count
pub three-counted : send_count (queued two_ports 2 three_rights) 1 ≡ 3
unfolding placed
three-counted = simp rows

-- received, they are three references of one send right
abbrev pub one_more : Names → Names
one_more names = names_after names kind.Send (in_message.Live 1) 0x100

pub three-arrived : finmap.get (one_more (one_more (one_more (names_of ((0x100, rights_to 1 true 0) ∷ []))))) 0x100
    ≡ Some (rights_to 1 true 3)
three-arrived = simp rows

pub three-received : received_encoding three_rights 0x101 0 (0x100 ∷ 0x100 ∷ 0x100 ∷ [])
    ≡ 0 ∷ 17 ∷ 0 ∷ 128 ∷ 48 ∷ 0 ∷ 0 ∷ 0 ∷ 0 ∷ 0 ∷ 0 ∷ 0 ∷ 1 ∷ 1 ∷ 0 ∷ 0 ∷ 0 ∷ 0 ∷ 0 ∷ 0 ∷ 9 ∷ 0 ∷ 0 ∷ 0 ∷ 0 ∷ 0 ∷ 0 ∷ 48
    ∷ 17 ∷ 0 ∷ 32 ∷ 0 ∷ 3 ∷ 0 ∷ 0 ∷ 0 ∷ 0 ∷ 1 ∷ 0 ∷ 0 ∷ 0 ∷ 1 ∷ 0 ∷ 0 ∷ 0 ∷ 1 ∷ 0 ∷ 0 ∷ []
unfolding items_of
three-received = refl

-- A message with a reply right: 0x101's port is to be answered by a send-once right.
abbrev pub with_reply : List Message → Ipc
with_reply messages =
    in_space_1 ((0x100, rights_to 1 true 1) ∷ (0x101, rights_to 2 true 0) ∷ [])
    ((1, with_queue messages) ∷ (2, new_port) ∷ [])

pub reply-taken : ready_to_send (with_reply []) 1
    (19 ∷ 21 ∷ 0 ∷ 0 ∷ 24 ∷ 0 ∷ 0 ∷ 0 ∷ 0 ∷ 1 ∷ 0 ∷ 0 ∷ 1 ∷ 1 ∷ 0 ∷ 0 ∷ 0 ∷ 0 ∷ 0 ∷ 0 ∷ 9 ∷ 0 ∷ 0 ∷ 0 ∷ [])
    ≡ ready_at_1 (with_reply []) asking
unfolding ready_to_send copy_in
reply-taken = simp rows

-- as received, remote and local have changed places
pub reply-received : received_encoding asking 0x100 0 (0x102 ∷ [])
    ≡ 18 ∷ 17 ∷ 0 ∷ 0 ∷ 24 ∷ 0 ∷ 0 ∷ 0 ∷ 2 ∷ 1 ∷ 0 ∷ 0 ∷ 0 ∷ 1 ∷ 0 ∷ 0 ∷ 0 ∷ 0 ∷ 0 ∷ 0 ∷ 9 ∷ 0 ∷ 0 ∷ 0 ∷ []
reply-received = refl

-- a reply name of MACH_PORT_NULL keeps its type, as received
abbrev pub asking_nobody : Message
asking_nobody =
    record {
      destination = kind.Send;
      reply = Some (record { kind = kind.SendOnce; port = in_message.Null });
      id = 9;
      complex = false;
      rights = [];
      body = [];
    }

pub reply-null : ready_to_send (one_port []) 1
    (19 ∷ 21 ∷ 0 ∷ 0 ∷ 24 ∷ 0 ∷ 0 ∷ 0 ∷ 0 ∷ 1 ∷ 0 ∷ 0 ∷ 0 ∷ 0 ∷ 0 ∷ 0 ∷ 0 ∷ 0 ∷ 0 ∷ 0 ∷ 9 ∷ 0 ∷ 0 ∷ 0 ∷ [])
    ≡ ready_at_1 (one_port []) asking_nobody
unfolding ready_to_send copy_in
reply-null = simp rows

pub reply-null_received : received_encoding asking_nobody 0x100 0 (0 ∷ [])
    ≡ 18 ∷ 17 ∷ 0 ∷ 0 ∷ 24 ∷ 0 ∷ 0 ∷ 0 ∷ 0 ∷ 0 ∷ 0 ∷ 0 ∷ 0 ∷ 1 ∷ 0 ∷ 0 ∷ 0 ∷ 0 ∷ 0 ∷ 0 ∷ 9 ∷ 0 ∷ 0 ∷ 0 ∷ []
reply-null_received = refl

-- a port item of no names is a port item: the type is as received, and the message is complex without rights
abbrev pub no_names : Message
no_names =
    record { destination = kind.Send; reply = None; id = 9; complex = true; rights = []; body = 17 ∷ 32 ∷ 0 ∷ 16 ∷ [] }

pub no_names-taken : ready_to_send (one_port []) 1
    (19 ∷ 0 ∷ 0 ∷ 128 ∷ 28 ∷ 0 ∷ 0 ∷ 0 ∷ 0 ∷ 1 ∷ 0 ∷ 0 ∷ 0 ∷ 0 ∷ 0 ∷ 0 ∷ 0 ∷ 0 ∷ 0 ∷ 0 ∷ 9 ∷ 0 ∷ 0 ∷ 0 ∷ 20 ∷ 32 ∷ 0 ∷
    16 ∷ []) ≡ ready_at_1 (one_port []) no_names
unfolding ready_to_send copy_in items_of
no_names-taken = simp rows

pub no_names-received : received_encoding no_names 0x100 0 []
    ≡ 0 ∷ 17 ∷ 0 ∷ 128 ∷ 28 ∷ 0 ∷ 0 ∷ 0 ∷ 0 ∷ 0 ∷ 0 ∷ 0 ∷ 0 ∷ 1 ∷ 0 ∷ 0 ∷ 0 ∷ 0 ∷ 0 ∷ 0 ∷ 9 ∷ 0 ∷ 0 ∷ 0 ∷ 17 ∷ 32 ∷ 0 ∷
    16 ∷ []
unfolding items_of
no_names-received = refl

-- the type of a long descriptor has 16 bits: 0x0114 isn't 0x14, and its words are data
pub long_name-is_data : items_of (0 ∷ 0 ∷ 0 ∷ 48 ∷ 20 ∷ 1 ∷ 32 ∷ 0 ∷ 1 ∷ 0 ∷ 0 ∷ 0 ∷ 0 ∷ 1 ∷ 0 ∷ 0 ∷ [])
    ≡ Ok ((record { type_name = 0x0114; bits = 32; number = 1; is_long = true; content = 0 ∷ 1 ∷ 0 ∷ 0 ∷ [] }) ∷ [])
unfolding items_of
long_name-is_data = refl

pub long_name-no_port : is_port_item
    (record { type_name = 0x0114; bits = 32; number = 1; is_long = true; content = 0 ∷ 1 ∷ 0 ∷ 0 ∷ [] }) ≡ false
long_name-no_port = refl

-- a moved send-once right: its name goes, and the message isn't stopped by the limit
abbrev pub once_name : List Message → Ipc
once_name messages =
    in_space_1 ((0x100, rights_to 1 true 0) ∷ (0x101, SendOnce 1 None) ∷ []) ((1, with_queue messages) ∷ [])

pub once-moved : ready_to_send (once_name []) 1
    (18 ∷ 0 ∷ 0 ∷ 0 ∷ 24 ∷ 0 ∷ 0 ∷ 0 ∷ 1 ∷ 1 ∷ 0 ∷ 0 ∷ 0 ∷ 0 ∷ 0 ∷ 0 ∷ 0 ∷ 0 ∷ 0 ∷ 0 ∷ 9 ∷ 0 ∷ 0 ∷ 0 ∷ [])
    ≡ ready_at_1 (without_name (once_name []) 1 0x101) (plain kind.SendOnce 9 [])
unfolding ready_to_send copy_in
once-moved = simp rows

pub once-name_gone : entry_at (without_name (once_name []) 1 0x101) 1 0x101 ≡ None
once-name_gone = simp rows

pub once-received : received_encoding (plain kind.SendOnce 9 []) 0x100 0 []
    ≡ 0 ∷ 18 ∷ 0 ∷ 0 ∷ 24 ∷ 0 ∷ 0 ∷ 0 ∷ 0 ∷ 0 ∷ 0 ∷ 0 ∷ 0 ∷ 1 ∷ 0 ∷ 0 ∷ 0 ∷ 0 ∷ 0 ∷ 0 ∷ 9 ∷ 0 ∷ 0 ∷ 0 ∷ []
once-received = refl

-- One name is the destination and names the reply. A use that only copies a right comes before one that moves it.
abbrev pub one_sender : Ipc
one_sender = in_space_1 ((0x100, rights_to 1 false 1) ∷ []) ((1, new_port) ∷ [])

pub reply-first : ready_to_send one_sender 1
    (17 ∷ 19 ∷ 0 ∷ 0 ∷ 24 ∷ 0 ∷ 0 ∷ 0 ∷ 0 ∷ 1 ∷ 0 ∷ 0 ∷ 0 ∷ 1 ∷ 0 ∷ 0 ∷ 0 ∷ 0 ∷ 0 ∷ 0 ∷ 9 ∷ 0 ∷ 0 ∷ 0 ∷ [])
    ≡ ready_at_1 (without_name one_sender 1 0x100)
    (record {
      destination = kind.Send;
      reply = Some (live kind.Send 1);
      id = 9;
      complex = false;
      rights = [];
      body = [];
    })
unfolding ready_to_send copy_in
reply-first = simp rows

-- where both move it, the destination is first, and nothing is left for the reply
pub reply-nothing_left : ready_to_send one_sender 1
    (17 ∷ 17 ∷ 0 ∷ 0 ∷ 24 ∷ 0 ∷ 0 ∷ 0 ∷ 0 ∷ 1 ∷ 0 ∷ 0 ∷ 0 ∷ 1 ∷ 0 ∷ 0 ∷ 0 ∷ 0 ∷ 0 ∷ 0 ∷ 9 ∷ 0 ∷ 0 ∷ 0 ∷ [])
    ≡ Err SendInvalidReply
unfolding ready_to_send copy_in
reply-nothing_left = simp rows

-- a receive right is no destination, and neither is MACH_PORT_NULL
pub destination-receive : ready_to_send one_sender 1
    (16 ∷ 0 ∷ 0 ∷ 0 ∷ 24 ∷ 0 ∷ 0 ∷ 0 ∷ 0 ∷ 1 ∷ 0 ∷ 0 ∷ 0 ∷ 0 ∷ 0 ∷ 0 ∷ 0 ∷ 0 ∷ 0 ∷ 0 ∷ 9 ∷ 0 ∷ 0 ∷ 0 ∷ [])
    ≡ Err SendInvalidHeader
unfolding ready_to_send
destination-receive = refl

pub destination-null : ready_to_send one_sender 1
    (19 ∷ 0 ∷ 0 ∷ 0 ∷ 24 ∷ 0 ∷ 0 ∷ 0 ∷ 0 ∷ 0 ∷ 0 ∷ 0 ∷ 0 ∷ 0 ∷ 0 ∷ 0 ∷ 0 ∷ 0 ∷ 0 ∷ 0 ∷ 9 ∷ 0 ∷ 0 ∷ 0 ∷ [])
    ≡ Err SendInvalidDest
unfolding ready_to_send
destination-null = refl

-- a dead name is no destination
pub destination-dead : ready_to_send (in_space_1 ((0x100, Dead 1) ∷ []) []) 1
    (19 ∷ 0 ∷ 0 ∷ 0 ∷ 24 ∷ 0 ∷ 0 ∷ 0 ∷ 0 ∷ 1 ∷ 0 ∷ 0 ∷ 0 ∷ 0 ∷ 0 ∷ 0 ∷ 0 ∷ 0 ∷ 0 ∷ 0 ∷ 9 ∷ 0 ∷ 0 ∷ 0 ∷ [])
    ≡ Err SendInvalidDest
unfolding ready_to_send copy_in
destination-dead = simp rows
