-- Sending a message. (Kernel Interfaces, mach_msg, MACH_SEND_MSG.)
use Rattle.std.specs.Prelude.{ℕ, ◌%◌, Bool, true, false, ◌==◌, ◌&&◌, ◌||◌, not, nat_le, nat_lt, List, [], ◌∷◌, ◌++◌, length, map, flat_map, Option, None, Some, option_map, Result, Ok, if◌then◌else◌}
use Rattle.std.specs.List.{list_any}
use Rattle.std.specs.FinMap as finmap
use Rattle.codes.specs.declared.kern_return.KernReturn.{KernReturn}
use Rattle.codes.specs.declared.kern_return.KernReturn.TheVariants.{SendInvalidDest, SendTimedOut, SendMsgTooSmall, SendInvalidReply, SendInvalidRight, SendNoBuffer, SendInvalidHeader}
use Rattle.codes.specs.declared.limits.TheConstants.{MAX_MESSAGE_SIZE, MAX_MESSAGE_PORTS}
use Rattle.codes.specs.declared.name.TheConstants.{MACH_PORT_NULL}
use Rattle.ipc_model.specs.declared.message.CarriedRight.{CarriedRight}
use Rattle.ipc_model.specs.declared.message.Message.{Message}
use Rattle.ipc_model.specs.declared.message.PortInMessage.{PortInMessage}
use Rattle.ipc_model.specs.declared.message.PortInMessage.TheVariants as in_message
use Rattle.ipc_model.specs.declared.message.RightKind.{RightKind}
use Rattle.ipc_model.specs.declared.message.RightKind.TheVariants as kind
use Rattle.ipc_model.specs.state.Circular.{is_circular}
use Rattle.ipc_model.specs.rights.CopyIn.{Taken, copy_in}
use Rattle.ipc_model.specs.rights.Dispositions.{Disposition, MoveReceive, MoveSend, MoveSendOnce, CopySend, MakeSend, MakeSendOnce, disposition_of, number_of_disposition, received_kind}
use Rattle.ipc_model.specs.effects.Effects.{Effect, release, releases_of, queued, Outcome}
use Rattle.ipc_model.specs.messages.Items.{Item, items_of, items_encoding, as_stored, is_port_item, names_of_item}
use Rattle.ipc_model.specs.messages.Messages.{UsedParts, used_parts, header_length}
use Rattle.ipc_model.specs.state.Placed.{same_kind}
use Rattle.ipc_model.specs.state.Ipc.{Ipc, is_null_or_dead}
use Rattle.ipc_model.specs.calls.Tests.{Tests, and_then, or_refused, unless_failing}

-- The rights that a send has taken from the caller's names so far, the state without what they consumed, and the
-- port-deleted notices of names that ceased to be.
pub record TakenRights : Type 0 where
  pub rights : List CarriedRight
  pub state : Ipc
  pub notices : List Effect

-- MACH_PORT_NULL and MACH_PORT_DEAD pass through with their kind
abbrev pub passed : ℕ → PortInMessage
passed name = if name == MACH_PORT_NULL then in_message.Null else in_message.Dead

-- one more right
abbrev pub take_right : ℕ → ℕ → Disposition → TakenRights → Option TakenRights
take_right space name disposition taken =
    if is_null_or_dead name
    then Some (record taken {
      rights = taken.rights
          ++ (record { kind = received_kind disposition; port = passed name }) ∷ [];
    })
    else option_map (λ (next : Taken).
    record {
      rights = taken.rights ++ next.right ∷ [];
      state = next.state;
      notices = taken.notices ++ next.notices;
    })
    (copy_in taken.state space name disposition)

-- the rights of names, from the left
abbrev pub take_rights : ℕ → Disposition → List ℕ → TakenRights → Option TakenRights
take_rights space disposition [] taken = Some taken
take_rights space disposition (name ∷ names) taken =
    elim (take_right space name disposition taken) as (λ _. Option TakenRights)
    [ None ↦ None | Some next ↦ take_rights space disposition names next ]

abbrev pub take_item : ℕ → Item → Option Disposition → TakenRights → Option TakenRights
take_item space item None taken = Some taken
take_item space item (Some disposition) taken = take_rights space disposition (names_of_item item) taken

-- the rights of all port items, from the left
abbrev pub take_items : ℕ → List Item → TakenRights → Option TakenRights
take_items space [] taken = Some taken
take_items space (item ∷ items) taken =
    elim (take_item space item (disposition_of item.type_name) taken) as (λ _. Option TakenRights)
    [ None ↦ None | Some next ↦ take_items space items next ]

-- The rights of a message's header: the destination, by a right to a port that lives, and the reply right.
pub record TakenHeader : Type 0 where
  pub kind : RightKind
  pub port : ℕ
  pub reply : Option CarriedRight
  pub state : Ipc
  pub notices : List Effect

-- the port of a destination; a dead name has none
abbrev pub live_port : PortInMessage → Option ℕ
live_port in_message.Null = None
live_port in_message.Dead = None
live_port (in_message.Live serial) = Some serial

-- a disposition that moves a right, and so consumes something of its name
abbrev pub consumes : Disposition → Bool
consumes MoveReceive = true
consumes MoveSend = true
consumes MoveSendOnce = true
consumes CopySend = false
consumes MakeSend = false
consumes MakeSendOnce = false

-- what was taken for a destination, and the serial of its port
pub record TakenDestination : Type 0 where
  pub taken : Taken
  pub port : ℕ

abbrev pub destination_at : Taken → ℕ → TakenDestination
destination_at taken serial = record { taken = taken; port = serial }

-- a right that was taken is a destination if its port lives
abbrev pub destination_of : Taken → Result TakenDestination KernReturn
destination_of taken =
    and_then (or_refused SendInvalidDest (live_port taken.right.port)) (λ (serial : ℕ).
    Ok (destination_at taken serial))

abbrev pub take_destination : Ipc → ℕ → ℕ → Disposition → Result TakenDestination KernReturn
take_destination state space name disposition =
    and_then (or_refused SendInvalidDest (copy_in state space name disposition)) destination_of

-- the reply right, if the header names one; MACH_PORT_NULL and MACH_PORT_DEAD pass through
pub record TakenReply : Type 0 where
  pub reply : Option CarriedRight
  pub state : Ipc
  pub notices : List Effect

abbrev pub take_reply : Ipc → ℕ → ℕ → Option Disposition → Result TakenReply KernReturn
take_reply state space name None = Ok (record { reply = None; state = state; notices = [] })
take_reply state space name (Some disposition) =
    if is_null_or_dead name
    then Ok (record {
      reply = Some (record { kind = received_kind disposition; port = passed name });
      state = state;
      notices = [];
    })
    else and_then (or_refused SendInvalidReply (copy_in state space name disposition)) (λ (taken : Taken).
    Ok (record { reply = Some taken.right; state = taken.state; notices = taken.notices }))

-- The destination comes first, unless it moves a right and the reply doesn't.
abbrev pub reply_goes_first : Disposition → Option Disposition → Bool
reply_goes_first destination None = false
reply_goes_first destination (Some reply) = consumes destination && not (consumes reply)

-- a header of these two rights, with the state and the notices after both
abbrev pub header_of : TakenDestination → TakenReply → Ipc → List Effect → TakenHeader
header_of destination reply state notices = record {
  kind = destination.taken.right.kind;
  port = destination.port;
  reply = reply.reply;
  state = state;
  notices = notices;
}

-- the reply right is taken, and then the destination
abbrev pub take_reply_first : Ipc → ℕ → ℕ → Disposition → ℕ → Option Disposition → Result TakenHeader KernReturn
take_reply_first state space remote destination local reply =
    and_then (take_reply state space local reply) (λ (first : TakenReply).
    and_then (take_destination first.state space remote destination) (λ (second : TakenDestination).
    Ok (header_of second first second.taken.state (first.notices ++ second.taken.notices))))

-- the destination is taken, and then the reply right
abbrev pub take_destination_first : Ipc → ℕ → ℕ → Disposition → ℕ → Option Disposition
    → Result TakenHeader KernReturn
take_destination_first state space remote destination local reply =
    and_then (take_destination state space remote destination) (λ (first : TakenDestination).
    and_then (take_reply first.taken.state space local reply) (λ (second : TakenReply).
    Ok (header_of first second second.state (first.taken.notices ++ second.notices))))

abbrev pub take_header : Ipc → ℕ → ℕ → Disposition → ℕ → Option Disposition → Result TakenHeader KernReturn
take_header state space remote destination local reply =
    if reply_goes_first destination reply then take_reply_first state space remote destination local reply
    else take_destination_first state space remote destination local reply

-- the items of a body; without MACH_MSGH_BITS_COMPLEX the body isn't read, and has none
abbrev pub items_if_complex : Bool → List ℕ → Result (List Item) KernReturn
items_if_complex complex body = if complex then items_of body else Ok []

-- how many ports items hold, NULL and DEAD among them
abbrev pub ports_in : List Item → ℕ
ports_in items = length (flat_map names_of_item items)

abbrev pub tests_of_size : ℕ → Tests
tests_of_size size =
    (nat_lt size header_length || not (size % 4 == 0), SendMsgTooSmall) ∷ (nat_lt MAX_MESSAGE_SIZE size, SendNoBuffer) ∷
    []

-- a disposition for a header names a send or send-once right
abbrev pub header_disposition : ℕ → Option Disposition
header_disposition n = if n == number_of_disposition MoveReceive then None else disposition_of n

-- the reply's disposition, or none where there is no reply; anything else is refused
abbrev pub reply_disposition : ℕ → ℕ → Result (Option Disposition) KernReturn
reply_disposition n name =
    if n == 0 && name == MACH_PORT_NULL then Ok None
    else and_then (or_refused SendInvalidHeader (header_disposition n))
    (λ (disposition : Disposition). Ok (Some disposition))

-- A message that is ready to be queued, and at which port, once everything was taken for it.
pub record Ready : Type 0 where
  pub message : Message
  pub port : ℕ
  pub state : Ipc
  pub notices : List Effect

abbrev pub ready_message : UsedParts → List Item → TakenHeader → TakenRights → Ready
ready_message parts items header taken = record {
  message = record {
    destination = header.kind;
    reply = header.reply;
    id = parts.id;
    complex = list_any is_port_item items;
    rights = taken.rights;
    body = if parts.complex then items_encoding (map as_stored items) else parts.body;
  };
  port = header.port;
  state = taken.state;
  notices = header.notices ++ taken.notices;
}

-- the queue holds as many messages as its limit, or more; a message by a send-once right is queued all the same
abbrev pub is_full : Ipc → ℕ → Bool
is_full state serial =
    elim (finmap.get state.ports serial) as (λ _. Bool)
    [ None ↦ false | Some port ↦ nat_le port.limit (length port.messages) ]

abbrev pub tests_of_queue : Ready → Tests
tests_of_queue ready =
    (is_full ready.state ready.port && not (same_kind ready.message.destination kind.SendOnce), SendTimedOut) ∷ []

-- What a message becomes, or the code of the first test that fails: of the size, the header, the items, the destination
-- and reply rights, the body's rights, and the queue. Each step is named by what is known when it is made, and they
-- stand here from the last to the first.

-- all rights are taken: the message is ready, if the queue has room
abbrev pub ready_of_taken : UsedParts → List Item → TakenHeader → TakenRights → Result Ready KernReturn
ready_of_taken parts items header taken =
    let ready : Ready = ready_message parts items header taken in unless_failing (tests_of_queue ready) (Ok ready)

-- no right of the body is taken yet
abbrev pub none_taken : Ipc → TakenRights
none_taken state = record { rights = []; state = state; notices = [] }

-- the header's rights are taken: the body's are next
abbrev pub ready_of_header : ℕ → UsedParts → List Item → TakenHeader → Result Ready KernReturn
ready_of_header space parts items header =
    and_then (or_refused SendInvalidRight (take_items space items (none_taken header.state)))
    (ready_of_taken parts items header)

-- the tests between the items and the rights
abbrev pub tests_before_rights : UsedParts → List Item → Tests
tests_before_rights parts items =
    (nat_lt MAX_MESSAGE_PORTS (ports_in items), SendNoBuffer) ∷ (is_null_or_dead parts.remote, SendInvalidDest) ∷ []

-- the items are read: the header's rights are next
abbrev pub ready_of_items : Ipc → ℕ → UsedParts → Disposition → Option Disposition → List Item
    → Result Ready KernReturn
ready_of_items state space parts destination reply items =
    unless_failing (tests_before_rights parts items)
    (and_then (take_header state space parts.remote destination parts.local reply) (ready_of_header space parts items))

-- both dispositions are known: the body's items are next
abbrev pub ready_of_dispositions : Ipc → ℕ → UsedParts → Disposition → Option Disposition → Result Ready KernReturn
ready_of_dispositions state space parts destination reply =
    and_then (items_if_complex parts.complex parts.body) (ready_of_items state space parts destination reply)

-- the destination's disposition is known: the reply's is next
abbrev pub ready_of_destination : Ipc → ℕ → UsedParts → Disposition → Result Ready KernReturn
ready_of_destination state space parts destination =
    and_then (reply_disposition parts.local_disposition parts.local)
    (ready_of_dispositions state space parts destination)

-- The message's parts are known: the size is tested, and the destination's disposition is next.
abbrev pub ready_by_parts : Ipc → ℕ → UsedParts → Result Ready KernReturn
ready_by_parts state space parts =
    unless_failing (tests_of_size parts.size)
    (and_then (or_refused SendInvalidHeader (header_disposition parts.remote_disposition))
    (ready_of_destination state space parts))

-- the same, of a task's bytes
unfoldable pub ready_to_send : Ipc → ℕ → List ℕ → Result Ready KernReturn
ready_to_send state space bytes = ready_by_parts state space (used_parts bytes)

-- a receive right in the body would travel to its own queue
abbrev pub goes_in_circle : Ipc → ℕ → CarriedRight → Bool
goes_in_circle state queue carried =
    same_kind carried.kind kind.Receive && elim (live_port carried.port) as (λ _. Bool)
    [ None ↦ false | Some serial ↦ is_circular state serial queue ]

-- The message is queued. If it would carry a receive right in a circle, it is destroyed, which releases its
-- destination, its reply right and the rights of its body, in this order.
unfoldable pub sent : Ready → Outcome
sent ready =
    if list_any (goes_in_circle ready.state ready.port) ready.message.rights
    then (ready.state, ready.notices ++ (release ready.message.destination ready.port ∷ releases_of ready.message))
    else (queued ready.state ready.port ready.message, ready.notices)
