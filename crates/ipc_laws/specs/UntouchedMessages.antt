-- A send and a receive change only the names of their caller's space.
use Rattle.std.specs.Prelude.{ℕ, Bool, true, false, nat_lt, List, [], ◌∷◌, ◌++◌, drop, Option, None, Some, option_map, if◌then◌else◌, Result, Ok, Err, IfOk, IfSome}
use Rattle.std.proofs.Common.{sym, subst}
use Rattle.std.specs.List.{list_any}
use Rattle.codes.specs.declared.kern_return.KernReturn.{KernReturn}
use Rattle.codes.specs.declared.kern_return.KernReturn.TheVariants.{SendInvalidDest, SendInvalidReply, SendInvalidRight, SendNoBuffer, SendInvalidHeader}
use Rattle.codes.specs.declared.limits.TheConstants.{MAX_MESSAGE_PORTS}
use Rattle.ipc_model.specs.declared.plain_reply.PlainReply.{PlainReply}
use Rattle.ipc_model.specs.declared.message.Message.{Message}
use Rattle.ipc_model.specs.declared.port.PortState.{PortState}
use Rattle.ipc_model.specs.rights.CopyIn.{Taken, copy_in}
use Rattle.ipc_model.specs.rights.Dispositions.{Disposition, disposition_of, received_kind}
use Rattle.ipc_model.specs.effects.Effects.{Outcome, Effect, queued, release, releases_of}
use Rattle.ipc_model.specs.messages.Items.{Item, names_of_item}
use Rattle.ipc_model.specs.messages.Messages.{UsedParts, used_parts}
use Rattle.ipc_laws.specs.ReceiveLaws.{Outcomes, was_large, was_lacking, was_received, outcome_of, Refuses}
use Rattle.ipc_model.specs.messages.Receiving.{ReceiveArguments, Receives, Received, TooLarge, without_oldest, receive_refusal}
use Rattle.ipc_model.specs.messages.Sending as sending
use Rattle.ipc_model.specs.messages.Sending.{TakenRights, TakenDestination, TakenHeader, TakenReply, Ready, ready_to_send, sent, take_right, take_rights, take_item, take_items, take_destination, take_reply, take_header, live_port, ready_of_taken, ready_of_header, ready_of_items}
use Rattle.ipc_model.specs.state.Ipc.{Ipc, Names, is_null_or_dead, next_count}
use Rattle.ipc_model.specs.calls.Tests.{Tests, and_then, or_refused, unless_failing}
use Rattle.ipc_laws.specs.Untouched.{Confined, nothing, follow, own_names, port_change, TakenConfined, copied_in}

-- what holds of a value holds of what is made from it
pub and_then_if : {X Y : Type 0} (P : X → Type 0) (Q : Y → Type 0) (r : Result X KernReturn)
    (next : X → Result Y KernReturn) → IfOk r P → ((x : X) → P x → IfOk (next x) Q) → IfOk (and_then r next) Q
and_then_if P Q (Ok x) next here there = there x here
and_then_if P Q (Err code) next here there = tt

pub unless_if : {X : Type 0} (P : X → Type 0) (tests : Tests) (r : Result X KernReturn) → IfOk r P
    → IfOk (unless_failing tests r) P
unless_if P [] r here = here
unless_if {X = X} P (test ∷ tests) r here =
    elim test.0 as (λ (b : Bool). IfOk (if b then Err test.1 else unless_failing tests r) P)
    [ true ↦ tt | false ↦ unless_if P tests r here ]

pub or_if : {X : Type 0} (P : X → Type 0) (code : KernReturn) (o : Option X) → IfSome o P → IfOk (or_refused code o) P
or_if P code None here = tt
or_if P code (Some x) here = here

pub if_if : {X : Type 0} (P : X → Type 0) (b : Bool) (one other : Result X KernReturn) → IfOk one P → IfOk other P
    → IfOk (if b then one else other) P
if_if P true one other first second = first
if_if P false one other first second = second

pub any_ok : {X : Type 0} (r : Result X KernReturn) → IfOk r (λ _. Unit {0})
any_ok (Ok x) = tt
any_ok (Err code) = tt

-- the rights of a body

abbrev RightsConfined : Ipc → ℕ → Option TakenRights → Type 0
RightsConfined old space taken = IfSome taken (λ (t : TakenRights). Confined old t.state space)

next_taken : (old : Ipc) (space : ℕ) (taken : TakenRights) (next : Option Taken) → Confined old taken.state space
    → TakenConfined taken.state space next
    → RightsConfined old space (option_map
    (λ (n : Taken). record {
      rights = taken.rights ++ n.right ∷ [];
      state = n.state;
      notices = taken.notices ++ n.notices;
    }) next)
next_taken old space taken None first second = tt
next_taken old space taken (Some next) first second = follow old taken.state next.state space first second

right_there : (old : Ipc) (space name : ℕ) (disposition : Disposition) (taken : TakenRights)
    → Confined old taken.state space → RightsConfined old space (take_right space name disposition taken)
right_there old space name disposition taken first =
    elim (is_null_or_dead name) as (λ (b : Bool). RightsConfined old space
    (if b then Some (record taken {
      rights = taken.rights
          ++ (record { kind = received_kind disposition; port = sending.passed name }) ∷ [];
    })
    else option_map (λ (next : Taken).
    record {
      rights = taken.rights ++ next.right ∷ [];
      state = next.state;
      notices = taken.notices ++ next.notices;
    }) (copy_in taken.state space name disposition))) [
      | true ↦ first
      | false ↦ next_taken old space taken (copy_in taken.state space name disposition) first
          (copied_in taken.state space name disposition)
    ]

rights_there : (old : Ipc) (space : ℕ) (disposition : Disposition) (names : List ℕ) (taken : TakenRights)
    → Confined old taken.state space → RightsConfined old space (take_rights space disposition names taken)
rights_there old space disposition [] taken first = first
rights_there old space disposition (name ∷ names) taken first =
    elim (take_right space name disposition taken)
    as (λ (o : Option TakenRights). RightsConfined old space o
    → RightsConfined old space (elim o as (λ _. Option TakenRights)
    [ None ↦ None | Some next ↦ take_rights space disposition names next ])) [
      | None ↦ λ (here : _). tt
      | Some next ↦ λ (here : _). rights_there old space disposition names next here
    ] (right_there old space name disposition taken first)

item_there : (old : Ipc) (space : ℕ) (item : Item) (disposition : Option Disposition) (taken : TakenRights)
    → Confined old taken.state space → RightsConfined old space (take_item space item disposition taken)
item_there old space item None taken first = first
item_there old space item (Some disposition) taken first =
    rights_there old space disposition (names_of_item item) taken first

items_there : (old : Ipc) (space : ℕ) (items : List Item) (taken : TakenRights) → Confined old taken.state space
    → RightsConfined old space (take_items space items taken)
items_there old space [] taken first = first
items_there old space (item ∷ items) taken first =
    elim (take_item space item (disposition_of item.type_name) taken)
    as (λ (o : Option TakenRights). RightsConfined old space o
    → RightsConfined old space (elim o as (λ _. Option TakenRights)
    [ None ↦ None | Some next ↦ take_items space items next ])) [
      | None ↦ λ (here : _). tt
      | Some next ↦ λ (here : _). items_there old space items next here
    ] (item_there old space item (disposition_of item.type_name) taken first)

-- the rights of a header

destination_there : (old state : Ipc) (space name : ℕ) (disposition : Disposition) → Confined old state space
    → IfOk (take_destination state space name disposition) (λ (t : TakenDestination). Confined old t.taken.state space)
destination_there old state space name disposition first =
    and_then_if (λ (t : Taken). Confined state t.state space)
    (λ (t : TakenDestination). Confined old t.taken.state space)
    (or_refused SendInvalidDest (copy_in state space name disposition)) _
    (or_if (λ (t : Taken). Confined state t.state space) SendInvalidDest (copy_in state space name disposition)
    (copied_in state space name disposition))
    (λ (taken : Taken) (here : _).
    and_then_if (λ (serial : ℕ). Unit {0})
    (λ (t : TakenDestination). Confined old t.taken.state space)
    (or_refused SendInvalidDest (live_port taken.right.port)) _
    (any_ok _) (λ (serial : ℕ) (_ : _). follow old state taken.state space first here))

reply_there : (old state : Ipc) (space name : ℕ) (disposition : Option Disposition) → Confined old state space
    → IfOk (take_reply state space name disposition) (λ (t : TakenReply). Confined old t.state space)
reply_there old state space name None first = first
reply_there old state space name (Some disposition) first =
    if_if (λ (t : TakenReply). Confined old t.state space) (is_null_or_dead name) _ _ first
    (and_then_if (λ (t : Taken). Confined state t.state space)
    (λ (t : TakenReply). Confined old t.state space)
    (or_refused SendInvalidReply (copy_in state space name disposition)) _
    (or_if (λ (t : Taken). Confined state t.state space) SendInvalidReply (copy_in state space name disposition)
    (copied_in state space name disposition))
    (λ (taken : Taken) (here : _). follow old state taken.state space first here))

header_there : (old : Ipc) (space remote : ℕ) (destination : Disposition) (local : ℕ) (reply : Option Disposition)
    → IfOk (take_header old space remote destination local reply) (λ (t : TakenHeader). Confined old t.state space)
header_there old space remote destination local reply =
    if_if (λ (t : TakenHeader). Confined old t.state space) (sending.reply_goes_first destination reply) _ _
    (and_then_if (λ (t : TakenReply). Confined old t.state space)
    (λ (t : TakenHeader). Confined old t.state space) (take_reply old space local reply) _
    (reply_there old old space local reply (nothing old space))
    (λ (first : TakenReply) (here : _). and_then_if (λ (t : TakenDestination). Confined old t.taken.state space)
    (λ (t : TakenHeader). Confined old t.state space) (take_destination first.state space remote destination) _
    (destination_there old first.state space remote destination here)
    (λ (second : TakenDestination) (there : _). there)))
    (and_then_if (λ (t : TakenDestination). Confined old t.taken.state space)
    (λ (t : TakenHeader). Confined old t.state space) (take_destination old space remote destination) _
    (destination_there old old space remote destination (nothing old space))
    (λ (first : TakenDestination) (here : _). and_then_if (λ (t : TakenReply). Confined old t.state space)
    (λ (t : TakenHeader). Confined old t.state space) (take_reply first.taken.state space local reply) _
    (reply_there old first.taken.state space local reply here) (λ (second : TakenReply) (there : _). there)))

abbrev pub ReadyConfined : Ipc → ℕ → Ready → Type 0
ReadyConfined old space ready = Confined old ready.state space

-- the steps from items to a message that is ready

of_taken_there : (old : Ipc) (space : ℕ) (parts : UsedParts) (items : List Item) (header : TakenHeader)
    (taken : TakenRights) → Confined old taken.state space
    → IfOk (ready_of_taken parts items header taken) (ReadyConfined old space)
of_taken_there old space parts items header taken here =
    let ready : Ready = sending.ready_message parts items header taken in
    unless_if (ReadyConfined old space) (sending.tests_of_queue ready) (Ok ready) here

of_header_there : (old : Ipc) (space : ℕ) (parts : UsedParts) (items : List Item) (header : TakenHeader)
    → Confined old header.state space → IfOk (ready_of_header space parts items header) (ReadyConfined old space)
of_header_there old space parts items header here =
    let start : TakenRights = record { rights = []; state = header.state; notices = [] } in
    and_then_if (λ (t : TakenRights). Confined old t.state space) (ReadyConfined old space)
    (or_refused SendInvalidRight (take_items space items start)) (ready_of_taken parts items header)
    (or_if (λ (t : TakenRights). Confined old t.state space) SendInvalidRight (take_items space items start)
    (items_there old space items start here))
    (λ (taken : TakenRights) (there : _). of_taken_there old space parts items header taken there)

of_items_there : (old : Ipc) (space : ℕ) (parts : UsedParts) (destination : Disposition) (reply : Option Disposition)
    (items : List Item) → IfOk (ready_of_items old space parts destination reply items) (ReadyConfined old space)
of_items_there old space parts destination reply items =
    unless_if (ReadyConfined old space)
    ((nat_lt MAX_MESSAGE_PORTS (sending.ports_in items), SendNoBuffer) ∷
    (is_null_or_dead parts.remote, SendInvalidDest) ∷ [])
    (and_then (take_header old space parts.remote destination parts.local reply) (ready_of_header space parts items))
    (and_then_if (λ (t : TakenHeader). Confined old t.state space) (ReadyConfined old space)
    (take_header old space parts.remote destination parts.local reply) (ready_of_header space parts items)
    (header_there old space parts.remote destination parts.local reply)
    (λ (header : TakenHeader) (here : _). of_header_there old space parts items header here))

abbrev ready_of_reply : Ipc → ℕ → UsedParts → Disposition → Option Disposition → Result Ready KernReturn
ready_of_reply old space parts destination reply =
    and_then (sending.items_if_complex parts.complex parts.body) (ready_of_items old space parts destination reply)

abbrev ready_of_destination : Ipc → ℕ → UsedParts → Disposition → Result Ready KernReturn
ready_of_destination old space parts destination =
    and_then (sending.reply_disposition parts.local_disposition parts.local)
    (ready_of_reply old space parts destination)

pub ready_there : (old : Ipc) (space : ℕ) (bytes : List ℕ)
    → IfOk (ready_to_send old space bytes) (ReadyConfined old space)
unfolding ready_to_send
ready_there old space bytes =
    let parts : UsedParts = used_parts bytes in
    unless_if (ReadyConfined old space) (sending.tests_of_size parts.size)
    (and_then (or_refused SendInvalidHeader (sending.header_disposition parts.remote_disposition))
    (ready_of_destination old space parts))
    (and_then_if (λ (d : Disposition). Unit {0}) (ReadyConfined old space)
    (or_refused SendInvalidHeader (sending.header_disposition parts.remote_disposition))
    (ready_of_destination old space parts) (any_ok _) (λ (destination : Disposition) (_ : _).
    and_then_if (λ (d : Option Disposition). Unit {0}) (ReadyConfined old space)
    (sending.reply_disposition parts.local_disposition parts.local) (ready_of_reply old space parts destination)
    (any_ok _) (λ (reply : Option Disposition) (_ : _).
    and_then_if (λ (d : List Item). Unit {0}) (ReadyConfined old space)
    (sending.items_if_complex parts.complex parts.body) (ready_of_items old space parts destination reply)
    (any_ok _) (λ (items : List Item) (_ : _). of_items_there old space parts destination reply items))))

abbrev sent_as : Bool → Ready → Outcome
sent_as b ready =
    if b then (ready.state, ready.notices ++ (release ready.message.destination ready.port ∷ releases_of ready.message))
    else (queued ready.state ready.port ready.message, ready.notices)

pub sent_there : (old : Ipc) (space : ℕ) (ready : Ready) → Confined old ready.state space
    → Confined old (sent ready).0 space
unfolding sent
sent_there old space ready first =
    elim (list_any (sending.goes_in_circle ready.state ready.port) ready.message.rights) as (λ (b : Bool). Confined old
    (sent_as b ready).0 space) [
      | true ↦ first
      | false ↦ follow old ready.state _ space first
          (port_change ready.state space ready.port
          (λ (port : PortState). record port { messages = port.messages ++ ready.message ∷ [] }))
    ]

-- a receive

taken_out : (old : Ipc) (space serial : ℕ) → Confined old (without_oldest old serial) space
taken_out old space serial =
    port_change old space serial
    (λ (port : PortState). record port
    { messages = drop 1 port.messages; sequence_number = next_count port.sequence_number })

large_there : (old : Ipc) (space member serial : ℕ) (message : Message) (keeps : Bool) (answer : PlainReply) (new : Ipc)
    (effects : List Effect) → TooLarge old member serial message keeps answer new effects → Confined old new space
large_there old space member serial message true answer new effects large =
    subst (λ (s : Ipc). Confined old s space) (sym large.1) (nothing old space)
large_there old space member serial message false answer new effects large =
    subst (λ (s : Ipc). Confined old s space) (sym large.1) (taken_out old space serial)

received_there : (old : Ipc) (space : ℕ) (names : Names) (member serial : ℕ) (port : PortState) (message : Message)
    (answer : PlainReply) (new : Ipc) (effects : List Effect)
    → Received old space names member serial port message answer new effects → Confined old new space
received_there old space names member serial port message answer new effects received =
    subst (λ (s : Ipc). Confined old s space) (sym received.4)
    (follow old (without_oldest old serial) _ space (taken_out old space serial)
    (own_names (without_oldest old serial) space received.1))

outcome_there : (old : Ipc) (space : ℕ) (names : Names) (arguments : ReceiveArguments) (member serial : ℕ)
    (port : PortState) (message : Message) (answer : PlainReply) (new : Ipc) (effects : List Effect)
    → Outcomes old space names arguments member serial port message answer new effects → Confined old new space
outcome_there old space names arguments member serial port message answer new effects (was_large large) =
    large_there old space member serial message arguments.large answer new effects large
outcome_there old space names arguments member serial port message answer new effects (was_lacking is as_before none) =
    subst (λ (s : Ipc). Confined old s space) (sym as_before) (nothing old space)
outcome_there old space names arguments member serial port message answer new effects (was_received whole) =
    received_there old space names member serial port message answer new effects whole

pub receive_there : (old : Ipc) (space : ℕ) (names : Names) (arguments : ReceiveArguments) (answer : PlainReply)
    (new : Ipc)
    (effects : List Effect) → Receives old space names arguments answer new effects → Confined old new space
receive_there old space names arguments answer new effects receives =
    elim (receive_refusal old names arguments)
    as (λ (r : Option KernReturn). Refuses r old space names arguments answer new effects → Confined old new space) [
      | None ↦ λ (taken : _).
          outcome_there old space names arguments taken.member taken.serial taken.port taken.message answer new effects
          (outcome_of old space names arguments taken.member taken.serial taken.port taken.message answer new effects
          taken.takes)
      | Some code ↦ λ (refused : _). subst (λ (s : Ipc). Confined old s space) (sym refused.1) (nothing old space)
    ] receives
