-- Receiving a message. (Kernel Interfaces, mach_msg, MACH_RCV_MSG.)
use Rattle.std.specs.Prelude.{◌≡◌, ℕ, ◌+◌, ◌*◌, ◌^◌, Bool, true, false, nat_lt, List, [], ◌∷◌, ◌++◌, length, drop, Contains, Option, None, Some, is_some, option_and_then, MatchOption, MatchBool, if◌then◌else◌}
use Rattle.std.specs.FinMap as finmap
use Rattle.codes.specs.declared.kern_return.KernReturn.{KernReturn}
use Rattle.codes.specs.declared.kern_return.KernReturn.TheVariants.{Success, RcvInvalidName, RcvTimedOut, RcvTooLarge, RcvPortChanged, RcvPortDied, RcvInSet, RcvHeaderErrorSpace}
use Rattle.codes.specs.declared.limits.TheConstants.{MAX_NAMES}
use Rattle.codes.specs.declared.name.TheConstants.{MACH_PORT_NULL}
use Rattle.ipc_model.specs.declared.plain_reply.PlainReply.{PlainReply}
use Rattle.ipc_model.specs.declared.plain_reply.PlainReply.TheVariants as reply
use Rattle.ipc_model.specs.declared.entry.Entry.{Entry}
use Rattle.ipc_model.specs.declared.entry.Entry.TheVariants.{Port, SendOnce, Set, Dead}
use Rattle.ipc_model.specs.declared.message.CarriedRight.{CarriedRight}
use Rattle.ipc_model.specs.declared.message.Message.{Message}
use Rattle.ipc_model.specs.declared.message.RightKind.{RightKind}
use Rattle.ipc_model.specs.declared.message.RightKind.TheVariants as kind
use Rattle.ipc_model.specs.declared.port.PortState.{PortState}
use Rattle.ipc_model.specs.rights.CopyOut.{Arrives, names_needed}
use Rattle.ipc_model.specs.rights.Dispositions.{number_of_kind}
use Rattle.ipc_model.specs.effects.Effects.{Effect, release, releases_of}
use Rattle.ipc_model.specs.messages.Items.{items_of, body_filled}
use Rattle.ipc_model.specs.messages.Messages.{header_length, complex_bit, message_encoding}
use Rattle.ipc_model.specs.calls.Tests.{IsRefusedWith}
use Rattle.ipc_model.specs.state.Ipc.{Ipc, Names, next_count, members_of, received_port, with_port, with_names}

-- The arguments of a receive: the greatest size that is accepted, whether a larger message stays (MACH_RCV_LARGE), the
-- name of a receive right or of a set, and whether this attempt comes after a wait.
pub record ReceiveArguments : Type 0 where
  pub limit : ℕ
  pub large : Bool
  pub name : ℕ
  pub waited : Bool

abbrev pub message_size : Message → ℕ
message_size message = header_length + length message.body

-- the names of the ports from which a name may receive: itself where it holds a receive right, or the members of a set
abbrev pub sources_of_port : ℕ → Bool → Option (List ℕ)
sources_of_port name receive = if receive then Some (name ∷ []) else None

abbrev pub sources : Ipc → Names → ℕ → Option Entry → Option (List ℕ)
sources state names name None = None
sources state names name (Some (Port rights)) = sources_of_port name rights.receive
sources state names name (Some (SendOnce port target)) = None
sources state names name (Some Set) = Some (members_of state names name)
sources state names name (Some (Dead references)) = None

-- those of a name of a space
abbrev pub sources_under : Ipc → Names → ℕ → Option (List ℕ)
sources_under state names name = sources state names name (finmap.get names name)

-- the port whose receive right a name holds
abbrev pub port_under : Ipc → Names → ℕ → Option PortState
port_under state names name =
    option_and_then (λ (serial : ℕ). finmap.get state.ports serial)
    (option_and_then received_port (finmap.get names name))

-- the message that the port under a name would give next
abbrev pub oldest : List Message → Option Message
oldest [] = None
oldest (message ∷ messages) = Some message

abbrev pub oldest_under : Ipc → Names → ℕ → Option Message
oldest_under state names name =
    option_and_then (λ (port : PortState). oldest port.messages) (port_under state names name)

-- a port that is in a set gives messages only through the set
abbrev pub is_in_set : Ipc → Names → ℕ → Bool
is_in_set state names name =
    elim (port_under state names name) as (λ _. Bool) [ None ↦ false | Some port ↦ is_some port.set ]

-- no port among these has a message
abbrev pub all_empty : Ipc → Names → List ℕ → Bool
all_empty state names [] = true
all_empty state names (name ∷ others) =
    if is_some (oldest_under state names name) then false else all_empty state names others

-- The codes for a name that has no sources, and for a port that is in a set. After a wait the name or the set has
-- changed.
abbrev pub no_sources_code : Bool → KernReturn
no_sources_code waited = if waited then RcvPortDied else RcvInvalidName

abbrev pub in_set_code : Bool → KernReturn
in_set_code waited = if waited then RcvPortChanged else RcvInSet

-- the code with which an attempt is refused because of its sources, before it looks at a message
abbrev pub refusal_of_sources : Ipc → Names → ReceiveArguments → Option (List ℕ) → Option KernReturn
refusal_of_sources state names arguments None = Some (no_sources_code arguments.waited)
refusal_of_sources state names arguments (Some among) =
    if is_in_set state names arguments.name then Some (in_set_code arguments.waited)
    else if all_empty state names among then Some RcvTimedOut
    else None

abbrev pub receive_refusal : Ipc → Names → ReceiveArguments → Option KernReturn
receive_refusal state names arguments =
    refusal_of_sources state names arguments (sources_under state names arguments.name)

-- the state without a port's oldest message, and its next sequence number
abbrev pub without_oldest : Ipc → ℕ → Ipc
without_oldest state serial =
    with_port state serial (λ port. record port
    { messages = drop 1 port.messages; sequence_number = next_count port.sequence_number })

-- The destination right of a message that was taken out is consumed: a send right is released, a send-once right
-- vanishes.
abbrev pub destination_consumed : RightKind → ℕ → List Effect
destination_consumed kind.Receive serial = []
destination_consumed kind.Send serial = release kind.Send serial ∷ []
destination_consumed kind.SendOnce serial = []

-- the rights that arrive: the reply right first, and then those of the body
abbrev pub reply_right : Option CarriedRight → List CarriedRight
reply_right None = []
reply_right (Some right) = right ∷ []

abbrev pub arriving : Message → List CarriedRight
arriving message = reply_right message.reply ++ message.rights

-- the number of the reply right's kind, or 0
abbrev pub reply_kind_number : Option CarriedRight → ℕ
reply_kind_number None = 0
reply_kind_number (Some right) = number_of_kind right.kind

-- the bits as received: the kind of the reply right, that of the destination, and whether the body has ports
abbrev pub received_bits : Message → ℕ
received_bits message =
    reply_kind_number message.reply + number_of_kind message.destination * 2 ^ 8 + complex_bit message.complex

abbrev pub first_name : List ℕ → ℕ
first_name [] = MACH_PORT_NULL
first_name (name ∷ names) = name

-- the reply right's name among the given ones, and those of the body
abbrev pub reply_name : Option CarriedRight → List ℕ → ℕ
reply_name None given = MACH_PORT_NULL
reply_name (Some right) given = first_name given

abbrev pub body_names : Option CarriedRight → List ℕ → List ℕ
body_names None given = given
body_names (Some right) given = drop 1 given

-- a body's bytes as received: names stand in the places of its ports
abbrev pub received_body : Message → List ℕ → List ℕ
received_body message names =
    if message.complex then body_filled (items_of message.body) message.body names else message.body

-- A message as received under its port's name `member`, where its rights got these names.
abbrev pub received_encoding : Message → ℕ → ℕ → List ℕ → List ℕ
received_encoding message member sequence_number given =
    message_encoding (received_bits message) (reply_name message.reply given) member sequence_number message.id
    (received_body message (body_names message.reply given))

-- the reply where no message is received: a code, and the size and the port's name of a message that it reports
abbrev pub without_message : KernReturn → ℕ → ℕ → PlainReply
without_message code size member = reply.Message code size member []

-- The cases of a receive. It is refused, or looks at the oldest message of a source: that is too large, and is kept or
-- destroyed; or it needs more new names than are left; or it is received.

-- the receive is refused with this code, and nothing changes
abbrev pub ReceiveRefused : KernReturn → Ipc → PlainReply → Ipc → List Effect → Type 0
ReceiveRefused code old answer new effects =
    IsRefusedWith (without_message code 0 MACH_PORT_NULL) old answer new effects

-- the message is larger than the limit
abbrev pub is_too_large : ReceiveArguments → Message → Bool
is_too_large arguments message = nat_lt arguments.limit (message_size message)

-- It is too large, and is kept: it stays where it is, and the reply reports it.
abbrev pub TooLargeKept : Ipc → ℕ → Message → PlainReply → Ipc → List Effect → Type 0
TooLargeKept old member message answer new effects =
    IsRefusedWith (without_message RcvTooLarge (message_size message) member) old answer new effects

-- It is too large, and is destroyed: it is taken out, which releases its destination, its reply right and the rights of
-- its body, in this order, and the reply reports it.
abbrev pub TooLargeDestroyed : Ipc → ℕ → ℕ → Message → PlainReply → Ipc → List Effect → Type 0
TooLargeDestroyed old member serial message answer new effects =
    (answer ≡ without_message RcvTooLarge (message_size message) member) × (new ≡ without_oldest old serial)
    × (effects ≡ destination_consumed message.destination serial ++ releases_of message)

-- a message that is too large is kept where the receive asked for that
abbrev pub TooLarge : Ipc → ℕ → ℕ → Message → Bool → PlainReply → Ipc → List Effect → Type 0
TooLarge old member serial message large answer new effects =
    MatchBool large (TooLargeKept old member message answer new effects)
    (TooLargeDestroyed old member serial message answer new effects)

-- the message needs more new names than the space has left
abbrev pub lacks_names : Names → Message → Bool
lacks_names names message = nat_lt MAX_NAMES (finmap.len names + names_needed names [] (arriving message))

-- It lacks names: the receive is refused, and the reply doesn't report the message.
abbrev pub LackingNames : Ipc → PlainReply → Ipc → List Effect → Type 0
LackingNames old answer new effects = ReceiveRefused RcvHeaderErrorSpace old answer new effects

-- It is received: its rights get names in the receiver's space, and its destination right is consumed.
abbrev pub Received : Ipc → ℕ → Names → ℕ → ℕ → PortState → Message → PlainReply → Ipc → List Effect → Type 0
Received old space names member serial port message answer new effects =
    (given : List ℕ) × (after : Names) × Arrives names (arriving message) given after
    × (answer ≡ reply.Message Success (message_size message) member
    (received_encoding message member port.sequence_number given))
    × (new ≡ with_names (without_oldest old serial) space after)
    × (effects ≡ destination_consumed message.destination serial)

-- a message that isn't too large
abbrev pub SmallEnough : Ipc → ℕ → Names → ℕ → ℕ → PortState → Message → PlainReply → Ipc → List Effect → Type 0
SmallEnough old space names member serial port message answer new effects =
    MatchBool (lacks_names names message) (LackingNames old answer new effects)
    (Received old space names member serial port message answer new effects)

-- what becomes of the oldest message of a port, whose receive right stands under the name `member`
abbrev pub TakesOut : Ipc → ℕ → Names → ReceiveArguments → ℕ → ℕ → PortState → Message → PlainReply → Ipc → List Effect
    → Type 0
TakesOut old space names arguments member serial port message answer new effects =
    MatchBool (is_too_large arguments message)
    (TooLarge old member serial message arguments.large answer new effects)
    (SmallEnough old space names member serial port message answer new effects)

abbrev pub source_names : Option (List ℕ) → List ℕ
source_names None = []
source_names (Some among) = among

-- a name holds the receive right of a port
abbrev pub HoldsReceiveRight : Names → ℕ → ℕ → Type 0
HoldsReceiveRight names name serial =
    (entry : Entry) × (finmap.get names name ≡ Some entry) × (received_port entry ≡ Some serial)

-- A receive takes the oldest message of one of its sources.
pub record TakesMessage (old : Ipc) (space : ℕ) (names : Names) (arguments : ReceiveArguments) (answer : PlainReply)
    (new : Ipc) (effects : List Effect) : Type 0 where
  -- the source: the name, the serial of the port whose receive right it holds, and what the port keeps
  pub member : ℕ
  pub serial : ℕ
  pub port : PortState
  -- the port's oldest message, and those after it
  pub message : Message
  pub later : List Message
  pub is_source : Contains (source_names (sources_under old names arguments.name)) member
  pub holds : HoldsReceiveRight names member serial
  pub live : finmap.get old.ports serial ≡ Some port
  pub first : port.messages ≡ message ∷ later
  pub takes : TakesOut old space names arguments member serial port message answer new effects

-- A receive is refused with the code of its sources, or takes out the oldest message of one of them.
abbrev pub Receives : Ipc → ℕ → Names → ReceiveArguments → PlainReply → Ipc → List Effect → Type 0
Receives old space names arguments answer new effects =
    MatchOption (receive_refusal old names arguments) (TakesMessage old space names arguments answer new effects)
    (λ code. ReceiveRefused code old answer new effects)
