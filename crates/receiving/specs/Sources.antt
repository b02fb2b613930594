-- The port from which a receive takes its message.
use Rattle.std.specs.Prelude.{◌≡◌, ℕ, Bool, true, false, ◌==◌, nat_lt, Contains, List, [], ◌∷◌, Option, None, Some, is_some, if◌then◌else◌}
use Rattle.std.specs.FinMap as finmap
use Rattle.codes.specs.declared.kern_return.KernReturn.{KernReturn}
use Rattle.codes.specs.declared.kern_return.KernReturn.TheVariants.{RcvTimedOut, RcvPortChanged, RcvInSet}
use Rattle.ipc_model.specs.declared.entry.Entry.{Entry}
use Rattle.ipc_model.specs.declared.entry.Entry.TheVariants.{Port, SendOnce, Set, Dead}
use Rattle.ipc_model.specs.declared.message.Message.{Message}
use Rattle.ipc_model.specs.messages.Receiving.{ReceiveArguments, HoldsReceiveRight, lacks_names, message_size, oldest, receive_refusal, source_names, sources}
use Rattle.ipc_model.specs.state.Ipc.{Ipc, Names}
use Rattle.rights.specs.Passed.{messages_at}
use Rattle.receiving.specs.declared.asked.Preference.{Preference}
use Rattle.receiving.specs.declared.asked.Preference.TheVariants as preference
use Rattle.receiving.specs.declared.source.Giver.{Giver}
use Rattle.receiving.specs.declared.source.Giver.TheVariants as giver
use Rattle.receiving.specs.declared.source.Source.{Source}

-- the source of the messages of a name
abbrev pub port_giver : ℕ → Bool → Giver
port_giver port receive = if receive then giver.Port port else giver.Nothing

abbrev pub giver_of : Option Entry → Giver
giver_of None = giver.Nothing
giver_of (Some (Port rights)) = port_giver rights.port rights.receive
giver_of (Some (SendOnce port target)) = giver.Nothing
giver_of (Some Set) = giver.Set
giver_of (Some (Dead references)) = giver.Nothing

-- a port has a message, and a port is in a set
abbrev pub has_message : Ipc → ℕ → Bool
has_message state serial = is_some (oldest (messages_at state.ports serial))

abbrev pub is_in_set : Ipc → ℕ → Bool
is_in_set state serial =
    elim (finmap.get state.ports serial) as (λ _. Bool) [ None ↦ false | Some port ↦ is_some port.set ]

-- the code with which a receive from this port is refused
abbrev pub port_refusal : Ipc → ReceiveArguments → ℕ → Option KernReturn
port_refusal state arguments serial =
    if is_in_set state serial then Some (if arguments.waited then RcvPortChanged else RcvInSet)
    else if has_message state serial then None
    else Some RcvTimedOut

-- the oldest message isn't too large, but the space lacks names for its rights
abbrev pub oldest_lacks : ReceiveArguments → Names → List Message → Bool
oldest_lacks arguments names [] = false
oldest_lacks arguments names (message ∷ later) =
    if nat_lt arguments.limit (message_size message) then false else lacks_names names message

-- a member of a set has a message and is preferred
abbrev pub is_preferred : Ipc → Names → ReceiveArguments → Preference → ℕ → ℕ → Bool
is_preferred state names arguments preference.Least member serial = true
is_preferred state names arguments (preference.Member name) member serial = member == name
is_preferred state names arguments preference.Lacking member serial =
    oldest_lacks arguments names (messages_at state.ports serial)

abbrev pub gives : Ipc → Names → ReceiveArguments → Preference → ℕ × ℕ → Bool
gives state names arguments preference member =
    if has_message state member.1 then is_preferred state names arguments preference member.0 member.1 else false

abbrev pub source_value : Source → ℕ × ℕ
source_value source = (source.member, source.port)

abbrev pub source_list : Ipc → Names → ReceiveArguments → List ℕ
source_list state names arguments = source_names (sources state names arguments.name (finmap.get names arguments.name))

-- A receive may take its message from this port, whose receive right this name holds.
pub record IsSource (state : Ipc) (names : Names) (arguments : ReceiveArguments) (member serial : ℕ) : Type 0 where
  pub passes : receive_refusal state names arguments ≡ None
  pub among : Contains (source_list state names arguments) member
  pub holds : HoldsReceiveRight names member serial
  pub has : has_message state serial ≡ true

-- If any possible source is preferred, this one is.
abbrev pub IsPreferred : Ipc → Names → ReceiveArguments → Preference → ℕ → ℕ → Type 0
IsPreferred state names arguments preference member serial =
    (other : ℕ) (port : ℕ) → Contains (source_list state names arguments) other → HoldsReceiveRight names other port
    → has_message state port ≡ true
    → is_preferred state names arguments preference other port ≡ true
    → is_preferred state names arguments preference member serial ≡ true
