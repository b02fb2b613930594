-- Receive rights that travel in messages: which port's queue carries one, and circles of ports that carry one another.
-- (Kernel Interfaces, mach_msg: a message that carries the receive right of its own destination is destroyed.)
use Rattle.std.specs.Prelude.{◌≡◌, ℕ, zero, suc, ◌<◌, Bool, true, false, ◌||◌, ◌&&◌, ◌==◌, find, Option, None, Some, option_map}
use Rattle.std.specs.List.{list_any}
use Rattle.std.specs.FinMap as finmap
use Rattle.ipc_model.specs.declared.message.CarriedRight.{CarriedRight}
use Rattle.ipc_model.specs.declared.message.PortInMessage.{PortInMessage}
use Rattle.ipc_model.specs.declared.message.PortInMessage.TheVariants as in_message
use Rattle.ipc_model.specs.declared.message.RightKind.TheVariants as kind
use Rattle.ipc_model.specs.declared.port.PortState.{PortState}
use Rattle.ipc_model.specs.state.Placed.{same_kind}
use Rattle.ipc_model.specs.state.Ipc.{Ipc}

abbrev pub is_port : PortInMessage → ℕ → Bool
is_port in_message.Null serial = false
is_port in_message.Dead serial = false
is_port (in_message.Live port) serial = port == serial

-- whether this is the receive right of a port
abbrev pub is_receive_right : ℕ → CarriedRight → Bool
is_receive_right serial carried = same_kind carried.kind kind.Receive && is_port carried.port serial

-- whether a message in a port's queue carries the receive right of a port; a reply right is never a receive right
abbrev pub carries : ℕ → PortState → Bool
carries serial port = list_any (λ message. list_any (is_receive_right serial) message.rights) port.messages

-- the port in whose queue the receive right of a port travels, if it does
abbrev pub carrier_of : Ipc → ℕ → Option ℕ
carrier_of state serial = option_map (λ e. e.0) (find (λ e. carries serial e.1) (finmap.entries state.ports))

-- The queue `outer` holds a message with the receive right of the port `inner`.
abbrev pub Carries : Ipc → ℕ → ℕ → Type 0
Carries state outer inner =
    (port : PortState) × (finmap.get state.ports outer ≡ Some port) × (carries inner port ≡ true)

-- Acyclic: no ports carry one another in a circle. They have ranks, by which a port ranks below the one that carries
-- it.
abbrev pub Acyclic : Ipc → Type 0
Acyclic state = (rank : ℕ → ℕ) × ((outer inner : ℕ) → Carries state outer inner → rank inner < rank outer)

-- A path up from one port to another, of this many hops: each leads from a port to one whose queue holds its receive
-- right.
abbrev pub LeadsUp : Ipc → ℕ → ℕ → ℕ → Type 0
LeadsUp state zero top serial = serial ≡ top
LeadsUp state (suc hops) top serial = (carrier : ℕ) × Carries state carrier serial × LeadsUp state hops top carrier

-- Circular: some path leads up from the queue's own port to the port `serial`. If it were put into this queue, the
-- receive right of that port would travel, directly or through others, to the port's own queue.
abbrev pub IsCircular : Ipc → ℕ → ℕ → Type 0
IsCircular state serial queue = (hops : ℕ) × LeadsUp state hops serial queue

-- What is computed, with a bound: whether going up meets a port: from one port to the port that carries its receive
-- right, and so on, within this many hops. The port itself is met at once.
abbrev pub meets : Ipc → ℕ → ℕ → ℕ → Bool
meets state zero wanted serial = serial == wanted
meets state (suc hops) wanted serial =
    serial == wanted || elim (carrier_of state serial) as (λ _. Bool)
    [ None ↦ false | Some carrier ↦ meets state hops wanted carrier ]

-- `IsCircular` as it is computed, with as many hops as there are ports. In a lawful and acyclic state the two agree:
-- that is the law `circles_lead_up` of `ipc_laws`. Sends, effects and the contracts cite this one, since they choose by
-- it.
unfoldable pub is_circular : Ipc → ℕ → ℕ → Bool
is_circular state serial queue = meets state (finmap.len state.ports) serial queue
