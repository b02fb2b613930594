-- The places of the receive rights in a lawful state.
use Rattle.std.specs.Prelude.{◌≡◌, ℕ, true, Option, None, Some}
use Rattle.ipc_model.specs.state.Lawful.{Lawful}
use Rattle.ipc_model.specs.state.Placed.{Place, held, destination, reply, body, dead_name_request, no_senders_request, port_destroyed_request, waiting, Right}
use Rattle.ipc_model.specs.state.Ipc.{Ipc, lives}
use Rattle.inspect.specs.text.Listing.{receive_right}

-- a name, or a message in a queue
abbrev pub IsHeldOrCarried : Place → Type 0
IsHeldOrCarried (held space name) = Unit {0}
IsHeldOrCarried (destination queue) = Unit {0}
IsHeldOrCarried (reply queue) = Unit {0}
IsHeldOrCarried (body queue) = Unit {0}
IsHeldOrCarried (dead_name_request space name) = ⊥
IsHeldOrCarried (no_senders_request port) = ⊥
IsHeldOrCarried (port_destroyed_request port) = ⊥
IsHeldOrCarried waiting = ⊥

abbrev pub IsListed : Option Right → Type 0
IsListed None = ⊥
IsListed (Some right) = IsHeldOrCarried right.place

-- The line of each live port of a lawful state shows the place of its receive right.
abbrev pub HoldersAreListed : Type 0
HoldersAreListed =
    (state : Ipc) (serial : ℕ) → Lawful state → lives state serial ≡ true → IsListed (receive_right state serial)
