-- Copy out: a right that arrives in a space gets a name. (Kernel Interfaces, mach_msg, "port rights in messages".)
use Rattle.std.specs.Prelude.{◌≡◌, ℕ, ◌+◌, min, Bool, true, false, ◌&&◌, not, ◌==◌, List, [], ◌∷◌, Option, None, Some, is_none, MatchOption, if◌then◌else◌}
use Rattle.std.specs.List.{list_any}
use Rattle.std.specs.FinMap as finmap
use Rattle.codes.specs.declared.limits.TheConstants.{MAX_SEND_REFERENCES}
use Rattle.codes.specs.declared.name.TheConstants.{MACH_PORT_NULL, MACH_PORT_DEAD}
use Rattle.ipc_model.specs.declared.entry.Entry.{Entry}
use Rattle.ipc_model.specs.declared.entry.Entry.TheVariants.{Port, SendOnce, Set, Dead}
use Rattle.ipc_model.specs.declared.entry.PortRights.{PortRights}
use Rattle.ipc_model.specs.declared.message.CarriedRight.{CarriedRight}
use Rattle.ipc_model.specs.declared.message.PortInMessage.{PortInMessage}
use Rattle.ipc_model.specs.declared.message.PortInMessage.TheVariants as in_message
use Rattle.ipc_model.specs.declared.message.RightKind.{RightKind}
use Rattle.ipc_model.specs.declared.message.RightKind.TheVariants as kind
use Rattle.ipc_model.specs.state.Ipc.{Names, IsUnused, name_of_port}

-- A name that a right to a port may get in a space: a send-once right gets an unused name; a send or receive
-- right gets the name that the port has there, or else an unused one.
abbrev pub MayBeNamed : Names → RightKind → ℕ → ℕ → Type 0
MayBeNamed names kind.SendOnce serial name = IsUnused names name
MayBeNamed names kind.Send serial name =
    MatchOption (name_of_port names serial) (IsUnused names name) (λ there. name ≡ there)
MayBeNamed names kind.Receive serial name =
    MatchOption (name_of_port names serial) (IsUnused names name) (λ there. name ≡ there)

-- MACH_PORT_NULL and MACH_PORT_DEAD arrive as themselves.
abbrev pub MayArrive : Names → RightKind → PortInMessage → ℕ → Type 0
MayArrive names kind in_message.Null name = name ≡ MACH_PORT_NULL
MayArrive names kind in_message.Dead name = name ≡ MACH_PORT_DEAD
MayArrive names kind (in_message.Live serial) name = MayBeNamed names kind serial name

-- one right, under a new name
abbrev pub new_entry : RightKind → ℕ → Entry
new_entry kind.Receive serial = Port (record { port = serial; receive = true; send = 0; dead_name_target = None })
new_entry kind.Send serial = Port (record { port = serial; receive = false; send = 1; dead_name_target = None })
new_entry kind.SendOnce serial = SendOnce serial None

-- One more right under the name of its port. A send right adds a reference, up to the greatest number of them.
abbrev pub merged_rights : RightKind → PortRights → PortRights
merged_rights kind.Receive rights = record rights { receive = true }
merged_rights kind.Send rights = record rights { send = min MAX_SEND_REFERENCES (rights.send + 1) }
merged_rights kind.SendOnce rights = rights

abbrev pub merged_entry : RightKind → ℕ → Option Entry → Entry
merged_entry kind serial None = new_entry kind serial
merged_entry kind serial (Some (Port rights)) = Port (merged_rights kind rights)
merged_entry kind serial (Some (SendOnce port target)) = new_entry kind serial
merged_entry kind serial (Some Set) = new_entry kind serial
merged_entry kind serial (Some (Dead references)) = new_entry kind serial

-- the names of a space after a right has arrived under a name
abbrev pub names_after : Names → RightKind → PortInMessage → ℕ → Names
names_after names kind in_message.Null name = names
names_after names kind in_message.Dead name = names
names_after names kind (in_message.Live serial) name =
    finmap.insert names name (merged_entry kind serial (finmap.get names name))

-- Rights arrive in a space one after another, under these names.
abbrev pub Arrives : Names → List CarriedRight → List ℕ → Names → Type 0
Arrives names [] given new = (given ≡ []) × (new ≡ names)
Arrives names (right ∷ rights) given new =
    (name : ℕ) × (others : List ℕ) × (given ≡ name ∷ others) × MayArrive names right.kind right.port name
    × Arrives (names_after names right.kind right.port name) rights others new

-- Whether a right needs a new name: a send-once right to a port does, and so does a send or receive right to a port
-- that has no name there and gets none by a right before it. `named` are the ports that do.
abbrev pub wants_name : Names → List ℕ → RightKind → PortInMessage → Bool
wants_name names named kind in_message.Null = false
wants_name names named kind in_message.Dead = false
wants_name names named kind.SendOnce (in_message.Live serial) = true
wants_name names named kind.Send (in_message.Live serial) =
    is_none (name_of_port names serial) && not (list_any (λ port. port == serial) named)
wants_name names named kind.Receive (in_message.Live serial) =
    is_none (name_of_port names serial) && not (list_any (λ port. port == serial) named)

-- the ports that have names once this right has one
abbrev pub named_with : List ℕ → RightKind → PortInMessage → List ℕ
named_with named kind in_message.Null = named
named_with named kind in_message.Dead = named
named_with named kind.SendOnce (in_message.Live serial) = named
named_with named kind.Send (in_message.Live serial) = serial ∷ named
named_with named kind.Receive (in_message.Live serial) = serial ∷ named

-- how many new names these rights need
abbrev pub names_needed : Names → List ℕ → List CarriedRight → ℕ
names_needed names named [] = 0
names_needed names named (right ∷ rights) =
    (if wants_name names named right.kind right.port then 1 else 0) + names_needed names
    (named_with named right.kind right.port) rights
