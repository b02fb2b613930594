-- The references of names and queues to ports and names: each right is to a live port, a port has one name in a space,
-- and is in a set of the space that holds its receive right.
use Rattle.std.specs.Prelude.{ℕ, Bool, true, false, ◌&&◌, ◌||◌, not, Option, None, Some, is_some, option_and_then}
use Rattle.std.specs.List.{list_all}
use Rattle.std.specs.FinMap as finmap
use Rattle.ipc_model.specs.calls.PortCalls.{names_in, stands_elsewhere}
use Rattle.ipc_model.specs.declared.entry.Entry.{Entry}
use Rattle.ipc_model.specs.declared.entry.Entry.TheVariants.{Port, SendOnce, Set, Dead}
use Rattle.ipc_model.specs.declared.message.CarriedRight.{CarriedRight}
use Rattle.ipc_model.specs.declared.message.Message.{Message}
use Rattle.ipc_model.specs.declared.message.PortInMessage.{PortInMessage}
use Rattle.ipc_model.specs.declared.message.PortInMessage.TheVariants as in_message
use Rattle.ipc_model.specs.declared.message.RightKind.{RightKind}
use Rattle.ipc_model.specs.declared.message.RightKind.TheVariants as kind
use Rattle.ipc_model.specs.declared.port.PortState.{PortState}
use Rattle.ipc_model.specs.state.Placed.{same_kind}
use Rattle.ipc_model.specs.state.Ipc.{Names, Ipc, lives}
use Rattle.snapshot.specs.declared.rows.LivePort.{LivePort}
use Rattle.snapshot.specs.declared.rows.NamedEntry.{NamedEntry}
use Rattle.snapshot.specs.declared.rows.IpcSnapshot.{IpcSnapshot}
use Rattle.snapshot.specs.declared.rows.Space.{Space}

-- the facts about a state against which rows are checked: the live ports, their sets, and the names of each space
pub record Looks : Type 0 where
  pub lives : ℕ → Bool
  pub set_of : ℕ → Option ℕ
  pub names : ℕ → Names

abbrev pub looks_of : Ipc → Looks
looks_of state =
    record {
      lives = lives state;
      set_of = λ serial. option_and_then
          (λ (port : PortState). port.set) (finmap.get state.ports serial);
      names = names_in state;
    }

abbrev pub is_live_target : Looks → Option ℕ → Bool
is_live_target looks None = true
is_live_target looks (Some serial) = looks.lives serial

abbrev pub is_set : Option Entry → Bool
is_set None = false
is_set (Some (Port rights)) = false
is_set (Some (SendOnce port target)) = false
is_set (Some Set) = true
is_set (Some (Dead references)) = false

-- the space contains the set with this name, or no set is named
abbrev pub has_set : Looks → ℕ → Option ℕ → Bool
has_set looks space None = true
has_set looks space (Some set) = is_set (finmap.get (looks.names space) set)

-- an entry of a space is linked
abbrev pub stands_well : Looks → ℕ → ℕ → Entry → Bool
stands_well looks space name (Port rights) =
    looks.lives rights.port && (is_live_target looks rights.dead_name_target
    && (not (stands_elsewhere (looks.names space) name rights.port) &&
    (not rights.receive || has_set looks space (looks.set_of rights.port))))
stands_well looks space name (SendOnce port target) = looks.lives port && is_live_target looks target
stands_well looks space name Set = true
stands_well looks space name (Dead references) = true

-- a port in a message is live
abbrev pub is_live_place : Looks → PortInMessage → Bool
is_live_place looks in_message.Null = true
is_live_place looks in_message.Dead = true
is_live_place looks (in_message.Live serial) = looks.lives serial

-- the port of a carried receive right is in no set
abbrev pub is_in_no_set : Looks → RightKind → PortInMessage → Bool
is_in_no_set looks what in_message.Null = true
is_in_no_set looks what in_message.Dead = true
is_in_no_set looks what (in_message.Live serial) =
    not (same_kind what kind.Receive) || not (is_some (looks.set_of serial))

abbrev pub travels_well : Looks → CarriedRight → Bool
travels_well looks right = is_live_place looks right.port && is_in_no_set looks right.kind right.port

abbrev pub replies_well : Looks → Option CarriedRight → Bool
replies_well looks None = true
replies_well looks (Some right) = is_live_place looks right.port

abbrev pub is_linked_message : Looks → Message → Bool
is_linked_message looks message = replies_well looks message.reply && list_all (travels_well looks) message.rights

abbrev pub is_linked_port : Looks → PortState → Bool
is_linked_port looks port =
    is_live_target looks port.no_senders_target &&
    (is_live_target looks port.port_destroyed_target && list_all (is_linked_message looks) port.messages)

abbrev pub is_linked_name : Looks → ℕ → NamedEntry → Bool
is_linked_name looks space row = stands_well looks space row.name row.entry

abbrev pub is_linked_space : Looks → Space → Bool
is_linked_space looks space = list_all (is_linked_name looks space.number) space.names

abbrev pub is_linked_row : Looks → LivePort → Bool
is_linked_row looks row = is_linked_port looks row.state

abbrev pub is_linked : Looks → IpcSnapshot → Bool
is_linked looks snapshot =
    list_all (is_linked_space looks) snapshot.spaces && list_all (is_linked_row looks) snapshot.ports
