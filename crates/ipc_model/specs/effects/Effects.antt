-- What is set off when rights go: notices, and the death of ports. The effects of a call stand in one list, and are
-- done in its order. (Kernel Interfaces, mach_port_destroy, mach_port_deallocate, "Notifications".)
use Rattle.std.specs.Prelude.{ℕ, ◌+◌, Bool, false, ◌==◌, ◌&&◌, not, List, [], ◌∷◌, ◌++◌, map, flat_map, Option, None, Some, option_map, if◌then◌else◌}
use Rattle.std.specs.Ordering.{nat_cmp}
use Rattle.std.specs.FinMap as finmap
use Rattle.ipc_model.specs.declared.entry.Entry.{Entry}
use Rattle.ipc_model.specs.declared.entry.Entry.TheVariants.{Port, SendOnce, Set, Dead}
use Rattle.ipc_model.specs.declared.message.CarriedRight.{CarriedRight}
use Rattle.ipc_model.specs.declared.message.Message.{Message}
use Rattle.ipc_model.specs.declared.message.PortInMessage.{PortInMessage}
use Rattle.ipc_model.specs.declared.message.PortInMessage.TheVariants as in_message
use Rattle.ipc_model.specs.declared.message.RightKind.{RightKind}
use Rattle.ipc_model.specs.declared.message.RightKind.TheVariants as kind
use Rattle.ipc_model.specs.declared.port.PortState.{PortState}
use Rattle.ipc_model.specs.state.Circular.{is_circular}
use Rattle.ipc_model.specs.messages.Notices.{Notice, notice_message}
use Rattle.ipc_model.specs.messages.Notices as notice
use Rattle.ipc_model.specs.state.Placed.{send_count}
use Rattle.ipc_model.specs.state.Ipc.{Ipc, with_port, lives, request_of}

-- An effect that waits for its turn: a right that is released, and no longer stands in any place, or a notice that goes
-- out by the send-once right of a request's target.
pub data Effect : Type 0 where
  release : RightKind → (port : ℕ) → Effect
  notify : (target : ℕ) → Notice → Effect

-- a name with this dead-name request ceased to be
abbrev pub port_deleted : ℕ → Option ℕ → List Effect
port_deleted name None = []
port_deleted name (Some target) = notify target (notice.PortDeleted name) ∷ []

-- the release of a right that a message carried
abbrev pub release_of_port : RightKind → PortInMessage → List Effect
release_of_port kind in_message.Null = []
release_of_port kind in_message.Dead = []
release_of_port kind (in_message.Live serial) = release kind serial ∷ []

abbrev pub release_of : CarriedRight → List Effect
release_of carried = release_of_port carried.kind carried.port

abbrev pub release_of_reply : Option CarriedRight → List Effect
release_of_reply None = []
release_of_reply (Some carried) = release_of carried

-- the releases of a destroyed message's reply right and body rights, in this order
abbrev pub releases_of : Message → List Effect
releases_of message = release_of_reply message.reply ++ flat_map release_of message.rights

-- a message at the end of a port's queue
abbrev pub queued : Ipc → ℕ → Message → Ipc
queued state serial message = with_port state serial (λ port. record port { messages = port.messages ++ message ∷ [] })

-- a notice in its target's queue, whatever the limit; where the target's port is dead it is dropped
abbrev pub notified : Ipc → ℕ → Notice → Ipc
notified state target what = queued state target (notice_message what)

-- one more reference where there is a dead-name request
abbrev pub one_more_if : Option ℕ → ℕ
one_more_if None = 0
one_more_if (Some target) = 1

-- a request's target, dropped if the target is this port
abbrev pub without_target : ℕ → Option ℕ → Option ℕ
without_target serial None = None
without_target serial (Some target) = if target == serial then None else Some target

-- what a name becomes when a port dies: a name with send references or a send-once right becomes a dead name, with one
-- more reference for a dead-name request; a request whose target is the port goes
abbrev pub entry_after_death : ℕ → Entry → Entry
entry_after_death serial (Port rights) =
    if rights.port == serial then Dead (rights.send + one_more_if rights.dead_name_target)
    else Port (record rights { dead_name_target = without_target serial rights.dead_name_target })
entry_after_death serial (SendOnce port target) =
    if port == serial then Dead (1 + one_more_if target) else SendOnce port (without_target serial target)
entry_after_death serial Set = Set
entry_after_death serial (Dead references) = Dead references

-- whether a name stands for a right to the port
abbrev pub is_name_of : ℕ → Entry → Bool
is_name_of serial (Port rights) = rights.port == serial
is_name_of serial (SendOnce port target) = port == serial
is_name_of serial Set = false
is_name_of serial (Dead references) = false

-- the dead-name notice of a name, if it was asked for
abbrev pub dead_name_notice : ℕ → Option ℕ → List Effect
dead_name_notice name None = []
dead_name_notice name (Some target) = notify target (notice.DeadName name) ∷ []

-- the dead-name notice of a name that stood for the port
abbrev pub dead_name_of_entry : ℕ → ℕ → Entry → List Effect
dead_name_of_entry serial name entry = if is_name_of serial entry then dead_name_notice name (request_of entry) else []

-- all dead-name notices of a port's death, by space and name
abbrev pub dead_name_notices : Ipc → ℕ → List Effect
dead_name_notices state serial =
    flat_map (λ s. flat_map (λ e. dead_name_of_entry serial e.0 e.1) (finmap.entries s.1)) (finmap.entries state.spaces)

-- what a carried right becomes when a port dies
abbrev pub carried_after_death : ℕ → PortInMessage → PortInMessage
carried_after_death serial in_message.Null = in_message.Null
carried_after_death serial in_message.Dead = in_message.Dead
carried_after_death serial (in_message.Live port) = if port == serial then in_message.Dead else in_message.Live port

abbrev pub right_after_death : ℕ → CarriedRight → CarriedRight
right_after_death serial carried = record carried { port = carried_after_death serial carried.port }

abbrev pub message_after_death : ℕ → Message → Message
message_after_death serial message = record message {
  reply = option_map (right_after_death serial) message.reply;
  rights = map (right_after_death serial) message.rights;
}

abbrev pub port_after_death : ℕ → PortState → PortState
port_after_death serial port = record port {
  messages = map (message_after_death serial) port.messages;
  no_senders_target = without_target serial port.no_senders_target;
  port_destroyed_target = without_target serial port.port_destroyed_target;
}

-- a finite map with each value changed
abbrev pub map_values : {X : Type 0} → (X → X) → finmap.FinMap nat_cmp X → finmap.FinMap nat_cmp X
map_values change values = finmap.from_sorted (map (λ e. (e.0, change e.1)) (finmap.entries values))

-- A port dies: names of it become dead names, carried rights to it become MACH_PORT_DEAD, and requests whose target it
-- is go.
abbrev pub after_death : Ipc → ℕ → Ipc
after_death state serial = record state {
  spaces = map_values (map_values (entry_after_death serial)) state.spaces;
  ports = map_values (port_after_death serial) (finmap.remove state.ports serial);
}

-- the release of a request's send-once right, if there is a request
abbrev pub release_of_target : Option ℕ → List Effect
release_of_target None = []
release_of_target (Some target) = release kind.SendOnce target ∷ []

-- What a death adds: the releases of its messages' rights, oldest message first; the dead-name notices; the release of
-- its no-senders target.
abbrev pub effects_of_death : Ipc → ℕ → PortState → List Effect
effects_of_death state serial port =
    flat_map releases_of port.messages ++ (dead_name_notices state serial ++ release_of_target port.no_senders_target)

-- a state, and the effects that a step adds to the list
abbrev pub Outcome : Type 0
Outcome = Ipc × List Effect

-- the two parts of an outcome
abbrev pub state_after : Outcome → Ipc
state_after outcome = outcome.0

abbrev pub added : Outcome → List Effect
added outcome = outcome.1

abbrev pub died : Ipc → ℕ → PortState → Outcome
died state serial port = (after_death state serial, effects_of_death state serial port)

-- A send right was released. If none is left, a no-senders request is taken, and its notice goes out.
abbrev pub notified_no_senders : Ipc → ℕ → PortState → Option ℕ → Ipc
notified_no_senders state serial port None = state
notified_no_senders state serial port (Some target) =
    notified (with_port state serial (λ p. record p { no_senders_target = None })) target
    (notice.NoSenders port.make_send_count)

abbrev pub send_released : Ipc → ℕ → PortState → Ipc
send_released state serial port =
    if send_count state serial == 0 then notified_no_senders state serial port port.no_senders_target else state

-- a receive right goes to the target of a port-destroyed request, in the notice; the port begins anew, in no set
abbrev pub sent_to_target : Ipc → ℕ → ℕ → Ipc
sent_to_target state serial target =
    notified (with_port state serial
    (λ p. record p { set = None; sequence_number = 0; make_send_count = 0; port_destroyed_target = None })) target
    (notice.PortDestroyed serial)

-- A receive right was released: the port leaves its set. A port-destroyed request takes the right along, unless the
-- right would come back to its own queue; otherwise the port dies.
abbrev pub receive_released_to : Ipc → ℕ → PortState → Option ℕ → Outcome
receive_released_to state serial port None = died state serial port
receive_released_to state serial port (Some target) =
    if lives state target && not (is_circular state serial target) then (sent_to_target state serial target, [])
    else died state serial port

-- the effect of a release, where the port lives
abbrev pub released : Ipc → ℕ → PortState → RightKind → Outcome
released state serial port kind.Send = (send_released state serial port, [])
released state serial port kind.SendOnce = (notified state serial notice.SendOnce, [])
released state serial port kind.Receive = receive_released_to state serial port port.port_destroyed_target

abbrev pub released_if_live : Ipc → ℕ → RightKind → Option PortState → Outcome
released_if_live state serial kind None = (state, [])
released_if_live state serial kind (Some port) = released state serial port kind

-- One effect: the state after it, and the effects that it adds at the list's end.
unfoldable pub effect : Ipc → Effect → Outcome
effect state (release kind serial) = released_if_live state serial kind (finmap.get state.ports serial)
effect state (notify target what) = (notified state target what, [])

-- The list is drained from its front, until nothing is left.
pub data Settles : Ipc → List Effect → Ipc → Type 0 where
  settled : {state : Ipc} → Settles state [] state
  next_effect : {state end : Ipc} {first : Effect} {rest : List Effect}
      → Settles (state_after (effect state first)) (rest ++ added (effect state first)) end
      → Settles state (first ∷ rest) end
