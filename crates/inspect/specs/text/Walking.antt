-- The rights of a snapshot, one after another, as a walk passes them to `see`.
use Rattle.std.specs.Prelude.{ℕ, ◌==◌, List, [], ◌∷◌, Option, None, Some, if◌then◌else◌}
use Rattle.ipc_model.specs.declared.entry.Entry.{Entry}
use Rattle.ipc_model.specs.declared.entry.Entry.TheVariants.{Port, SendOnce}
use Rattle.ipc_model.specs.declared.message.CarriedRight.{CarriedRight}
use Rattle.ipc_model.specs.declared.message.Message.{Message}
use Rattle.ipc_model.specs.declared.message.PortInMessage.{PortInMessage}
use Rattle.ipc_model.specs.declared.message.PortInMessage.TheVariants as in_message
use Rattle.ipc_model.specs.declared.message.RightKind.{RightKind}
use Rattle.ipc_model.specs.declared.message.RightKind.TheVariants as kind
use Rattle.ipc_model.specs.declared.port.PortState.{PortState}
use Rattle.snapshot.specs.declared.rows.LivePort.{LivePort}
use Rattle.snapshot.specs.declared.rows.NamedEntry.{NamedEntry}
use Rattle.snapshot.specs.declared.rows.IpcSnapshot.{IpcSnapshot}
use Rattle.snapshot.specs.declared.rows.Space.{Space}
use Rattle.inspect.specs.declared.text.standing.Standing.{Standing}
use Rattle.inspect.specs.declared.text.standing.Standing.TheVariants.{Held, Queued, DeadNameRequest, NoSendersRequest, PortDestroyedRequest}
use Rattle.inspect.specs.declared.text.standing.StandingRight.{StandingRight}

abbrev pub right : RightKind → ℕ → Standing → ℕ → StandingRight
right of_kind serial standing references =
    record { kind = of_kind; port = serial; standing = standing; references = references }

-- the target of a name's dead-name request
abbrev pub request_target : Entry → Option ℕ
request_target (Port rights) = rights.dead_name_target
request_target (SendOnce port target) = target
request_target _ = None

module _ {S : Type 0} (see : StandingRight → S → S) where
  -- the target of a request is passed, if there is one
  abbrev pub target_seen : Standing → Option ℕ → S → S
  target_seen standing None s = s
  target_seen standing (Some serial) s = see (right kind.SendOnce serial standing 0) s

  abbrev pub receive_seen : ℕ → ℕ → Entry → S → S
  receive_seen space name (Port rights) s =
      if rights.receive then see (right kind.Receive rights.port (Held space name) rights.send) s else s
  receive_seen space name _ s = s

  abbrev pub send_seen : ℕ → ℕ → Entry → S → S
  send_seen space name (Port rights) s =
      if rights.send == 0 then s else see (right kind.Send rights.port (Held space name) rights.send) s
  send_seen space name (SendOnce port target) s = see (right kind.SendOnce port (Held space name) 1) s
  send_seen space name _ s = s

  -- the rights of an entry of a space are passed
  unfoldable pub entry_seen : ℕ → ℕ → Entry → S → S
  entry_seen space name entry s =
      target_seen (DeadNameRequest space name) (request_target entry)
      (send_seen space name entry (receive_seen space name entry s))

  abbrev pub names_seen : ℕ → List NamedEntry → S → S
  names_seen space [] s = s
  names_seen space (named ∷ rest) s = names_seen space rest (entry_seen space named.name named.entry s)

  abbrev pub spaces_seen : List Space → S → S
  spaces_seen [] s = s
  spaces_seen (space ∷ rest) s = spaces_seen rest (names_seen space.number space.names s)

  -- a right in a message of a port's queue is passed
  abbrev pub port_seen : ℕ → RightKind → PortInMessage → S → S
  port_seen queue of_kind in_message.Null s = s
  port_seen queue of_kind in_message.Dead s = s
  port_seen queue of_kind (in_message.Live serial) s = see (right of_kind serial (Queued queue) 0) s

  abbrev pub carried_seen : ℕ → CarriedRight → S → S
  carried_seen queue carried s = port_seen queue carried.kind carried.port s

  abbrev pub reply_seen : ℕ → Option CarriedRight → S → S
  reply_seen queue None s = s
  reply_seen queue (Some carried) s = carried_seen queue carried s

  abbrev pub rights_seen : ℕ → List CarriedRight → S → S
  rights_seen queue [] s = s
  rights_seen queue (carried ∷ rest) s = rights_seen queue rest (carried_seen queue carried s)

  unfoldable pub message_seen : ℕ → Message → S → S
  message_seen queue message s =
      rights_seen queue message.rights
      (reply_seen queue message.reply (see (right message.destination queue (Queued queue) 0) s))

  abbrev pub messages_seen : ℕ → List Message → S → S
  messages_seen queue [] s = s
  messages_seen queue (message ∷ rest) s = messages_seen queue rest (message_seen queue message s)

  -- the rights in the state of a live port are passed
  unfoldable pub state_seen : ℕ → PortState → S → S
  state_seen serial port s =
      target_seen (PortDestroyedRequest serial) port.port_destroyed_target
      (target_seen (NoSendersRequest serial) port.no_senders_target (messages_seen serial port.messages s))

  abbrev pub ports_seen : List LivePort → S → S
  ports_seen [] s = s
  ports_seen (port ∷ rest) s = ports_seen rest (state_seen port.serial port.state s)

  -- all rights of a snapshot are passed
  unfoldable pub snapshot_seen : IpcSnapshot → S → S
  snapshot_seen snapshot s = ports_seen snapshot.ports (spaces_seen snapshot.spaces s)
