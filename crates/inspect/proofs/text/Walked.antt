-- A walk over the snapshot of a state passes the rights of the state, one after another.
use Rattle.std.proofs.Common.{◌≡◌, ℕ, Bool, true, false, List, [], ◌∷◌, ◌++◌, map, Option, None, Some, refl, sym, ◌∙◌, ap}
use Rattle.std.specs.Prelude.{◌==◌, flat_map, if◌then◌else◌}
use Rattle.std.specs.FinMap as finmap
use Rattle.ipc_model.specs.declared.entry.Entry.{Entry}
use Rattle.ipc_model.specs.declared.entry.Entry.TheVariants.{Port, SendOnce, Set, Dead}
use Rattle.ipc_model.specs.declared.message.CarriedRight.{CarriedRight}
use Rattle.ipc_model.specs.declared.message.Message.{Message}
use Rattle.ipc_model.specs.declared.message.PortInMessage.{PortInMessage}
use Rattle.ipc_model.specs.declared.message.PortInMessage.TheVariants as in_message
use Rattle.ipc_model.specs.declared.message.RightKind.{RightKind}
use Rattle.ipc_model.specs.declared.message.RightKind.TheVariants as kind
use Rattle.ipc_model.specs.declared.port.PortState.{PortState}
use Rattle.ipc_model.specs.state.Placed.{Place, held, destination, reply, body, dead_name_request, no_senders_request, port_destroyed_request, waiting, Right, right_to, right_of_carried, right_of_reply, right_of_target, rights_of_message, rights_of_port, rights_of_entry}
use Rattle.ipc_model.specs.state.Ipc.{Ipc, Names}
use Rattle.snapshot.specs.Snapshots.{names_of, ipc_snapshot_of}
use Rattle.inspect.specs.declared.text.standing.Standing.{Standing}
use Rattle.inspect.specs.declared.text.standing.Standing.TheVariants.{Held, Queued, DeadNameRequest, NoSendersRequest, PortDestroyedRequest}
use Rattle.inspect.specs.declared.text.standing.StandingRight.{StandingRight}
use Rattle.inspect.specs.text.Listing.{references_of}
use Rattle.inspect.specs.text.Walking.{right, target_seen, entry_seen, names_seen, spaces_seen, carried_seen, reply_seen, rights_seen, message_seen, messages_seen, state_seen, ports_seen, snapshot_seen}

-- the place of a right; no right of a state is in pending effects
abbrev pub standing_of : Place → Standing
standing_of (held space name) = Held space name
standing_of (destination queue) = Queued queue
standing_of (reply queue) = Queued queue
standing_of (body queue) = Queued queue
standing_of (dead_name_request space name) = DeadNameRequest space name
standing_of (no_senders_request port) = NoSendersRequest port
standing_of (port_destroyed_request port) = PortDestroyedRequest port
standing_of waiting = NoSendersRequest 0

-- the references of the name that holds a right
abbrev pub references_at : ℕ → Place → ℕ
references_at references (held space name) = references
references_at references (destination queue) = 0
references_at references (reply queue) = 0
references_at references (body queue) = 0
references_at references (dead_name_request space name) = 0
references_at references (no_senders_request port) = 0
references_at references (port_destroyed_request port) = 0
references_at references waiting = 0

abbrev pub as_seen : ℕ → Right → StandingRight
as_seen references r = right r.kind r.port (standing_of r.place) (references_at references r.place)

-- the rights in the states of ports
abbrev pub kept_rights : List (ℕ × PortState) → List Right
kept_rights es = flat_map (λ e. rights_of_port e.0 e.1) es

module _ {S : Type 0} (see : StandingRight → S → S) where
  -- rights that are passed one after another
  abbrev pub all_seen : ℕ → List Right → S → S
  all_seen references [] s = s
  all_seen references (r ∷ rest) s = all_seen references rest (see (as_seen references r) s)

  pub seen-append : (references : ℕ) (first second : List Right) (s : S)
      → all_seen references (first ++ second) s ≡ all_seen references second (all_seen references first s)
  seen-append references [] second s = refl
  seen-append references (r ∷ rest) second s = seen-append references rest second (see (as_seen references r) s)

  dead_name_target_is : (references space name : ℕ) (target : Option ℕ) (s : S)
      → target_seen see (DeadNameRequest space name) target s
      ≡ all_seen references (right_of_target (dead_name_request space name) target) s
  dead_name_target_is references space name None s = refl
  dead_name_target_is references space name (Some serial) s = refl

  no_senders_target_is : (port : ℕ) (target : Option ℕ) (s : S)
      → target_seen see (NoSendersRequest port) target s
      ≡ all_seen 0 (right_of_target (no_senders_request port) target) s
  no_senders_target_is port None s = refl
  no_senders_target_is port (Some serial) s = refl

  port_destroyed_target_is : (port : ℕ) (target : Option ℕ) (s : S)
      → target_seen see (PortDestroyedRequest port) target s
      ≡ all_seen 0 (right_of_target (port_destroyed_request port) target) s
  port_destroyed_target_is port None s = refl
  port_destroyed_target_is port (Some serial) s = refl

  -- the rights of a name, given whether it has a receive right and whether it has no send right
  held_is : (space name serial references : ℕ) (receive none : Bool) (target : Option ℕ) (s : S)
      → target_seen see (DeadNameRequest space name) target
      (if none then (if receive then see (right kind.Receive serial (Held space name) references) s else s)
      else see (right kind.Send serial (Held space name) references)
      (if receive then see (right kind.Receive serial (Held space name) references) s else s))
      ≡ all_seen references ((if receive
      then record { kind = kind.Receive; port = serial; place = held space name } ∷ [] else [])
      ++ ((if none then [] else record { kind = kind.Send; port = serial; place = held space name } ∷ [])
      ++ right_of_target (dead_name_request space name) target)) s
  held_is space name serial references true true target s = dead_name_target_is references space name target _
  held_is space name serial references true false target s = dead_name_target_is references space name target _
  held_is space name serial references false true target s = dead_name_target_is references space name target _
  held_is space name serial references false false target s = dead_name_target_is references space name target _

  entry_is : (space name : ℕ) (entry : Entry) (s : S)
      → entry_seen see space name entry s ≡ all_seen (references_of entry) (rights_of_entry space name entry) s
  unfolding entry_seen
  entry_is space name (Port rights) s =
      held_is space name rights.port rights.send rights.receive (rights.send == 0) rights.dead_name_target s
  entry_is space name (SendOnce port target) s = dead_name_target_is 1 space name target _
  entry_is space name Set s = refl
  entry_is space name (Dead references) s = refl

  -- the rights of a space's names, and of all spaces
  abbrev pub names_all_seen : ℕ → List (ℕ × Entry) → S → S
  names_all_seen space [] s = s
  names_all_seen space (e ∷ es) s =
      names_all_seen space es (all_seen (references_of e.1) (rights_of_entry space e.0 e.1) s)

  abbrev pub spaces_all_seen : List (ℕ × Names) → S → S
  spaces_all_seen [] s = s
  spaces_all_seen (e ∷ es) s = spaces_all_seen es (names_all_seen e.0 (finmap.entries e.1) s)

  names_are : (space : ℕ) (es : List (ℕ × Entry)) (s : S)
      → names_seen see space (map (λ e. record { name = e.0; entry = e.1 }) es) s ≡ names_all_seen space es s
  names_are space [] s = refl
  names_are space (e ∷ es) s =
      ap (names_seen see space (map (λ f. record { name = f.0; entry = f.1 }) es)) (entry_is space e.0 e.1 s)
      ∙ names_are space es (all_seen (references_of e.1) (rights_of_entry space e.0 e.1) s)

  spaces_are : (es : List (ℕ × Names)) (s : S)
      → spaces_seen see (map (λ e. record { number = e.0; names = names_of e.1 }) es) s ≡ spaces_all_seen es s
  spaces_are [] s = refl
  spaces_are (e ∷ es) s =
      ap (spaces_seen see (map (λ f. record { number = f.0; names = names_of f.1 }) es))
      (names_are e.0 (finmap.entries e.1) s)
      ∙ spaces_are es (names_all_seen e.0 (finmap.entries e.1) s)

  reply_is : (queue : ℕ) (right : Option CarriedRight) (s : S)
      → reply_seen see queue right s ≡ all_seen 0 (right_of_reply queue right) s
  reply_is queue None s = refl
  reply_is queue (Some carried) s = go carried.kind carried.port
    where
      go : (k : RightKind) (port : PortInMessage)
          → reply_seen see queue (Some (record { kind = k; port = port })) s
          ≡ all_seen 0 (right_to (reply queue) k port) s
      go k in_message.Null = refl
      go k in_message.Dead = refl
      go k (in_message.Live serial) = refl

  carried_is : (queue : ℕ) (carried : CarriedRight) (s : S)
      → carried_seen see queue carried s ≡ all_seen 0 (right_of_carried (body queue) carried) s
  carried_is queue carried s = go carried.kind carried.port
    where
      go : (k : RightKind) (port : PortInMessage)
          → carried_seen see queue (record { kind = k; port = port }) s ≡ all_seen 0 (right_to (body queue) k port) s
      go k in_message.Null = refl
      go k in_message.Dead = refl
      go k (in_message.Live serial) = refl

  rights_are : (queue : ℕ) (rights : List CarriedRight) (s : S)
      → rights_seen see queue rights s ≡ all_seen 0 (flat_map (right_of_carried (body queue)) rights) s
  rights_are queue [] s = refl
  rights_are queue (carried ∷ rest) s =
      ap (rights_seen see queue rest) (carried_is queue carried s)
      ∙ rights_are queue rest (all_seen 0 (right_of_carried (body queue) carried) s)
      ∙ sym (seen-append 0 (right_of_carried (body queue) carried) (flat_map (right_of_carried (body queue)) rest) s)

  message_is : (queue : ℕ) (message : Message) (s : S)
      → message_seen see queue message s ≡ all_seen 0 (rights_of_message queue message) s
  unfolding message_seen
  message_is queue message s =
      let sent : S = see (right message.destination queue (Queued queue) 0) s in
      ap (rights_seen see queue message.rights) (reply_is queue message.reply sent)
      ∙ rights_are queue message.rights (all_seen 0 (right_of_reply queue message.reply) sent)
      ∙ sym (seen-append 0 (right_of_reply queue message.reply)
      (flat_map (right_of_carried (body queue)) message.rights) sent)

  messages_are : (queue : ℕ) (messages : List Message) (s : S)
      → messages_seen see queue messages s ≡ all_seen 0 (flat_map (rights_of_message queue) messages) s
  messages_are queue [] s = refl
  messages_are queue (message ∷ rest) s =
      ap (messages_seen see queue rest) (message_is queue message s)
      ∙ messages_are queue rest (all_seen 0 (rights_of_message queue message) s)
      ∙ sym (seen-append 0 (rights_of_message queue message) (flat_map (rights_of_message queue) rest) s)

  state_is : (serial : ℕ) (port : PortState) (s : S)
      → state_seen see serial port s ≡ all_seen 0 (rights_of_port serial port) s
  unfolding state_seen
  state_is serial port s =
      let queued : List Right = flat_map (rights_of_message serial) port.messages in
      let listed : List Right = right_of_target (no_senders_request serial) port.no_senders_target in
      let backed : List Right = right_of_target (port_destroyed_request serial) port.port_destroyed_target in
      ap (λ t. target_seen see (PortDestroyedRequest serial) port.port_destroyed_target
      (target_seen see (NoSendersRequest serial) port.no_senders_target t)) (messages_are serial port.messages s)
      ∙ ap (target_seen see (PortDestroyedRequest serial) port.port_destroyed_target)
      (no_senders_target_is serial port.no_senders_target (all_seen 0 queued s))
      ∙ port_destroyed_target_is serial port.port_destroyed_target (all_seen 0 listed (all_seen 0 queued s))
      ∙ sym (seen-append 0 listed backed (all_seen 0 queued s))
      ∙ sym (seen-append 0 queued (listed ++ backed) s)

  ports_are : (es : List (ℕ × PortState)) (s : S)
      → ports_seen see (map (λ e. record { serial = e.0; state = e.1 }) es) s ≡ all_seen 0 (kept_rights es) s
  ports_are [] s = refl
  ports_are (e ∷ es) s =
      ap (ports_seen see (map (λ f. record { serial = f.0; state = f.1 }) es)) (state_is e.0 e.1 s)
      ∙ ports_are es (all_seen 0 (rights_of_port e.0 e.1) s)
      ∙ sym (seen-append 0 (rights_of_port e.0 e.1) (kept_rights es) s)

  pub snapshot_is : (state : Ipc) (s : S)
      → snapshot_seen see (ipc_snapshot_of state) s
      ≡ all_seen 0 (kept_rights (finmap.entries state.ports)) (spaces_all_seen (finmap.entries state.spaces) s)
  unfolding snapshot_seen ipc_snapshot_of
  snapshot_is state s =
      ap (ports_seen see (map (λ e. record { serial = e.0; state = e.1 }) (finmap.entries state.ports)))
      (spaces_are (finmap.entries state.spaces) s)
      ∙ ports_are (finmap.entries state.ports) (spaces_all_seen (finmap.entries state.spaces) s)
