-- Settling ends: each effect lowers a number, so the list drains.
use Rattle.std.specs.Prelude.{◌≡◌, ℕ, zero, suc, ◌+◌, ◌<◌, ◌≤◌, Bool, true, false, ◌==◌, ◌&&◌, not, List, [], ◌∷◌, ◌++◌, length, map, flat_map, Option, None, Some, option_map, if◌then◌else◌, refl}
use Rattle.std.proofs.Common.{ap, subst, arith, length-append}
use Rattle.std.specs.FinMap as finmap
use Rattle.ipc_model.specs.declared.entry.Entry.{Entry}
use Rattle.ipc_model.specs.declared.entry.Entry.TheVariants.{Port, SendOnce, Set, Dead}
use Rattle.ipc_model.specs.declared.message.CarriedRight.{CarriedRight}
use Rattle.ipc_model.specs.declared.message.Message.{Message}
use Rattle.ipc_model.specs.declared.message.PortInMessage.{PortInMessage}
use Rattle.ipc_model.specs.declared.message.PortInMessage.TheVariants as in_message
use Rattle.ipc_model.specs.declared.message.PortInMessage.TheVariants.{Null, Live}
use Rattle.ipc_model.specs.declared.message.RightKind.{RightKind}
use Rattle.ipc_model.specs.declared.message.RightKind.TheVariants as kind
use Rattle.ipc_model.specs.declared.port.PortState.{PortState}
use Rattle.ipc_model.specs.state.Circular.{is_circular}
use Rattle.ipc_model.specs.effects.Effects.{Effect, release, notify, effect, Settles, settled, next_effect, releases_of, release_of, release_of_reply, release_of_port, queued, notified, entry_after_death, port_after_death, message_after_death, right_after_death, carried_after_death, without_target, one_more_if, dead_name_of_entry, dead_name_notice, dead_name_notices, after_death, effects_of_death, release_of_target, map_values, died, notified_no_senders, send_released, sent_to_target, receive_released_to, released, released_if_live}
use Rattle.ipc_laws.specs.MapSums.{weigh, total, weight, weigh-append, weigh-le, weigh-map, weigh-flat_map, weigh-same, weigh-sum, length-flat_map, total-insert, total-remove, total-map_values}
use Rattle.ipc_model.specs.messages.Notices.{Notice, notice_message}
use Rattle.ipc_model.specs.messages.Notices as notice
use Rattle.ipc_model.specs.state.Placed.{send_count}
use Rattle.ipc_model.specs.state.Ipc.{Ipc, Names, with_port, lives, request_of}

-- what a request weighs
abbrev pub one_if_some : Option ℕ → ℕ
one_if_some None = 0
one_if_some (Some target) = 1

-- what the name of an entry may still set off: the notice of its dead-name request
abbrev pub entry_weight : ℕ → Entry → ℕ
entry_weight name entry = one_if_some (request_of entry)

-- the reply and body rights of a message, which its destruction releases
abbrev pub message_weight : Message → ℕ
message_weight message = length (releases_of message)

-- the weight of a live port: itself, its requests, and what its messages carry
abbrev pub port_weight : ℕ → PortState → ℕ
port_weight serial port =
    1 + weigh message_weight port.messages + one_if_some port.no_senders_target + one_if_some port.port_destroyed_target

abbrev pub names_weight : ℕ → Names → ℕ
names_weight space names = total entry_weight names

-- carried reply and body rights, requests and live ports
unfoldable pub state_weight : Ipc → ℕ
state_weight state = total names_weight state.spaces + total port_weight state.ports

-- an effect that is left: itself, and what a notice will carry
abbrev pub effect_weight : Effect → ℕ
effect_weight (release kind serial) = 1
effect_weight (notify target what) = 1 + message_weight (notice_message what)

-- The measure of a state with effects left: carried reply and body rights, requests, live ports, and effects.
abbrev pub measure : Ipc → List Effect → ℕ
measure state effects = state_weight state + weigh effect_weight effects

-- a change of a live port
with_port_weight : (state : Ipc) (serial : ℕ) (change : PortState → PortState) (port : PortState)
    → finmap.get state.ports serial ≡ Some port
    → state_weight (with_port state serial change) + port_weight serial port
    ≡ state_weight state + port_weight serial (change port)
unfolding state_weight
with_port_weight state serial change port there =
    let inserted = total-insert port_weight state.ports serial (change port) in
    let before : total port_weight (finmap.insert state.ports serial (change port)) + port_weight serial port
    ≡ total port_weight state.ports + port_weight serial (change port) =
    subst (λ (o : Option PortState). total port_weight
    (finmap.insert state.ports serial (change port)) + weight port_weight serial o
    ≡ total port_weight state.ports + port_weight serial (change port)) there inserted in
    let is : with_port state serial change ≡ record state { ports = finmap.insert state.ports serial (change port) } =
    ap (λ (o : Option PortState). elim o as (λ _. Ipc)
    [ None ↦ state | Some p ↦ record state { ports = finmap.insert state.ports serial (change p) } ]) there in
    omega (arith, before, ap (λ (s : Ipc). total names_weight s.spaces + total port_weight s.ports) is)

absent_port : (state : Ipc) (serial : ℕ) (change : PortState → PortState) → finmap.get state.ports serial ≡ None
    → with_port state serial change ≡ state
absent_port state serial change none =
    ap (λ (o : Option PortState). elim o as (λ _. Ipc)
    [ None ↦ state | Some p ↦ record state { ports = finmap.insert state.ports serial (change p) } ]) none

-- a message that is queued adds at most what it carries
queued_weight : (state : Ipc) (serial : ℕ) (message : Message)
    → state_weight (queued state serial message) ≤ state_weight state + message_weight message
queued_weight state serial message =
    elim (finmap.get state.ports serial)
    as (λ (o : Option PortState). finmap.get state.ports serial ≡ o
    → state_weight (queued state serial message) ≤ state_weight state + message_weight message) [
      | None ↦ λ (none : _). omega (
        arith,
        ap state_weight (absent_port state serial
            (λ (port : PortState). record port { messages = port.messages ++ message ∷ [] }) none),
      )
      | Some port ↦ λ (there : _).
          omega (
            arith,
            with_port_weight state serial
                (λ (p : PortState). record p { messages = p.messages ++ message ∷ [] }) port there,
            weigh-append message_weight port.messages (message ∷ []),
          )
    ] refl

-- a request of a port that is taken, and its notice
taken_weight : (state : Ipc) (serial : ℕ) (port : PortState) (target : ℕ) (change : PortState → PortState)
    (what : Notice) → finmap.get state.ports serial ≡ Some port
    → port_weight serial (change port) + message_weight (notice_message what) ≤ port_weight serial port
    → state_weight (notified (with_port state serial change) target what) ≤ state_weight state
taken_weight state serial port target change what there less =
    omega (
      arith,
      less,
      with_port_weight state serial change port there,
      queued_weight (with_port state serial change) target (notice_message what),
    )

no_senders_weight : (state : Ipc) (serial : ℕ) (port : PortState) (target : Option ℕ)
    → finmap.get state.ports serial ≡ Some port → port.no_senders_target ≡ target
    → state_weight (notified_no_senders state serial port target) ≤ state_weight state
no_senders_weight state serial port None there is = omega arith
no_senders_weight state serial port (Some target) there is =
    taken_weight state serial port target
    (λ (p : PortState). record p { no_senders_target = None }) (notice.NoSenders port.make_send_count) there
    (omega (arith, ap one_if_some is))

send_released_weight : (state : Ipc) (serial : ℕ) (port : PortState) → finmap.get state.ports serial ≡ Some port
    → state_weight (send_released state serial port) ≤ state_weight state
send_released_weight state serial port there =
    elim (send_count state serial == 0)
    as (λ (b : Bool). state_weight
    (if b then notified_no_senders state serial port port.no_senders_target else state) ≤ state_weight state) [
      | true ↦ no_senders_weight state serial port port.no_senders_target there refl
      | false ↦ omega arith
    ]

-- A death takes more than it adds.

fewer_requests : (serial : ℕ) (target : Option ℕ) → one_if_some (without_target serial target) ≤ one_if_some target
fewer_requests serial None = omega arith
fewer_requests serial (Some target) =
    elim (target == serial) as (λ (b : Bool). one_if_some (if b then None else Some target) ≤ 1)
    [ true ↦ omega arith | false ↦ omega arith ]

notice_of_request : (name : ℕ) (target : Option ℕ)
    → 0 + weigh effect_weight (dead_name_notice name target) ≤ one_if_some target
notice_of_request name None = omega arith
notice_of_request name (Some target) = omega arith

-- of an entry: its request is left, or becomes a notice, or goes
entry_at_death : (serial name : ℕ) (entry : Entry)
    → entry_weight name (entry_after_death serial entry) + weigh effect_weight (dead_name_of_entry serial name entry)
    ≤ entry_weight name entry
entry_at_death serial name (Port rights) =
    elim (rights.port == serial) as (λ (b : Bool).
    entry_weight name (if b then Dead (rights.send + one_more_if rights.dead_name_target)
    else Port (record rights { dead_name_target = without_target serial rights.dead_name_target }))
    + weigh effect_weight (if b then dead_name_notice name rights.dead_name_target else [])
    ≤ one_if_some rights.dead_name_target) [
      | true ↦ notice_of_request name rights.dead_name_target
      | false ↦ omega (arith, fewer_requests serial rights.dead_name_target)
    ]
entry_at_death serial name (SendOnce port target) =
    elim (port == serial) as (λ (b : Bool).
    entry_weight name (if b then Dead (1 + one_more_if target) else SendOnce port (without_target serial target)) +
    weigh effect_weight (if b then dead_name_notice name target else []) ≤ one_if_some target) [
      | true ↦ notice_of_request name target
      | false ↦ omega (arith, fewer_requests serial target)
    ]
entry_at_death serial name Set = omega arith
entry_at_death serial name (Dead references) = omega arith

-- a carried right is left, or becomes a dead one
right_at_death : (serial : ℕ) (right : CarriedRight)
    → length (release_of (right_after_death serial right)) ≤ length (release_of right)
right_at_death serial right =
    elim right.port as (λ (port : PortInMessage). length (release_of_port right.kind (carried_after_death serial port))
    ≤ length (release_of_port right.kind port)) [
      | Null ↦ omega arith
      | in_message.Dead ↦ omega arith
      | Live other ↦ elim (other == serial)
          as (λ (b : Bool). length (release_of_port right.kind (if b then in_message.Dead else in_message.Live other))
          ≤ 1) [ true ↦ omega arith | false ↦ omega arith ]
    ]

reply_at_death : (serial : ℕ) (reply : Option CarriedRight)
    → length (release_of_reply (option_map (right_after_death serial) reply)) ≤ length (release_of_reply reply)
reply_at_death serial None = omega arith
reply_at_death serial (Some right) = right_at_death serial right

message_at_death : (serial : ℕ) (message : Message)
    → message_weight (message_after_death serial message) ≤ message_weight message
message_at_death serial message =
    let rights_after = map (right_after_death serial) message.rights in
    omega (
      arith,
      reply_at_death serial message.reply,
      length-append (release_of_reply (option_map (right_after_death serial) message.reply))
          (flat_map release_of rights_after),
      length-append (release_of_reply message.reply) (flat_map release_of message.rights),
      length-flat_map release_of rights_after,
      length-flat_map release_of message.rights,
      weigh-map (λ (r : CarriedRight). length (release_of r)) (right_after_death serial) message.rights,
      weigh-le (λ (r : CarriedRight). length (release_of (right_after_death serial r)))
          (λ (r : CarriedRight). length (release_of r)) (right_at_death serial) message.rights,
    )

port_at_death : (serial other : ℕ) (port : PortState)
    → port_weight other (port_after_death serial port) ≤ port_weight other port
port_at_death serial other port =
    omega (
      arith,
      fewer_requests serial port.no_senders_target,
      fewer_requests serial port.port_destroyed_target,
      weigh-map message_weight (message_after_death serial) port.messages,
      weigh-le (λ (m : Message). message_weight (message_after_death serial m)) message_weight
          (message_at_death serial) port.messages,
    )

-- the releases of a destroyed message weigh as much as the message carried
release_weight : (right : CarriedRight) → weigh effect_weight (release_of right) ≡ length (release_of right)
release_weight right =
    elim right.port as (λ (port : PortInMessage). weigh effect_weight (release_of_port right.kind port)
    ≡ length (release_of_port right.kind port)) [
      | Null ↦ refl
      | in_message.Dead ↦ refl
      | Live serial ↦ refl
    ]

reply_release_weight : (reply : Option CarriedRight)
    → weigh effect_weight (release_of_reply reply) ≡ length (release_of_reply reply)
reply_release_weight None = refl
reply_release_weight (Some right) = release_weight right

releases_weight : (message : Message) → weigh effect_weight (releases_of message) ≡ message_weight message
releases_weight message =
    omega (
      arith,
      weigh-append effect_weight (release_of_reply message.reply) (flat_map release_of message.rights),
      reply_release_weight message.reply,
      weigh-flat_map effect_weight release_of message.rights,
      weigh-same (λ (r : CarriedRight). weigh effect_weight (release_of r))
          (λ (r : CarriedRight). length (release_of r)) release_weight message.rights,
      length-append (release_of_reply message.reply) (flat_map release_of message.rights),
      length-flat_map release_of message.rights,
    )

target_weight : (target : Option ℕ) → weigh effect_weight (release_of_target target) ≡ one_if_some target
target_weight None = refl
target_weight (Some serial) = refl

-- of the names of a space
names_at_death : (serial space : ℕ) (names : Names)
    → names_weight space (map_values (entry_after_death serial) names) + weigh effect_weight
    (flat_map (λ e. dead_name_of_entry serial e.0 e.1) (finmap.entries names)) ≤ names_weight space names
names_at_death serial space names =
    let entries : List (ℕ × Entry) = finmap.entries names in
    omega (
      arith,
      total-map_values entry_weight (entry_after_death serial) names,
      weigh-flat_map effect_weight (λ (e : ℕ × Entry). dead_name_of_entry serial e.0 e.1) entries,
      weigh-sum (λ (e : ℕ × Entry). entry_weight e.0 (entry_after_death serial e.1))
          (λ (e : ℕ × Entry). weigh effect_weight (dead_name_of_entry serial e.0 e.1)) entries,
      weigh-le (λ (e : ℕ × Entry). entry_weight e.0 (entry_after_death serial e.1) + weigh effect_weight
          (dead_name_of_entry serial e.0 e.1)) (λ (e : ℕ × Entry). entry_weight e.0 e.1)
          (λ (e : ℕ × Entry). entry_at_death serial e.0 e.1) entries,
    )

spaces_at_death : (state : Ipc) (serial : ℕ)
    → total names_weight (map_values (map_values (entry_after_death serial)) state.spaces) + weigh effect_weight
    (dead_name_notices state serial) ≤ total names_weight state.spaces
spaces_at_death state serial =
    let spaces : List (ℕ × Names) = finmap.entries state.spaces in
    let notices : ℕ × Names → List Effect =
    λ s. flat_map (λ e. dead_name_of_entry serial e.0 e.1) (finmap.entries s.1) in
    omega (
      arith,
      total-map_values names_weight (map_values (entry_after_death serial)) state.spaces,
      weigh-flat_map effect_weight notices spaces,
      weigh-sum (λ (s : ℕ × Names). names_weight s.0 (map_values (entry_after_death serial) s.1))
          (λ (s : ℕ × Names). weigh effect_weight (notices s)) spaces,
      weigh-le (λ (s : ℕ × Names). names_weight s.0 (map_values (entry_after_death serial) s.1) + weigh effect_weight
          (notices s)) (λ (s : ℕ × Names). names_weight s.0 s.1)
          (λ (s : ℕ × Names). names_at_death serial s.0 s.1) spaces,
    )

-- The port itself is one more than what its death adds.
death_weight : (state : Ipc) (serial : ℕ) (port : PortState) → finmap.get state.ports serial ≡ Some port
    → state_weight (after_death state serial) + weigh effect_weight (effects_of_death state serial port)
    < state_weight state
unfolding state_weight
death_weight state serial port there =
    let left : finmap.FinMap _ PortState = finmap.remove state.ports serial in
    let taken : total port_weight left + port_weight serial port ≡ total port_weight state.ports =
    subst (λ (o : Option PortState). total port_weight left + weight port_weight serial o
    ≡ total port_weight state.ports) there (total-remove port_weight state.ports serial) in
    omega (
      arith,
      taken,
      spaces_at_death state serial,
      total-map_values port_weight (port_after_death serial) left,
      weigh-le (λ (e : ℕ × PortState). port_weight e.0 (port_after_death serial e.1))
          (λ (e : ℕ × PortState). port_weight e.0 e.1)
          (λ (e : ℕ × PortState). port_at_death serial e.0 e.1) (finmap.entries left),
      weigh-append effect_weight (flat_map releases_of port.messages)
          (dead_name_notices state serial ++ release_of_target port.no_senders_target),
      weigh-append effect_weight (dead_name_notices state serial) (release_of_target port.no_senders_target),
      target_weight port.no_senders_target,
      weigh-flat_map effect_weight releases_of port.messages,
      weigh-same (λ (m : Message). weigh effect_weight (releases_of m)) message_weight releases_weight port.messages,
    )

-- a receive right that is released: sent to the target of a request, or its port dies
receive_released_weight : (state : Ipc) (serial : ℕ) (port : PortState) (target : Option ℕ)
    → finmap.get state.ports serial ≡ Some port → port.port_destroyed_target ≡ target
    → state_weight (receive_released_to state serial port target).0 + weigh effect_weight
    (receive_released_to state serial port target).1 ≤ state_weight state
receive_released_weight state serial port None there is = omega (arith, death_weight state serial port there)
receive_released_weight state serial port (Some target) there is =
    elim (lives state target && not (is_circular state serial target)) as (λ (b : Bool).
    state_weight (if b then (sent_to_target state serial target, []) else died state serial port).0 + weigh
    effect_weight (if b then (sent_to_target state serial target, []) else died state serial port).1
    ≤ state_weight state) [
      | true ↦ omega (
        arith,
        taken_weight state serial port target
            (λ (p : PortState). record p {
              set = None;
              sequence_number = 0;
              make_send_count = 0;
              port_destroyed_target = None;
            }) (notice.PortDestroyed serial) there (omega (arith, ap one_if_some is)),
      )
      | false ↦ omega (arith, death_weight state serial port there)
    ]

released_weight : (state : Ipc) (serial : ℕ) (port : PortState) (kind : RightKind)
    → finmap.get state.ports serial ≡ Some port
    → state_weight (released state serial port kind).0 + weigh effect_weight (released state serial port kind).1
    ≤ state_weight state
released_weight state serial port kind.Send there = omega (arith, send_released_weight state serial port there)
released_weight state serial port kind.SendOnce there =
    omega (arith, queued_weight state serial (notice_message notice.SendOnce))
released_weight state serial port kind.Receive there =
    receive_released_weight state serial port port.port_destroyed_target there refl

effect_lowers : (state : Ipc) (first : Effect)
    → state_weight (effect state first).0 + weigh effect_weight (effect state first).1
    < state_weight state + effect_weight first
unfolding effect
effect_lowers state (release kind serial) =
    elim (finmap.get state.ports serial) as (λ (o : Option PortState). finmap.get state.ports serial ≡ o
    → state_weight (released_if_live state serial kind o).0 + weigh effect_weight
    (released_if_live state serial kind o).1 < state_weight state + 1) [
      | None ↦ λ (none : _). omega arith
      | Some port ↦ λ (there : _). omega (arith, released_weight state serial port kind there)
    ] refl
effect_lowers state (notify target what) = omega (arith, queued_weight state target (notice_message what))

-- Each effect lowers the measure.
abbrev pub EffectsLower : Type 0
EffectsLower =
    (state : Ipc) (first : Effect) (rest : List Effect)
    → measure (effect state first).0 (rest ++ (effect state first).1) < measure state (first ∷ rest)

pub effects_lower : EffectsLower
effects_lower state first rest =
    omega (arith, effect_lowers state first, weigh-append effect_weight rest (effect state first).1)

-- so the list drains
settles_within : (n : ℕ) (state : Ipc) (effects : List Effect) → measure state effects < n → (end : Ipc)
    × Settles state effects end
settles_within zero state effects less = absurd (omega (arith, less))
settles_within (suc n) state [] less = (state, settled)
settles_within (suc n) state (first ∷ rest) less =
    let later =
    settles_within n (effect state first).0 (rest ++ (effect state first).1)
    (omega (arith, less, effects_lower state first rest)) in
    (later.0, next_effect later.1)

-- Every list of effects settles.
abbrev pub AlwaysSettles : Type 0
AlwaysSettles = (state : Ipc) (effects : List Effect) → (end : Ipc) × Settles state effects end

pub always_settles : AlwaysSettles
always_settles state effects = settles_within (measure state effects + 1) state effects (omega arith)
