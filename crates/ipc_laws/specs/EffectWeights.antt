-- How one effect changes counts of rights: receive rights are neither made nor lost, and no right names a dead port.
use Rattle.std.specs.Prelude.{◌≡◌, ℕ, ◌+◌, Bool, true, false, cond, ◌==◌, ◌&&◌, not, List, [], ◌∷◌, ◌++◌, flat_map, Option, None, Some, is_some, option_map, if◌then◌else◌, refl}
use Rattle.std.proofs.Common.{sym, ◌∙◌, ap, subst, inl, inr, arith}
use Rattle.std.specs.Ordering.{nat_cmp}
use Rattle.std.specs.FinMap as finmap
use Rattle.ipc_model.specs.declared.entry.Entry.{Entry}
use Rattle.ipc_model.specs.declared.entry.Entry.TheVariants.{Port, SendOnce, Set, Dead}
use Rattle.ipc_model.specs.declared.message.CarriedRight.{CarriedRight}
use Rattle.ipc_model.specs.declared.message.Message.{Message}
use Rattle.ipc_model.specs.declared.message.PortInMessage.{PortInMessage}
use Rattle.ipc_model.specs.declared.message.PortInMessage.TheVariants as in_message
use Rattle.ipc_model.specs.declared.message.PortInMessage.TheVariants.{Null, Live}
use Rattle.ipc_model.specs.declared.message.RightKind.{RightKind}
use Rattle.ipc_model.specs.declared.message.RightKind.TheVariants as kind
use Rattle.ipc_model.specs.declared.port.PortState.{PortState}
use Rattle.ipc_model.specs.state.Circular.{is_circular}
use Rattle.ipc_model.specs.effects.Effects.{Effect, release, notify, effect, releases_of, release_of, release_of_reply, release_of_port, queued, entry_after_death, port_after_death, message_after_death, right_after_death, carried_after_death, without_target, one_more_if, dead_name_of_entry, dead_name_notice, dead_name_notices, is_name_of, after_death, effects_of_death, release_of_target, map_values, died, notified_no_senders, sent_to_target, receive_released_to, released, released_if_live}
use Rattle.ipc_model.specs.state.Lawful.{IsWaiting}
use Rattle.ipc_laws.specs.MapLaws.{get-here, get-there}
use Rattle.ipc_laws.specs.MapSums.{weigh, total, weight, weigh-append, weigh-map, weigh-flat_map, weigh-same, weigh-zero, total-insert, total-remove, total-map_values}
use Rattle.ipc_model.specs.messages.Notices.{Notice, notice_message}
use Rattle.ipc_model.specs.messages.Notices as notice
use Rattle.ipc_laws.specs.Others.{number_same, number_decided, after_death_dead}
use Rattle.ipc_model.specs.state.Placed.{send_count}
use Rattle.ipc_model.specs.state.Ipc.{Ipc, Names, with_port, lives, request_of}
use Rattle.ipc_laws.specs.Weights.{Weight, target_weigh, entry_weigh, place_weigh, carried_weigh, reply_weigh, message_weigh, port_weigh, names_weigh, state_weigh, effect_weigh, receive_of}

-- a change of a live port
pub with_port_weigh : (w : Weight) (state : Ipc) (serial : ℕ) (change : PortState → PortState) (port : PortState)
    → finmap.get state.ports serial ≡ Some port
    → state_weigh w (with_port state serial change) + port_weigh w serial port
    ≡ state_weigh w state + port_weigh w serial (change port)
unfolding state_weigh
with_port_weigh w state serial change port there =
    let before : total (port_weigh w) (finmap.insert state.ports serial (change port)) + port_weigh w serial port
    ≡ total (port_weigh w) state.ports + port_weigh w serial (change port) =
    subst (λ (o : Option PortState). total (port_weigh w) (finmap.insert state.ports serial (change port)) + weight
    (port_weigh w) serial o ≡ total (port_weigh w) state.ports + port_weigh w serial (change port)) there
    (total-insert (port_weigh w) state.ports serial (change port)) in
    let is : with_port state serial change ≡ record state { ports = finmap.insert state.ports serial (change port) } =
    ap (λ (o : Option PortState). elim o as (λ _. Ipc)
    [ None ↦ state | Some p ↦ record state { ports = finmap.insert state.ports serial (change p) } ]) there in
    omega (
      arith,
      before,
      ap (λ (s : Ipc). total
          (λ space names. names_weigh w names) s.spaces + total (port_weigh w) s.ports) is,
    )

pub no_port : (state : Ipc) (serial : ℕ) (change : PortState → PortState) → finmap.get state.ports serial ≡ None
    → with_port state serial change ≡ state
no_port state serial change none =
    ap (λ (o : Option PortState). elim o as (λ _. Ipc)
    [ None ↦ state | Some p ↦ record state { ports = finmap.insert state.ports serial (change p) } ]) none

-- a message at the end of a live port's queue
pub queued_weigh : (w : Weight) (state : Ipc) (serial : ℕ) (port : PortState) (message : Message)
    → finmap.get state.ports serial ≡ Some port
    → state_weigh w (queued state serial message) ≡ state_weigh w state + message_weigh w serial message
queued_weigh w state serial port message there =
    omega (
      arith,
      with_port_weigh w state serial
          (λ (p : PortState). record p { messages = p.messages ++ message ∷ [] }) port there,
      weigh-append (message_weigh w serial) port.messages (message ∷ []),
    )

-- receive rights

no_target : (q : ℕ) (target : Option ℕ) → target_weigh (receive_of q) target ≡ 0
no_target q None = refl
no_target q (Some serial) = refl

notice_receive : (q target : ℕ) (what : Notice) → IsWaiting (notify target what)
    → message_weigh (receive_of q) target (notice_message what) ≡ 0
notice_receive q target (notice.PortDeleted name) waits = refl
notice_receive q target (notice.PortDestroyed serial) waits = absurd waits
notice_receive q target (notice.NoSenders count) waits = refl
notice_receive q target notice.SendOnce waits = refl
notice_receive q target (notice.DeadName name) waits = refl

-- a message that carries no receive right changes no count of them, whether its port lives or not
queued_receive : (q : ℕ) (state : Ipc) (serial : ℕ) (message : Message)
    → message_weigh (receive_of q) serial message ≡ 0
    → state_weigh (receive_of q) (queued state serial message) ≡ state_weigh (receive_of q) state
queued_receive q state serial message none =
    elim (finmap.get state.ports serial)
    as (λ (o : Option PortState). finmap.get state.ports serial ≡ o
    → state_weigh (receive_of q) (queued state serial message) ≡ state_weigh (receive_of q) state) [
      | None ↦ λ (absent : _). ap (state_weigh (receive_of q))
          (no_port state serial (λ (p : PortState). record p { messages = p.messages ++ message ∷ [] }) absent)
      | Some port ↦ λ (there : _). omega (arith, none, queued_weigh (receive_of q) state serial port message there)
    ] refl

no_senders_receive : (q : ℕ) (state : Ipc) (serial : ℕ) (port : PortState) (target : Option ℕ)
    → finmap.get state.ports serial ≡ Some port
    → state_weigh (receive_of q) (notified_no_senders state serial port target) ≡ state_weigh (receive_of q) state
no_senders_receive q state serial port None there = refl
no_senders_receive q state serial port (Some target) there =
    let taken : Ipc = with_port state serial (λ (p : PortState). record p { no_senders_target = None }) in
    omega (
      arith,
      queued_receive q taken target (notice_message (notice.NoSenders port.make_send_count)) refl,
      with_port_weigh (receive_of q) state serial (λ (p : PortState). record p { no_senders_target = None }) port there,
      no_target q port.no_senders_target,
    )

-- a death keeps the receive rights of other ports

apart_weighs_nothing : (q serial : ℕ) (kind : RightKind) → (serial == q) ≡ false → receive_of q kind serial ≡ 0
apart_weighs_nothing q serial kind.Receive apart = ap (λ (b : Bool). cond b 1 0) apart
apart_weighs_nothing q serial kind.Send apart = refl
apart_weighs_nothing q serial kind.SendOnce apart = refl

if_zero : (b : Bool) (n : ℕ) → n ≡ 0 → (if b then n else 0) ≡ 0
if_zero true n none = none
if_zero false n none = refl

unless_zero : (b : Bool) (n : ℕ) → n ≡ 0 → (if b then 0 else n) ≡ 0
unless_zero true n none = refl
unless_zero false n none = none

entry_receive : (q serial : ℕ) (entry : Entry) → (serial == q) ≡ false
    → entry_weigh (receive_of q) (entry_after_death serial entry) ≡ entry_weigh (receive_of q) entry
entry_receive q serial (Port rights) apart =
    elim (rights.port == serial) as (λ (b : Bool). (rights.port == serial) ≡ b
    → entry_weigh (receive_of q) (if b then Dead (rights.send + one_more_if rights.dead_name_target)
    else Port (record rights { dead_name_target = without_target serial rights.dead_name_target }))
    ≡ entry_weigh (receive_of q) (Port rights)) [
      | true ↦ λ (e : _).
          let none : receive_of q kind.Receive rights.port ≡ 0 =
          ap (receive_of q kind.Receive) (number_same rights.port serial e)
          ∙ apart_weighs_nothing q serial kind.Receive apart in
          omega (
            arith,
            if_zero rights.receive (receive_of q kind.Receive rights.port) none,
            unless_zero (rights.send == 0) (receive_of q kind.Send rights.port) refl,
            no_target q rights.dead_name_target,
          )
      | false ↦ λ (e : _). omega (
        arith,
        no_target q rights.dead_name_target,
        no_target q (without_target serial rights.dead_name_target),
      )
    ] refl
entry_receive q serial (SendOnce port target) apart =
    elim (port == serial) as (λ (b : Bool). entry_weigh (receive_of q)
    (if b then Dead (1 + one_more_if target) else SendOnce port (without_target serial target))
    ≡ entry_weigh (receive_of q) (SendOnce port target)) [
      | true ↦ omega (arith, no_target q target)
      | false ↦ omega (arith, no_target q target, no_target q (without_target serial target))
    ]
entry_receive q serial Set apart = refl
entry_receive q serial (Dead references) apart = refl

right_receive : (q serial : ℕ) (right : CarriedRight) → (serial == q) ≡ false
    → carried_weigh (receive_of q) (right_after_death serial right) ≡ carried_weigh (receive_of q) right
right_receive q serial right apart =
    elim right.port as (λ (port : PortInMessage). place_weigh (receive_of q) right.kind
    (carried_after_death serial port) ≡ place_weigh (receive_of q) right.kind port) [
      | Null ↦ refl
      | in_message.Dead ↦ refl
      | Live other ↦ elim (other == serial)
          as (λ (b : Bool). (other == serial) ≡ b
          → place_weigh (receive_of q) right.kind (if b then in_message.Dead else in_message.Live other)
          ≡ receive_of q right.kind other) [
            | true ↦ λ (e : _). sym (ap (receive_of q right.kind) (number_same other serial e)
                ∙ apart_weighs_nothing q serial right.kind apart)
            | false ↦ λ (e : _). refl
          ] refl
    ]

reply_receive : (q serial : ℕ) (right : Option CarriedRight) → (serial == q) ≡ false
    → reply_weigh (receive_of q) (option_map (right_after_death serial) right) ≡ reply_weigh (receive_of q) right
reply_receive q serial None apart = refl
reply_receive q serial (Some right) apart = right_receive q serial right apart

message_receive : (q serial queue : ℕ) (message : Message) → (serial == q) ≡ false
    → message_weigh (receive_of q) queue (message_after_death serial message)
    ≡ message_weigh (receive_of q) queue message
message_receive q serial queue message apart =
    omega (
      arith,
      reply_receive q serial message.reply apart,
      weigh-map (carried_weigh (receive_of q)) (right_after_death serial) message.rights,
      weigh-same (λ (r : CarriedRight). carried_weigh (receive_of q) (right_after_death serial r))
          (carried_weigh (receive_of q)) (λ (r : CarriedRight). right_receive q serial r apart) message.rights,
    )

port_receive : (q serial queue : ℕ) (port : PortState) → (serial == q) ≡ false
    → port_weigh (receive_of q) queue (port_after_death serial port) ≡ port_weigh (receive_of q) queue port
port_receive q serial queue port apart =
    omega (
      arith,
      no_target q port.no_senders_target,
      no_target q port.port_destroyed_target,
      no_target q (without_target serial port.no_senders_target),
      no_target q (without_target serial port.port_destroyed_target),
      weigh-map (message_weigh (receive_of q) queue) (message_after_death serial) port.messages,
      weigh-same (λ (m : Message). message_weigh (receive_of q) queue (message_after_death serial m))
          (message_weigh (receive_of q) queue) (λ (m : Message). message_receive q serial queue m apart) port.messages,
    )

-- what a destroyed message releases is what it carried
release_carries : (w : Weight) (right : CarriedRight)
    → weigh (effect_weigh w) (release_of right) ≡ carried_weigh w right
release_carries w right =
    elim right.port as (λ (port : PortInMessage). weigh (effect_weigh w) (release_of_port right.kind port)
    ≡ place_weigh w right.kind port) [
      | Null ↦ refl
      | in_message.Dead ↦ refl
      | Live serial ↦ omega arith
    ]

reply_release_carries : (w : Weight) (right : Option CarriedRight)
    → weigh (effect_weigh w) (release_of_reply right) ≡ reply_weigh w right
reply_release_carries w None = refl
reply_release_carries w (Some right) = release_carries w right

pub releases_carry : (w : Weight) (queue : ℕ) (message : Message)
    → w message.destination queue + weigh (effect_weigh w) (releases_of message) ≡ message_weigh w queue message
releases_carry w queue message =
    omega (
      arith,
      weigh-append (effect_weigh w) (release_of_reply message.reply) (flat_map release_of message.rights),
      reply_release_carries w message.reply,
      weigh-flat_map (effect_weigh w) release_of message.rights,
      weigh-same (λ (r : CarriedRight). weigh (effect_weigh w) (release_of r)) (carried_weigh w)
          (release_carries w) message.rights,
    )

dead_name_receive : (q serial name : ℕ) (entry : Entry)
    → weigh (effect_weigh (receive_of q)) (dead_name_of_entry serial name entry) ≡ 0
dead_name_receive q serial name entry =
    elim (is_name_of serial entry)
    as (λ (b : Bool). weigh (effect_weigh (receive_of q))
    (if b then dead_name_notice name (request_of entry) else []) ≡ 0) [
      | true ↦ elim (request_of entry)
          as (λ (o : Option ℕ). weigh (effect_weigh (receive_of q)) (dead_name_notice name o) ≡ 0)
          [ None ↦ refl | Some target ↦ refl ]
      | false ↦ refl
    ]

dead_names_receive : (q : ℕ) (state : Ipc) (serial : ℕ)
    → weigh (effect_weigh (receive_of q)) (dead_name_notices state serial) ≡ 0
dead_names_receive q state serial =
    let in_space : ℕ × Names → List Effect =
    λ s. flat_map (λ e. dead_name_of_entry serial e.0 e.1) (finmap.entries s.1) in
    weigh-flat_map (effect_weigh (receive_of q)) in_space (finmap.entries state.spaces)
    ∙ weigh-zero (λ (s : ℕ × Names). weigh (effect_weigh (receive_of q)) (in_space s)) (λ (s : ℕ × Names).
    weigh-flat_map (effect_weigh (receive_of q))
    (λ (e : ℕ × Entry). dead_name_of_entry serial e.0 e.1) (finmap.entries s.1)
    ∙ weigh-zero (λ (e : ℕ × Entry). weigh (effect_weigh (receive_of q)) (dead_name_of_entry serial e.0 e.1))
    (λ (e : ℕ × Entry). dead_name_receive q serial e.0 e.1) (finmap.entries s.1)) (finmap.entries state.spaces)

target_release_receive : (q : ℕ) (target : Option ℕ)
    → weigh (effect_weigh (receive_of q)) (release_of_target target) ≡ 0
target_release_receive q None = refl
target_release_receive q (Some serial) = refl

death_receive : (q : ℕ) (state : Ipc) (serial : ℕ) (port : PortState) → finmap.get state.ports serial ≡ Some port
    → (serial == q) ≡ false
    → state_weigh (receive_of q) (after_death state serial) + weigh (effect_weigh (receive_of q))
    (effects_of_death state serial port) ≡ state_weigh (receive_of q) state
unfolding state_weigh
death_receive q state serial port there apart =
    let w : Weight = receive_of q in
    let left : finmap.FinMap nat_cmp PortState = finmap.remove state.ports serial in
    let taken : total (port_weigh w) left + port_weigh w serial port ≡ total (port_weigh w) state.ports =
    subst (λ (o : Option PortState). total (port_weigh w) left + weight (port_weigh w) serial o
    ≡ total (port_weigh w) state.ports) there (total-remove (port_weigh w) state.ports serial) in
    let spaces : total (λ space names. names_weigh w names)
    (map_values (map_values (entry_after_death serial)) state.spaces) ≡ total
    (λ space names. names_weigh w names) state.spaces =
    total-map_values (λ space names. names_weigh w names) (map_values (entry_after_death serial)) state.spaces
    ∙ weigh-same (λ (s : ℕ × Names). names_weigh w (map_values (entry_after_death serial) s.1))
    (λ (s : ℕ × Names). names_weigh w s.1) (λ (s : ℕ × Names).
    total-map_values (λ name entry. entry_weigh w entry) (entry_after_death serial) s.1
    ∙ weigh-same (λ (e : ℕ × Entry). entry_weigh w (entry_after_death serial e.1))
    (λ (e : ℕ × Entry). entry_weigh w e.1)
    (λ (e : ℕ × Entry). entry_receive q serial e.1 apart) (finmap.entries s.1)) (finmap.entries state.spaces) in
    let ports : total (port_weigh w) (map_values (port_after_death serial) left) ≡ total (port_weigh w) left =
    total-map_values (port_weigh w) (port_after_death serial) left
    ∙ weigh-same (λ (e : ℕ × PortState). port_weigh w e.0 (port_after_death serial e.1))
    (λ (e : ℕ × PortState). port_weigh w e.0 e.1)
    (λ (e : ℕ × PortState). port_receive q serial e.0 e.1 apart) (finmap.entries left) in
    let messages : weigh (λ (m : Message). weigh (effect_weigh w) (releases_of m)) port.messages
    ≡ weigh (message_weigh w serial) port.messages =
    weigh-same (λ (m : Message). weigh (effect_weigh w) (releases_of m)) (message_weigh w serial)
    (λ (m : Message). omega (arith, releases_carry w serial m, apart_weighs_nothing q serial m.destination apart))
    port.messages in
    omega (
      arith,
      taken,
      spaces,
      ports,
      messages,
      no_target q port.no_senders_target,
      no_target q port.port_destroyed_target,
      weigh-append (effect_weigh w) (flat_map releases_of port.messages)
          (dead_name_notices state serial ++ release_of_target port.no_senders_target),
      weigh-append (effect_weigh w) (dead_name_notices state serial) (release_of_target port.no_senders_target),
      weigh-flat_map (effect_weigh w) releases_of port.messages,
      dead_names_receive q state serial,
      target_release_receive q port.no_senders_target,
    )

-- a receive right that goes to the target of a request
pub lives_some : (state : Ipc) (serial : ℕ) → lives state serial ≡ true → (port : PortState)
    × (finmap.get state.ports serial ≡ Some port)
lives_some state serial live =
    elim (finmap.get state.ports serial)
    as (λ (o : Option PortState). is_some o ≡ true → (port : PortState) × (o ≡ Some port)) [
      | None ↦ λ (e : _). absurd (cc e)
      | Some port ↦ λ (e : _). (port, refl)
    ] live

pub still_lives : (state : Ipc) (serial other : ℕ) (change : PortState → PortState) → lives state other ≡ true
    → lives (with_port state serial change) other ≡ true
still_lives state serial other change live =
    elim (finmap.get state.ports serial)
    as (λ (o : Option PortState). lives
    (elim o as (λ _. Ipc) [
      | None ↦ state
      | Some p ↦
          record state { ports = finmap.insert state.ports serial (change p) }
    ]) other ≡ true) [
      | None ↦ live
      | Some port ↦ elim (number_decided other serial)
          as (λ _. is_some (finmap.get (finmap.insert state.ports serial (change port)) other) ≡ true) [
            | inl apart ↦ ap is_some (get-there state.ports serial (change port) other apart) ∙ live
            | inr same ↦ ap (λ (k : ℕ). is_some (finmap.get (finmap.insert state.ports serial (change port)) k)) same
                ∙ ap is_some (get-here state.ports serial (change port))
          ]
    ]

abbrev pub moved_out : PortState → PortState
moved_out p = record p { set = None; sequence_number = 0; make_send_count = 0; port_destroyed_target = None }

sent_receive : (q : ℕ) (state : Ipc) (serial target : ℕ) (port : PortState)
    → finmap.get state.ports serial ≡ Some port → lives state target ≡ true
    → state_weigh (receive_of q) (sent_to_target state serial target)
    ≡ state_weigh (receive_of q) state + receive_of q kind.Receive serial
sent_receive q state serial target port there live =
    let moved : Ipc = with_port state serial moved_out in
    let at : _ = lives_some moved target (still_lives state serial target moved_out live) in
    omega (
      arith,
      queued_weigh (receive_of q) moved target at.0 (notice_message (notice.PortDestroyed serial)) at.1,
      with_port_weigh (receive_of q) state serial moved_out port there,
      no_target q port.port_destroyed_target,
    )

-- two ports of which one is live and the other isn't
apart_by_life : (state : Ipc) (serial q : ℕ) → lives state serial ≡ false → lives state q ≡ true
    → (serial == q) ≡ false
apart_by_life state serial q dead live = elim (serial == q) as (λ (b : Bool). (serial == q) ≡ b → b ≡ false) [
  | true ↦ λ (e : _). absurd (cc (sym dead ∙ ap (lives state) (number_same serial q e) ∙ live))
  | false ↦ λ (e : _). refl
] refl

-- what an outcome weighs, with the effects that it adds
abbrev pub outcome_weigh : Weight → Ipc × List Effect → ℕ
outcome_weigh w outcome = state_weigh w outcome.0 + weigh (effect_weigh w) outcome.1

died_receive : (q : ℕ) (state : Ipc) (serial : ℕ) (port : PortState) → finmap.get state.ports serial ≡ Some port
    → lives (after_death state serial) q ≡ true
    → outcome_weigh (receive_of q) (died state serial port)
    ≡ state_weigh (receive_of q) state + receive_of q kind.Receive serial
died_receive q state serial port there live =
    let apart : (serial == q) ≡ false =
    apart_by_life (after_death state serial) serial q (after_death_dead state serial) live in
    omega (arith, death_receive q state serial port there apart, apart_weighs_nothing q serial kind.Receive apart)

abbrev pub sent_or_died : Bool → Ipc → ℕ → PortState → ℕ → Ipc × List Effect
sent_or_died b state serial port target = if b then (sent_to_target state serial target, []) else died state serial port

receive_released : (q : ℕ) (state : Ipc) (serial : ℕ) (port : PortState) (target : Option ℕ)
    → finmap.get state.ports serial ≡ Some port → lives (receive_released_to state serial port target).0 q ≡ true
    → outcome_weigh (receive_of q) (receive_released_to state serial port target)
    ≡ state_weigh (receive_of q) state + receive_of q kind.Receive serial
receive_released q state serial port None there live = died_receive q state serial port there live
receive_released q state serial port (Some target) there live =
    elim (lives state target) as (λ (b : Bool). lives state target ≡ b
    → lives (sent_or_died (b && not (is_circular state serial target)) state serial port target).0 q ≡ true
    → outcome_weigh (receive_of q) (sent_or_died (b && not (is_circular state serial target)) state serial port target)
    ≡ state_weigh (receive_of q) state + receive_of q kind.Receive serial) [
      | true ↦ λ (alive : _). elim (not (is_circular state serial target))
          as (λ (b : Bool). lives (sent_or_died b state serial port target).0 q ≡ true
          → outcome_weigh (receive_of q) (sent_or_died b state serial port target)
          ≡ state_weigh (receive_of q) state + receive_of q kind.Receive serial) [
            | true ↦ λ (live : _). omega (arith, sent_receive q state serial target port there alive)
            | false ↦ λ (live : _). died_receive q state serial port there live
          ]
      | false ↦ λ (alive : _) (live : _). died_receive q state serial port there live
    ] refl live

released_receive : (q : ℕ) (state : Ipc) (serial : ℕ) (port : PortState) (kind : RightKind)
    → finmap.get state.ports serial ≡ Some port → lives (released state serial port kind).0 q ≡ true
    → outcome_weigh (receive_of q) (released state serial port kind)
    ≡ state_weigh (receive_of q) state + receive_of q kind serial
released_receive q state serial port kind.Send there live =
    elim (send_count state serial == 0)
    as (λ (b : Bool). state_weigh (receive_of q)
    (if b then notified_no_senders state serial port port.no_senders_target else state) + 0
    ≡ state_weigh (receive_of q) state + 0) [
      | true ↦ omega (arith, no_senders_receive q state serial port port.no_senders_target there)
      | false ↦ refl
    ]
released_receive q state serial port kind.SendOnce there live =
    omega (arith, queued_receive q state serial (notice_message notice.SendOnce) refl)
released_receive q state serial port kind.Receive there live =
    receive_released q state serial port port.port_destroyed_target there live

-- the release of a right to a dead port does nothing, and weighs nothing for a live port
dead_release : (q : ℕ) (state : Ipc) (serial : ℕ) (kind : RightKind) → finmap.get state.ports serial ≡ None
    → lives state q ≡ true → receive_of q kind serial ≡ 0
dead_release q state serial kind none live =
    apart_weighs_nothing q serial kind (apart_by_life state serial q (ap is_some none) live)

-- An effect keeps the receive rights of each port that lives after it: in the state and in the effects that are left.
pub effect_receive : (q : ℕ) (state : Ipc) (first : Effect) → IsWaiting first → lives (effect state first).0 q ≡ true
    → outcome_weigh (receive_of q) (effect state first)
    ≡ state_weigh (receive_of q) state + effect_weigh (receive_of q) first
unfolding effect
effect_receive q state (release kind serial) waits live =
    elim (finmap.get state.ports serial)
    as (λ (o : Option PortState). finmap.get state.ports serial ≡ o
    → lives (released_if_live state serial kind o).0 q ≡ true
    → outcome_weigh (receive_of q) (released_if_live state serial kind o)
    ≡ state_weigh (receive_of q) state + receive_of q kind serial) [
      | None ↦ λ (none : _) (live : _). omega (arith, dead_release q state serial kind none live)
      | Some port ↦ λ (there : _) (live : _). released_receive q state serial port kind there live
    ] refl live
effect_receive q state (notify target what) waits live =
    omega (arith, queued_receive q state target (notice_message what) (notice_receive q target what waits))
