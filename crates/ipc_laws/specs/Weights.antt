-- The rights of a state, weighed: counts of rights as sums over the entries of spaces and over the ports.
use Rattle.std.specs.Prelude.{◌≡◌, ℕ, ◌+◌, Bool, true, false, cond, ◌==◌, ◌&&◌, List, [], ◌∷◌, ◌++◌, map, flat_map, count_by, Option, None, Some, if◌then◌else◌, refl}
use Rattle.std.proofs.Common.{◌∙◌, arith}
use Rattle.std.proofs.lemmas.List.Sums.{sum_by-cons}
use Rattle.std.specs.FinMap as finmap
use Rattle.ipc_model.specs.declared.entry.Entry.{Entry}
use Rattle.ipc_model.specs.declared.entry.Entry.TheVariants.{Port, SendOnce, Set, Dead}
use Rattle.ipc_model.specs.declared.message.CarriedRight.{CarriedRight}
use Rattle.ipc_model.specs.declared.message.Message.{Message}
use Rattle.ipc_model.specs.declared.message.PortInMessage.{PortInMessage}
use Rattle.ipc_model.specs.declared.message.PortInMessage.TheVariants as in_message
use Rattle.ipc_model.specs.declared.message.PortInMessage.TheVariants.{Null, Live}
use Rattle.ipc_model.specs.declared.message.RightKind.{RightKind}
use Rattle.ipc_model.specs.declared.message.RightKind.TheVariants as kind
use Rattle.ipc_model.specs.declared.port.PortState.{PortState}
use Rattle.ipc_model.specs.effects.Effects.{Effect, release, notify}
use Rattle.ipc_model.specs.state.Lawful.{right_of_effect, placed_with, count_with, rights_count}
use Rattle.ipc_laws.specs.MapSums.{weigh, total, weigh-append, weigh-flat_map, weigh-map, weigh-same}
use Rattle.ipc_model.specs.state.Placed.{Right, Place, placed, same_kind, right_to, right_of_carried, right_of_reply, right_of_target, rights_of_message, rights_of_port, rights_of_entry, rights_of_space, held, reply, body, dead_name_request, no_senders_request, port_destroyed_request}
use Rattle.ipc_model.specs.state.Ipc.{Ipc, Names}

-- what a right of a kind to a port weighs, wherever it stands
abbrev pub Weight : Type 0
Weight = RightKind → ℕ → ℕ

abbrev pub target_weigh : Weight → Option ℕ → ℕ
target_weigh w None = 0
target_weigh w (Some serial) = w kind.SendOnce serial

abbrev pub entry_weigh : Weight → Entry → ℕ
entry_weigh w (Port rights) =
    (if rights.receive then w kind.Receive rights.port else 0) +
    ((if rights.send == 0 then 0 else w kind.Send rights.port) + target_weigh w rights.dead_name_target)
entry_weigh w (SendOnce port target) = w kind.SendOnce port + target_weigh w target
entry_weigh w Set = 0
entry_weigh w (Dead references) = 0

abbrev pub place_weigh : Weight → RightKind → PortInMessage → ℕ
place_weigh w kind in_message.Null = 0
place_weigh w kind in_message.Dead = 0
place_weigh w kind (in_message.Live serial) = w kind serial

abbrev pub carried_weigh : Weight → CarriedRight → ℕ
carried_weigh w right = place_weigh w right.kind right.port

abbrev pub reply_weigh : Weight → Option CarriedRight → ℕ
reply_weigh w None = 0
reply_weigh w (Some right) = carried_weigh w right

abbrev pub message_weigh : Weight → ℕ → Message → ℕ
message_weigh w queue message =
    w message.destination queue + (reply_weigh w message.reply + weigh (carried_weigh w) message.rights)

abbrev pub port_weigh : Weight → ℕ → PortState → ℕ
port_weigh w serial port =
    weigh (message_weigh w serial) port.messages +
    (target_weigh w port.no_senders_target + target_weigh w port.port_destroyed_target)

abbrev pub names_weigh : Weight → Names → ℕ
names_weigh w names = total (λ name entry. entry_weigh w entry) names

unfoldable pub state_weigh : Weight → Ipc → ℕ
state_weigh w state = total (λ space names. names_weigh w names) state.spaces + total (port_weigh w) state.ports

abbrev pub effect_weigh : Weight → Effect → ℕ
effect_weigh w (release kind serial) = w kind serial
effect_weigh w (notify target what) = w kind.SendOnce target

abbrev pub right_weigh : Weight → Right → ℕ
right_weigh w right = w right.kind right.port

-- the list of placed rights weighs as much

weigh-to : (w : Weight) (place : Place) (kind : RightKind) (port : PortInMessage)
    → weigh (right_weigh w) (right_to place kind port) ≡ place_weigh w kind port
weigh-to w place kind in_message.Null = refl
weigh-to w place kind in_message.Dead = refl
weigh-to w place kind (in_message.Live serial) = omega arith

weigh-target : (w : Weight) (request : Place) (target : Option ℕ)
    → weigh (right_weigh w) (right_of_target request target) ≡ target_weigh w target
weigh-target w request None = refl
weigh-target w request (Some serial) = omega arith

weigh-reply : (w : Weight) (queue : ℕ) (carried : Option CarriedRight)
    → weigh (right_weigh w) (right_of_reply queue carried) ≡ reply_weigh w carried
weigh-reply w queue None = refl
weigh-reply w queue (Some right) = weigh-to w (reply queue) right.kind right.port

weigh-carried : (w : Weight) (place : Place) (rights : List CarriedRight)
    → weigh (right_weigh w) (flat_map (right_of_carried place) rights) ≡ weigh (carried_weigh w) rights
weigh-carried w place rights =
    weigh-flat_map (right_weigh w) (right_of_carried place) rights
    ∙ weigh-same (λ (r : CarriedRight). weigh (right_weigh w) (right_of_carried place r)) (carried_weigh w)
    (λ (r : CarriedRight). weigh-to w place r.kind r.port) rights

weigh-message : (w : Weight) (queue : ℕ) (message : Message)
    → weigh (right_weigh w) (rights_of_message queue message) ≡ message_weigh w queue message
weigh-message w queue message =
    omega (
      arith,
      weigh-append (right_weigh w) (right_of_reply queue message.reply)
          (flat_map (right_of_carried (body queue)) message.rights),
      weigh-reply w queue message.reply,
      weigh-carried w (body queue) message.rights,
    )

weigh-port : (w : Weight) (serial : ℕ) (port : PortState)
    → weigh (right_weigh w) (rights_of_port serial port) ≡ port_weigh w serial port
weigh-port w serial port =
    omega (
      arith,
      weigh-append (right_weigh w) (flat_map (rights_of_message serial) port.messages)
          (right_of_target (no_senders_request serial) port.no_senders_target
          ++ right_of_target (port_destroyed_request serial) port.port_destroyed_target),
      weigh-append (right_weigh w) (right_of_target (no_senders_request serial) port.no_senders_target)
          (right_of_target (port_destroyed_request serial) port.port_destroyed_target),
      weigh-target w (no_senders_request serial) port.no_senders_target,
      weigh-target w (port_destroyed_request serial) port.port_destroyed_target,
      weigh-flat_map (right_weigh w) (rights_of_message serial) port.messages,
      weigh-same (λ (m : Message). weigh (right_weigh w) (rights_of_message serial m)) (message_weigh w serial)
          (weigh-message w serial) port.messages,
    )

weigh-if : (w : Weight) (b : Bool) (right : Right)
    → weigh (right_weigh w) (if b then right ∷ [] else []) ≡ (if b then right_weigh w right else 0)
weigh-if w true right = omega arith
weigh-if w false right = refl

weigh-unless : (w : Weight) (b : Bool) (right : Right)
    → weigh (right_weigh w) (if b then [] else right ∷ []) ≡ (if b then 0 else right_weigh w right)
weigh-unless w true right = refl
weigh-unless w false right = omega arith

weigh-entry : (w : Weight) (space name : ℕ) (entry : Entry)
    → weigh (right_weigh w) (rights_of_entry space name entry) ≡ entry_weigh w entry
weigh-entry w space name (Port rights) =
    let receive : Right = record { kind = kind.Receive; port = rights.port; place = held space name } in
    let send : Right = record { kind = kind.Send; port = rights.port; place = held space name } in
    omega (
      arith,
      weigh-append (right_weigh w) (if rights.receive then receive ∷ [] else [])
          ((if rights.send == 0 then [] else send ∷ [])
          ++ right_of_target (dead_name_request space name) rights.dead_name_target),
      weigh-append (right_weigh w) (if rights.send == 0 then [] else send ∷ [])
          (right_of_target (dead_name_request space name) rights.dead_name_target),
      weigh-if w rights.receive receive,
      weigh-unless w (rights.send == 0) send,
      weigh-target w (dead_name_request space name) rights.dead_name_target,
    )
weigh-entry w space name (SendOnce port target) = omega (arith, weigh-target w (dead_name_request space name) target)
weigh-entry w space name Set = refl
weigh-entry w space name (Dead references) = refl

weigh-space : (w : Weight) (space : ℕ) (names : Names)
    → weigh (right_weigh w) (rights_of_space space names) ≡ names_weigh w names
weigh-space w space names =
    weigh-flat_map (right_weigh w) (λ (e : ℕ × Entry). rights_of_entry space e.0 e.1) (finmap.entries names)
    ∙ weigh-same (λ (e : ℕ × Entry). weigh (right_weigh w) (rights_of_entry space e.0 e.1))
    (λ (e : ℕ × Entry). entry_weigh w e.1) (λ (e : ℕ × Entry). weigh-entry w space e.0 e.1) (finmap.entries names)

pub weigh-placed : (w : Weight) (state : Ipc) → weigh (right_weigh w) (placed state) ≡ state_weigh w state
unfolding placed state_weigh
weigh-placed w state =
    let spaces : List (ℕ × Names) = finmap.entries state.spaces in
    let ports : List (ℕ × PortState) = finmap.entries state.ports in
    omega (
      arith,
      weigh-append (right_weigh w) (flat_map (λ (e : ℕ × Names). rights_of_space e.0 e.1) spaces)
          (flat_map (λ (e : ℕ × PortState). rights_of_port e.0 e.1) ports),
      weigh-flat_map (right_weigh w) (λ (e : ℕ × Names). rights_of_space e.0 e.1) spaces,
      weigh-same (λ (e : ℕ × Names). weigh (right_weigh w) (rights_of_space e.0 e.1))
          (λ (e : ℕ × Names). names_weigh w e.1) (λ (e : ℕ × Names). weigh-space w e.0 e.1) spaces,
      weigh-flat_map (right_weigh w) (λ (e : ℕ × PortState). rights_of_port e.0 e.1) ports,
      weigh-same (λ (e : ℕ × PortState). weigh (right_weigh w) (rights_of_port e.0 e.1))
          (λ (e : ℕ × PortState). port_weigh w e.0 e.1) (λ (e : ℕ × PortState). weigh-port w e.0 e.1) ports,
    )

count-weigh : {X : Type 0} (test : X → Bool) (xs : List X) → count_by test xs ≡ weigh (λ x. cond (test x) 1 0) xs
count-weigh test [] = refl
count-weigh test (x ∷ xs) = sum_by-cons (λ y. cond (test y) 1 0) x xs ∙ omega (arith, count-weigh test xs)

-- the weight by which receive rights of one port are counted, and that by which all of its rights are
abbrev pub receive_of : ℕ → Weight
receive_of serial what port = cond (same_kind what kind.Receive && port == serial) 1 0

abbrev pub any_of : ℕ → Weight
any_of serial what port = cond (port == serial) 1 0

weigh-effect : (w : Weight) (first : Effect) → right_weigh w (right_of_effect first) ≡ effect_weigh w first
weigh-effect w (release kind serial) = refl
weigh-effect w (notify target what) = refl

pub count-receive : (state : Ipc) (effects : List Effect) (serial : ℕ)
    → count_with kind.Receive state effects serial
    ≡ state_weigh (receive_of serial) state + weigh (effect_weigh (receive_of serial)) effects
count-receive state effects serial =
    let w : Weight = receive_of serial in
    count-weigh (λ (r : Right). same_kind r.kind kind.Receive && r.port == serial) (placed_with state effects)
    ∙ omega (
      arith,
      weigh-append (right_weigh w) (placed state) (map right_of_effect effects),
      weigh-placed w state,
      weigh-map (right_weigh w) right_of_effect effects,
      weigh-same (λ (e : Effect). right_weigh w (right_of_effect e)) (effect_weigh w) (weigh-effect w) effects,
    )

pub count-any : (state : Ipc) (serial : ℕ) → rights_count state serial ≡ state_weigh (any_of serial) state
count-any state serial =
    count-weigh (λ (r : Right). r.port == serial) (placed state) ∙ weigh-placed (any_of serial) state
