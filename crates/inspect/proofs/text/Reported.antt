-- The receive right of each live port of a lawful state is found, under a name or in a message.
use Rattle.std.proofs.Common.{◌≡◌, ℕ, ◌+◌, Bool, true, false, cond, List, [], ◌∷◌, ◌++◌, Option, None, Some, refl, sym, ◌∙◌, arith}
use Rattle.std.specs.Prelude.{◌==◌, ◌&&◌, flat_map, count_by, find, if◌then◌else◌}
use Rattle.std.specs.FinMap as finmap
use Rattle.std.proofs.lemmas.List.Sums.{sum_by-cons}
use Rattle.ipc_model.specs.declared.entry.Entry.{Entry}
use Rattle.ipc_model.specs.declared.entry.Entry.TheVariants.{Port, SendOnce, Set, Dead}
use Rattle.ipc_model.specs.declared.message.CarriedRight.{CarriedRight}
use Rattle.ipc_model.specs.declared.message.Message.{Message}
use Rattle.ipc_model.specs.declared.message.PortInMessage.{PortInMessage}
use Rattle.ipc_model.specs.declared.message.PortInMessage.TheVariants as in_message
use Rattle.ipc_model.specs.declared.message.RightKind.{RightKind}
use Rattle.ipc_model.specs.declared.message.RightKind.TheVariants as kind
use Rattle.ipc_model.specs.declared.port.PortState.{PortState}
use Rattle.ipc_model.specs.state.Placed.{Place, held, reply, body, dead_name_request, no_senders_request, port_destroyed_request, Right, right_to, right_of_carried, right_of_reply, right_of_target, rights_of_message, rights_of_port, rights_of_entry, rights_of_space, placed, same_kind}
use Rattle.ipc_model.specs.state.Ipc.{Ipc, Names}
use Rattle.inspect.specs.text.Holders.{IsHeldOrCarried, IsListed, HoldersAreListed}
use Rattle.inspect.specs.text.Listing.{is_receive_right}

-- a receive right is under a name or in a message
abbrev IsPlaced : Right → Type 0
IsPlaced right = same_kind right.kind kind.Receive ≡ true → IsHeldOrCarried right.place

abbrev ArePlaced : List Right → Type 0
ArePlaced [] = Unit {0}
ArePlaced (right ∷ rest) = IsPlaced right × ArePlaced rest

placed-append : (first second : List Right) → ArePlaced first → ArePlaced second → ArePlaced (first ++ second)
placed-append [] second are others = others
placed-append (right ∷ rest) second are others = (are.0, placed-append rest second are.1 others)

placed-flat_map : {A : Type 0} (f : A → List Right) → ((a : A) → ArePlaced (f a)) → (xs : List A)
    → ArePlaced (flat_map f xs)
placed-flat_map f are [] = tt
placed-flat_map f are (x ∷ xs) = placed-append (f x) (flat_map f xs) (are x) (placed-flat_map f are xs)

no_receive_right : (place : Place) (target : Option ℕ) → ArePlaced (right_of_target place target)
no_receive_right place None = tt
no_receive_right place (Some serial) = ((λ (e : _). absurd cc), tt)

held_are : (space name serial : ℕ) (receive none : Bool) (target : Option ℕ)
    → ArePlaced ((if receive then record { kind = kind.Receive; port = serial; place = held space name } ∷ [] else [])
    ++ ((if none then [] else record { kind = kind.Send; port = serial; place = held space name } ∷ [])
    ++ right_of_target (dead_name_request space name) target))
held_are space name serial true true target = ((λ (e : _). tt), no_receive_right (dead_name_request space name) target)
held_are space name serial true false target =
    ((λ (e : _). tt), ((λ (e : _). tt), no_receive_right (dead_name_request space name) target))
held_are space name serial false true target = no_receive_right (dead_name_request space name) target
held_are space name serial false false target =
    ((λ (e : _). tt), no_receive_right (dead_name_request space name) target)

entry_is : (space name : ℕ) (entry : Entry) → ArePlaced (rights_of_entry space name entry)
entry_is space name (Port rights) =
    held_are space name rights.port rights.receive (rights.send == 0) rights.dead_name_target
entry_is space name (SendOnce port target) = ((λ (e : _). tt), no_receive_right (dead_name_request space name) target)
entry_is space name Set = tt
entry_is space name (Dead references) = tt

space_is : (space : ℕ) (names : Names) → ArePlaced (rights_of_space space names)
space_is space names =
    placed-flat_map (λ e. rights_of_entry space e.0 e.1) (λ e. entry_is space e.0 e.1) (finmap.entries names)

carried_is : (queue : ℕ) (k : RightKind) (port : PortInMessage) → ArePlaced (right_to (body queue) k port)
carried_is queue k in_message.Null = tt
carried_is queue k in_message.Dead = tt
carried_is queue k (in_message.Live serial) = ((λ (e : _). tt), tt)

reply_to_is : (queue : ℕ) (k : RightKind) (port : PortInMessage) → ArePlaced (right_to (reply queue) k port)
reply_to_is queue k in_message.Null = tt
reply_to_is queue k in_message.Dead = tt
reply_to_is queue k (in_message.Live serial) = ((λ (e : _). tt), tt)

reply_is : (queue : ℕ) (right : Option CarriedRight) → ArePlaced (right_of_reply queue right)
reply_is queue None = tt
reply_is queue (Some carried) = reply_to_is queue carried.kind carried.port

message_is : (queue : ℕ) (message : Message) → ArePlaced (rights_of_message queue message)
message_is queue message = (
  (λ (e : _). tt),
  placed-append (right_of_reply queue message.reply) (flat_map (right_of_carried (body queue)) message.rights)
      (reply_is queue message.reply)
      (placed-flat_map (right_of_carried (body queue))
      (λ carried. carried_is queue carried.kind carried.port) message.rights),
)

port_is : (serial : ℕ) (port : PortState) → ArePlaced (rights_of_port serial port)
port_is serial port =
    placed-append (flat_map (rights_of_message serial) port.messages) _
    (placed-flat_map (rights_of_message serial) (message_is serial) port.messages)
    (placed-append (right_of_target (no_senders_request serial) port.no_senders_target) _
    (no_receive_right (no_senders_request serial) port.no_senders_target)
    (no_receive_right (port_destroyed_request serial) port.port_destroyed_target))

all_are : (state : Ipc) → ArePlaced (placed state)
unfolding placed
all_are state =
    placed-append (flat_map (λ e. rights_of_space e.0 e.1) (finmap.entries state.spaces)) _
    (placed-flat_map (λ e. rights_of_space e.0 e.1) (λ e. space_is e.0 e.1) (finmap.entries state.spaces))
    (placed-flat_map (λ e. rights_of_port e.0 e.1) (λ e. port_is e.0 e.1) (finmap.entries state.ports))

both_hold : (a b : Bool) → a && b ≡ true → a ≡ true
both_hold true b e = refl
both_hold false b e = e

-- a receive right that is counted is found
found : (serial : ℕ) (rights : List Right) → ArePlaced rights → count_by (is_receive_right serial) rights ≡ 1
    → IsListed (find (is_receive_right serial) rights)
found serial [] are one = absurd (omega (arith, one))
found serial (right ∷ rest) are one =
    elim (is_receive_right serial right)
    as (λ (b : Bool). is_receive_right serial right ≡ b → cond b 1 0 + count_by (is_receive_right serial) rest ≡ 1
    → IsListed (cond b (Some right) (find (is_receive_right serial) rest))) [
      | true ↦ λ (own : _) (count : _). are.0 (both_hold (same_kind right.kind kind.Receive) (right.port == serial) own)
      | false ↦ λ (other : _) (count : _). found serial rest are.1 (omega (arith, count))
    ] refl (sym (sum_by-cons (λ r. cond (is_receive_right serial r) 1 0) right rest) ∙ one)

pub holders_are_listed : HoldersAreListed
holders_are_listed state serial lawful live =
    found serial (placed state) (all_are state) (lawful.one_receive serial live)
