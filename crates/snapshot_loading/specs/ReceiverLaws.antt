-- Each port has one receive right exactly if the ports of the receive rights, sorted, are the live ports.
use Rattle.std.proofs.Common.{◌≡◌, ◌≢◌, inl, inr, ℕ, suc, ◌+◌, ◌<◌, ◌≤◌, ◌==◌, nat_lt, Bool, true, false, cond, if◌then◌else◌, All, List, [], ◌∷◌, length, get_or, map, flat_map, Option, None, Some, is_some, sum_by, refl, sym, ◌∙◌, ap, arith}
use Rattle.std.specs.Prelude.{IsPermutation}
use Rattle.std.specs.List.Sorted.{IsNonDecreasing}
use Rattle.std.specs.FinMap.{entries, get, remove}
use Rattle.std.proofs.lemmas.Bool.{eq-eqb, ltb-true, ltb-false}
use Rattle.std.proofs.lemmas.List.Elements.{All-head, All-tail}
use Rattle.std.proofs.lemmas.List.Sorted.{sum_by-IsPermutation}
use Rattle.std.proofs.lemmas.List.Sums.{sum_by-cons}
use Rattle.ipc_laws.specs.Dangling.{left_apart, not_equal, total-zero}
use Rattle.ipc_laws.specs.MapSums.{weigh, weigh-append, weigh-flat_map, weigh-map, weigh-same, total, weight, total-remove}
use Rattle.ipc_laws.specs.Others.{number_decided}
use Rattle.ipc_laws.specs.Weights.{receive_of, carried_weigh, entry_weigh, message_weigh, names_weigh, place_weigh, port_weigh, state_weigh, target_weigh}
use Rattle.ipc_model.specs.declared.entry.Entry.{Entry}
use Rattle.ipc_model.specs.declared.entry.Entry.TheVariants.{Port, SendOnce, Set, Dead}
use Rattle.ipc_model.specs.declared.message.CarriedRight.{CarriedRight}
use Rattle.ipc_model.specs.declared.message.Message.{Message}
use Rattle.ipc_model.specs.declared.message.PortInMessage.{PortInMessage}
use Rattle.ipc_model.specs.declared.message.PortInMessage.TheVariants as in_message
use Rattle.ipc_model.specs.declared.message.PortInMessage.TheVariants.{Null, Live}
use Rattle.ipc_model.specs.declared.message.RightKind.{RightKind}
use Rattle.ipc_model.specs.declared.message.RightKind.TheVariants as kind
use Rattle.ipc_model.specs.declared.port.PortState.{PortState}
use Rattle.ipc_model.specs.state.Lawful.{LawfulMessage}
use Rattle.ipc_model.specs.state.Ipc.{Names, Ipc, lives, received_port}
use Rattle.snapshot.specs.Ascending.{AscendsFrom}
use Rattle.snapshot.specs.Snapshots.{names_of, ipc_snapshot_of}
use Rattle.snapshot.specs.declared.rows.LivePort.{LivePort}
use Rattle.snapshot.specs.declared.rows.NamedEntry.{NamedEntry}
use Rattle.snapshot.specs.declared.rows.IpcSnapshot.{IpcSnapshot}
use Rattle.snapshot.specs.declared.rows.Space.{Space}
use Rattle.snapshot_loading.specs.Holding.{no_receive, no_reply, no_target, unless_same}
use Rattle.snapshot_loading.specs.Receivers.{received_as, received_at, received_by, received_in, received_under, received_with, receivers}
use Rattle.snapshot.specs.Rows.{all_entries, named_row, port_row, serial_of, space_row}

-- 1 for this number, 0 for others
abbrev pub is_one : ℕ → ℕ → ℕ
is_one serial n = cond (n == serial) 1 0

entry_receives : (s : ℕ) (row : NamedEntry)
    → weigh (is_one s) (received_under row) ≡ entry_weigh (receive_of s) row.entry
entry_receives s row = by row.entry
  where
    by : (entry : Entry) → weigh (is_one s)
        (elim (received_port entry) as (λ _. List ℕ) [ None ↦ [] | Some serial ↦ serial ∷ [] ])
        ≡ entry_weigh (receive_of s) entry
    by (Port rights) =
        elim rights.receive as (λ (b : Bool). weigh (is_one s)
        (elim (if b then Some rights.port else None) as (λ _. List ℕ) [ None ↦ [] | Some serial ↦ serial ∷ [] ])
        ≡ (if b then receive_of s kind.Receive rights.port else 0) +
        ((if rights.send == 0 then 0 else receive_of s kind.Send rights.port) + target_weigh
        (receive_of s) rights.dead_name_target)) [
          | true ↦ omega (arith, unless_same (rights.send == 0), no_target s rights.dead_name_target)
          | false ↦ omega (arith, unless_same (rights.send == 0), no_target s rights.dead_name_target)
        ]
    by (SendOnce port target) = omega (arith, no_target s target)
    by Set = refl
    by (Dead references) = refl

right_receives : (s : ℕ) (right : CarriedRight)
    → weigh (is_one s) (received_by right) ≡ carried_weigh (receive_of s) right
right_receives s right = by right.kind right.port
  where
    by : (what : RightKind) (port : PortInMessage)
        → weigh (is_one s) (received_as what port) ≡ place_weigh (receive_of s) what port
    by kind.Receive Null = refl
    by kind.Receive in_message.Dead = refl
    by kind.Receive (Live serial) = omega arith
    by kind.Send Null = refl
    by kind.Send in_message.Dead = refl
    by kind.Send (Live serial) = refl
    by kind.SendOnce Null = refl
    by kind.SendOnce in_message.Dead = refl
    by kind.SendOnce (Live serial) = refl

message_receives : (s queue : ℕ) (message : Message) → LawfulMessage message
    → weigh (is_one s) (received_with message) ≡ message_weigh (receive_of s) queue message
message_receives s queue message lawful = omega (
  arith,
  weigh-flat_map (is_one s) received_by message.rights,
  weigh-same (λ (r : CarriedRight). weigh (is_one s) (received_by r)) (carried_weigh (receive_of s))
      (right_receives s) message.rights,
  no_receive message.destination s queue lawful.destination,
  no_reply s message.reply lawful.reply,
)

weigh_all : {A : Type 0} (f g : A → ℕ) (P : A → Type 0) (xs : List A) → ((x : A) → P x → f x ≡ g x) → All P xs
    → weigh f xs ≡ weigh g xs
weigh_all f g P [] same all = refl
weigh_all f g P (x ∷ xs) same all =
    omega (arith, same x (All-head P x xs all), weigh_all f g P xs same (All-tail P x xs all))

port_receives : (s : ℕ) (row : LivePort) → All LawfulMessage row.state.messages
    → weigh (is_one s) (received_at row) ≡ port_weigh (receive_of s) row.serial row.state
port_receives s row lawful = omega (
  arith,
  weigh-flat_map (is_one s) received_with row.state.messages,
  weigh_all (λ (m : Message). weigh (is_one s) (received_with m))
      (message_weigh (receive_of s) row.serial) LawfulMessage row.state.messages (message_receives s row.serial) lawful,
  no_target s row.state.no_senders_target,
  no_target s row.state.port_destroyed_target,
)

space_receives : (s : ℕ) (e : ℕ × Names) → weigh (is_one s) (received_in (space_row e)) ≡ names_weigh (receive_of s) e.1
space_receives s e =
    weigh-flat_map (is_one s) received_under (names_of e.1)
    ∙ weigh-map (λ (r : NamedEntry). weigh (is_one s) (received_under r)) named_row (entries e.1)
    ∙ weigh-same (λ (x : ℕ × Entry). weigh (is_one s) (received_under (named_row x)))
    (λ (x : ℕ × Entry). entry_weigh (receive_of s) x.1)
    (λ (x : ℕ × Entry). entry_receives s (named_row x)) (entries e.1)

-- The receive rights in the rows of a state are those of the state.
pub receivers_weigh : (state : Ipc) (snapshot : IpcSnapshot) → snapshot ≡ ipc_snapshot_of state
    → ((serial : ℕ) (port : PortState) → get state.ports serial ≡ Some port → All LawfulMessage port.messages)
    → (s : ℕ) → weigh (is_one s) (receivers snapshot) ≡ state_weigh (receive_of s) state
unfolding ipc_snapshot_of state_weigh
receivers_weigh state snapshot same lawful s =
    ap (λ (r : IpcSnapshot). weigh (is_one s) (receivers r)) same
    ∙ weigh-append (is_one s) (flat_map received_in (map space_row (entries state.spaces)))
    (flat_map received_at (map port_row (entries state.ports)))
    ∙ (λ i. spaces i + ports i)
  where
    spaces : weigh (is_one s) (flat_map received_in (map space_row (entries state.spaces))) ≡ total
        (λ space names. names_weigh (receive_of s) names) state.spaces
    spaces =
        weigh-flat_map (is_one s) received_in (map space_row (entries state.spaces))
        ∙ weigh-map (λ (r : Space). weigh (is_one s) (received_in r)) space_row (entries state.spaces)
        ∙ weigh-same (λ (e : ℕ × Names). weigh (is_one s) (received_in (space_row e)))
        (λ (e : ℕ × Names). names_weigh (receive_of s) e.1) (space_receives s) (entries state.spaces)

    ports : weigh (is_one s) (flat_map received_at (map port_row (entries state.ports)))
        ≡ total (port_weigh (receive_of s)) state.ports
    ports =
        weigh-flat_map (is_one s) received_at (map port_row (entries state.ports))
        ∙ weigh-map (λ (r : LivePort). weigh (is_one s) (received_at r)) port_row (entries state.ports)
        ∙ weigh_all (λ (e : ℕ × PortState). weigh (is_one s) (received_at (port_row e)))
        (λ (e : ℕ × PortState). port_weigh (receive_of s) e.0 e.1)
        (λ (e : ℕ × PortState). All LawfulMessage e.1.messages) (entries state.ports)
        (λ e all. port_receives s (port_row e) all)
        (all_entries (λ (e : ℕ × PortState). All LawfulMessage e.1.messages) state.ports lawful)

-- A key of a map is counted once among its keys.
pub keys_weigh : (state : Ipc) (s : ℕ)
    → weigh (is_one s) (map serial_of (map port_row (entries state.ports))) ≡ cond (lives state s) 1 0
keys_weigh state s =
    weigh-map (is_one s) serial_of (map port_row (entries state.ports)) ∙ weigh-map
    (λ (r : LivePort). is_one s r.serial) port_row (entries state.ports)
    ∙ omega (
      arith,
      total-remove one state.ports s,
      total-zero one (remove state.ports s) (λ k x there. elsewhere k (left_apart state.ports s k x there)),
      here (get state.ports s),
    )
  where
    one : ℕ → PortState → ℕ
    one k port = is_one s k

    elsewhere : (k : ℕ) → k ≢ s → is_one s k ≡ 0
    elsewhere k apart = ap {B = ℕ} (λ (b : Bool). cond b 1 0) (not_equal k s apart)

    here : (o : Option PortState) → weight one s o ≡ cond (is_some o) 1 0
    here None = refl
    here (Some port) = ap {B = ℕ} (λ (b : Bool). cond b 1 0) (eq-eqb s s refl)

-- Sorted lists.

abbrev pub AreFrom : ℕ → List ℕ → Type 0
AreFrom at [] = Unit {0}
AreFrom at (x ∷ xs) = (at ≤ x) × AreFrom at xs

abbrev pub Climbs : List ℕ → Type 0
Climbs [] = Unit {0}
Climbs (x ∷ xs) = AreFrom x xs × Climbs xs

from_less : (at low : ℕ) (xs : List ℕ) → low ≤ at → AreFrom at xs → AreFrom low xs
from_less at low [] le from = tt
from_less at low (x ∷ xs) le from = (omega (arith, le, from.0), from_less at low xs le from.1)

ascending_from : (at : ℕ) (xs : List ℕ) → AscendsFrom at xs → AreFrom at xs
ascending_from at [] ascends = tt
ascending_from at (x ∷ xs) ascends =
    (ascends.0, from_less (x + 1) at xs (omega (arith, ascends.0)) (ascending_from (x + 1) xs ascends.1))

pub ascending_climbs : (at : ℕ) (xs : List ℕ) → AscendsFrom at xs → Climbs xs
ascending_climbs at [] ascends = tt
ascending_climbs at (x ∷ xs) ascends =
    (from_less (x + 1) x xs (omega arith) (ascending_from (x + 1) xs ascends.1), ascending_climbs (x + 1) xs ascends.1)

all_from : (at : ℕ) (xs : List ℕ) → ((j : ℕ) → j < length xs → at ≤ get_or xs j 0) → AreFrom at xs
all_from at [] each = tt
all_from at (x ∷ xs) each = (each 0 (omega arith), all_from at xs (λ j less. each (suc j) (omega (arith, less))))

pub sorted_climbs : (xs : List ℕ) → IsNonDecreasing xs → Climbs xs
sorted_climbs [] up = tt
sorted_climbs (x ∷ xs) up = (
  all_from x xs (λ j less. up 0 (suc j) 0 (omega arith) (omega (arith, less))),
  sorted_climbs xs (λ i j d le less. up (suc i) (suc j) d (omega (arith, le)) (omega (arith, less))),
)

own_one : (s : ℕ) → is_one s s ≡ 1
own_one s = ap {B = ℕ} (λ (b : Bool). cond b 1 0) (eq-eqb s s refl)

none_below : (s at : ℕ) (xs : List ℕ) → s < at → AreFrom at xs → weigh (is_one s) xs ≡ 0
none_below s at [] less from = refl
none_below s at (x ∷ xs) less from =
    omega (
      arith,
      ap {B = ℕ} (λ (b : Bool). cond b 1 0)
          (not_equal x s (λ same. absurd (omega (arith, same, less, from.0)))),
      none_below s at xs less from.1,
    )

-- ascending lists with the same number of each element are equal
pub same_climbing : (xs ys : List ℕ) → Climbs xs → Climbs ys → ((s : ℕ) → weigh (is_one s) xs ≡ weigh (is_one s) ys)
    → xs ≡ ys
same_climbing [] [] up also same = refl
same_climbing [] (y ∷ ys) up also same = absurd (omega (arith, same y, own_one y))
same_climbing (x ∷ xs) [] up also same = absurd (omega (arith, same x, own_one x))
same_climbing (x ∷ xs) (y ∷ ys) up also same = elim (number_decided x y) as (λ _. x ∷ xs ≡ y ∷ ys) [
  | inr is ↦ λ i. is i ∷ same_climbing xs ys up.1 also.1 (λ s. omega (arith, same s, ap (is_one s) is)) i
  | inl apart ↦ absurd (omega (
    arith,
    apart,
    one_is_less x y apart
        (λ less. omega (arith, same x, own_one x, none_below x y (y ∷ ys) less (omega arith, also.0)))
        (λ more. omega (arith, same y, own_one y, none_below y x (x ∷ xs) more (omega arith, up.0))),
  ))
]
  where
    one_is_less : (a b : ℕ) → a ≢ b → (a < b → 1 ≤ 0) → (b < a → 1 ≤ 0) → 1 ≤ 0
    one_is_less a b apart first second =
        elim (nat_lt a b) as (λ (t : Bool). nat_lt a b ≡ t → 1 ≤ 0) [
          | true ↦ λ (e : _). first (ltb-true a b e)
          | false ↦
              λ (e : _). second (omega (arith, ltb-false a b e, apart))
        ] refl

-- Sums of reordered lists.
weigh_sum : (f : ℕ → ℕ) (xs : List ℕ) → weigh f xs ≡ sum_by f xs
weigh_sum f [] = refl
weigh_sum f (x ∷ xs) = ap (λ (n : ℕ). f x + n) (weigh_sum f xs) ∙ sym (sum_by-cons f x xs)

pub weigh_moved : (f : ℕ → ℕ) (xs ys : List ℕ) → IsPermutation xs ys → weigh f xs ≡ weigh f ys
weigh_moved f xs ys moved = weigh_sum f xs ∙ sym (sum_by-IsPermutation f xs ys moved) ∙ sym (weigh_sum f ys)
