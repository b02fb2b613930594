-- No effect leaves a right to a port that isn't live.
use Rattle.std.specs.Prelude.{◌≡◌, ◌≢◌, ℕ, ◌+◌, ◌≤◌, Bool, true, false, cond, ◌==◌, ◌&&◌, not, T, List, [], ◌∷◌, ◌++◌, Option, None, Some, is_some, option_map, if◌then◌else◌, refl}
use Rattle.std.proofs.Common.{sym, ◌∙◌, ap, subst, inl, inr, arith}
use Rattle.std.specs.Ordering.{nat_cmp, eq_by_cmp, is_eq, is_lt}
use Rattle.std.specs.declared.cmp.Ordering.TheVariants.{Less, Equal, Greater}
use Rattle.std.specs.declared.cmp.Ordering.{Ordering}
use Rattle.std.specs.FinMap as finmap
use Rattle.std.specs.FinMap.{FinMap, find, entries_sorted, get-entries, is_sorted}
use Rattle.std.specs.FinMap.Entries.{below_all}
use Rattle.ipc_model.specs.declared.entry.Entry.{Entry}
use Rattle.ipc_model.specs.declared.entry.Entry.TheVariants.{Port, SendOnce, Set, Dead}
use Rattle.ipc_model.specs.declared.message.CarriedRight.{CarriedRight}
use Rattle.ipc_model.specs.declared.message.Message.{Message}
use Rattle.ipc_model.specs.declared.message.PortInMessage.{PortInMessage}
use Rattle.ipc_model.specs.declared.message.PortInMessage.TheVariants as in_message
use Rattle.ipc_model.specs.declared.message.PortInMessage.TheVariants.{Null, Live}
use Rattle.ipc_model.specs.declared.message.RightKind.{RightKind}
use Rattle.ipc_model.specs.declared.message.RightKind.TheVariants as kind
use Rattle.ipc_model.specs.declared.port.PortState.{PortState}
use Rattle.ipc_model.specs.state.Circular.{is_circular}
use Rattle.ipc_model.specs.effects.Effects.{Effect, release, notify, effect, queued, notified, entry_after_death, port_after_death, message_after_death, right_after_death, carried_after_death, without_target, one_more_if, after_death, map_values, notified_no_senders, sent_to_target, receive_released_to, released, released_if_live}
use Rattle.ipc_laws.specs.EffectWeights.{with_port_weigh, no_port, queued_weigh, still_lives, moved_out, sent_or_died}
use Rattle.ipc_model.specs.state.Lawful.{IsWaiting}
use Rattle.ipc_laws.specs.MapLaws.{get-left, get-gone, get-map_values}
use Rattle.ipc_laws.specs.MapSums.{key_is, same_key, weigh, total, weight, weigh-le, weigh-map, weigh-zero, total-remove, total-map_values}
use Rattle.ipc_model.specs.messages.Notices.{Notice, notice_message}
use Rattle.ipc_model.specs.messages.Notices as notice
use Rattle.ipc_laws.specs.Others.{number_same, number_decided}
use Rattle.ipc_model.specs.state.Placed.{send_count}
use Rattle.ipc_model.specs.state.Ipc.{Ipc, Names, with_port, lives}
use Rattle.ipc_laws.specs.Weights.{Weight, target_weigh, entry_weigh, place_weigh, carried_weigh, reply_weigh, message_weigh, port_weigh, names_weigh, state_weigh, any_of}

-- no right names a port that isn't live
abbrev pub NoneDangles : Ipc → Type 0
NoneDangles state = (q : ℕ) → lives state q ≡ false → state_weigh (any_of q) state ≡ 0

pub not_equal : (m n : ℕ) → m ≢ n → (m == n) ≡ false
not_equal m n apart =
    elim (m == n) as (λ (b : Bool). (m == n) ≡ b → b ≡ false)
    [ true ↦ λ (e : _). absurd (apart (number_same m n e)) | false ↦ λ (e : _). refl ] refl

-- a live port isn't a dead one
pub live_apart : (state : Ipc) (live dead : ℕ) → lives state live ≡ true → lives state dead ≡ false → live ≢ dead
live_apart state live dead alive gone same = absurd (cc (sym alive ∙ ap (lives state) same ∙ gone))

pub apart_zero : (q serial : ℕ) (kind : RightKind) → serial ≢ q → any_of q kind serial ≡ 0
apart_zero q serial what apart = ap (λ (b : Bool). cond b 1 0) (not_equal serial q apart)

-- a port's own part of the weight
pub port_part : (w : Weight) (state : Ipc) (serial : ℕ) (port : PortState) → finmap.get state.ports serial ≡ Some port
    → port_weigh w serial port ≤ state_weigh w state
unfolding state_weigh
port_part w state serial port there =
    let taken : total (port_weigh w) (finmap.remove state.ports serial) + port_weigh w serial port
    ≡ total (port_weigh w) state.ports =
    subst (λ (o : Option PortState). total (port_weigh w) (finmap.remove state.ports serial) + weight
    (port_weigh w) serial o ≡ total (port_weigh w) state.ports) there
    (total-remove (port_weigh w) state.ports serial) in
    omega (arith, taken)

-- a live port changes, and its rights don't grow
changed_none : (q : ℕ) (state : Ipc) (serial : ℕ) (change : PortState → PortState) (port : PortState)
    → finmap.get state.ports serial ≡ Some port → state_weigh (any_of q) state ≡ 0
    → port_weigh (any_of q) serial (change port) ≤ port_weigh (any_of q) serial port
    → state_weigh (any_of q) (with_port state serial change) ≡ 0
changed_none q state serial change port there none less =
    omega (
      arith,
      with_port_weigh (any_of q) state serial change port there,
      port_part (any_of q) state serial port there,
      none,
      less,
    )

pub dead_before : (state : Ipc) (serial q : ℕ) (change : PortState → PortState)
    → lives (with_port state serial change) q ≡ false → lives state q ≡ false
dead_before state serial q change dead = elim (lives state q) as (λ (b : Bool). lives state q ≡ b → b ≡ false) [
  | true ↦ λ (live : _). absurd (cc (sym (still_lives state serial q change live) ∙ dead))
  | false ↦ λ (gone : _). refl
] refl

-- a message that carries no right to the port is queued
queued_none : (q : ℕ) (state : Ipc) (serial : ℕ) (message : Message) → lives state q ≡ false
    → state_weigh (any_of q) state ≡ 0
    → reply_weigh (any_of q) message.reply + weigh (carried_weigh (any_of q)) message.rights ≡ 0
    → state_weigh (any_of q) (queued state serial message) ≡ 0
queued_none q state serial message dead none carried =
    elim (finmap.get state.ports serial)
    as (λ (o : Option PortState). finmap.get state.ports serial ≡ o
    → state_weigh (any_of q) (queued state serial message) ≡ 0) [
      | None ↦ λ (absent : _). ap (state_weigh (any_of q))
          (no_port state serial (λ (p : PortState). record p { messages = p.messages ++ message ∷ [] }) absent) ∙ none
      | Some port ↦ λ (there : _).
          omega (
            arith,
            queued_weigh (any_of q) state serial port message there,
            none,
            carried,
            apart_zero q serial message.destination (live_apart state serial q (ap is_some there) dead),
          )
    ] refl

notice_carries : (w : Weight) (target : ℕ) (what : Notice) → IsWaiting (notify target what)
    → reply_weigh w (notice_message what).reply + weigh (carried_weigh w) (notice_message what).rights ≡ 0
notice_carries w target (notice.PortDeleted name) waits = refl
notice_carries w target (notice.PortDestroyed serial) waits = absurd waits
notice_carries w target (notice.NoSenders count) waits = refl
notice_carries w target notice.SendOnce waits = refl
notice_carries w target (notice.DeadName name) waits = refl

notified_leaves : (state : Ipc) (target : ℕ) (what : Notice) → IsWaiting (notify target what) → NoneDangles state
    → NoneDangles (notified state target what)
notified_leaves state target what waits none q dead =
    let before : lives state q ≡ false =
    dead_before state target q (λ (p : PortState). record p { messages = p.messages ++ notice_message what ∷ [] })
    dead in
    queued_none q state target (notice_message what) before (none q before)
    (notice_carries (any_of q) target what waits)

changed_leaves : (state : Ipc) (serial : ℕ) (change : PortState → PortState) (port : PortState)
    → finmap.get state.ports serial ≡ Some port
    → ((w : Weight) → port_weigh w serial (change port) ≤ port_weigh w serial port) → NoneDangles state
    → NoneDangles (with_port state serial change)
changed_leaves state serial change port there less none q dead =
    changed_none q state serial change port there (none q (dead_before state serial q change dead)) (less (any_of q))

no_senders_leaves : (state : Ipc) (serial : ℕ) (port : PortState) (target : Option ℕ)
    → finmap.get state.ports serial ≡ Some port → NoneDangles state
    → NoneDangles (notified_no_senders state serial port target)
no_senders_leaves state serial port None there none = none
no_senders_leaves state serial port (Some target) there none =
    notified_leaves (with_port state serial (λ (p : PortState). record p { no_senders_target = None })) target
    (notice.NoSenders port.make_send_count) tt
    (changed_leaves state serial (λ (p : PortState). record p { no_senders_target = None }) port there
    (λ (w : Weight). omega arith) none)

-- a receive right in a notice is to a live port
sent_leaves : (state : Ipc) (serial target : ℕ) (port : PortState) → finmap.get state.ports serial ≡ Some port
    → NoneDangles state → NoneDangles (sent_to_target state serial target)
sent_leaves state serial target port there none q dead =
    let moved : Ipc = with_port state serial moved_out in
    let message : Message = notice_message (notice.PortDestroyed serial) in
    let gone : lives moved q ≡ false =
    dead_before moved target q (λ (p : PortState). record p { messages = p.messages ++ message ∷ [] }) dead in
    let before : lives state q ≡ false = dead_before state serial q moved_out gone in
    queued_none q moved target message gone
    (changed_leaves state serial moved_out port there (λ (w : Weight). omega arith) none q gone)
    (omega (arith, apart_zero q serial kind.Receive (live_apart state serial q (ap is_some there) before)))

-- sums of nothing

none-found : {X : Type 0} (k : ℕ) (es : List (ℕ × X)) → T (below_all nat_cmp k es) → find nat_cmp k es ≡ None
none-found k [] below = refl
none-found k (e ∷ es) below =
    elim (nat_cmp k e.0) as (λ (r : Ordering). T (is_lt r && below_all nat_cmp k es)
    → cond (is_eq r) (Some e.1) (find nat_cmp k es) ≡ None) [
      | Less ↦ λ (b : _). none-found k es b
      | Equal ↦ λ (b : _). absurd b
      | Greater ↦ λ (b : _). absurd b
    ] below

pub front_of : (b c : Bool) → T (b && c) → T b
front_of true c p = tt
front_of false c p = absurd p

pub back_of : (b c : Bool) → T (b && c) → T c
back_of true c p = p
back_of false c p = absurd p

pub later_found : {X : Type 0} (k : ℕ) (x : X) (e : ℕ × X) (es : List (ℕ × X)) → T (below_all nat_cmp e.0 es)
    → find nat_cmp k es ≡ Some x → find nat_cmp k (e ∷ es) ≡ Some x
later_found k x e es below there =
    elim (eq_by_cmp nat_cmp k e.0)
    as (λ (b : Bool). eq_by_cmp nat_cmp k e.0 ≡ b → cond b (Some e.1) (find nat_cmp k es) ≡ Some x) [
      | true ↦ λ (tie : _). absurd (cc
          (sym (none-found e.0 es below) ∙ ap (λ (n : ℕ). find nat_cmp n es) (sym (key_is k e.0 tie)) ∙ there))
      | false ↦ λ (tie : _). there
    ] refl

weigh-found : {X : Type 0} (f : ℕ → X → ℕ) (es : List (ℕ × X)) → T (is_sorted nat_cmp es)
    → ((k : ℕ) (x : X) → find nat_cmp k es ≡ Some x → f k x ≡ 0) → weigh (λ e. f e.0 e.1) es ≡ 0
weigh-found f [] sorted zero = refl
weigh-found f (e ∷ es) sorted zero =
    let first : f e.0 e.1 ≡ 0 =
    zero e.0 e.1 (ap (λ (b : Bool). cond b (Some e.1) (find nat_cmp e.0 es)) (same_key e.0)) in
    let rest : weigh (λ e. f e.0 e.1) es ≡ 0 =
    weigh-found f es (back_of (below_all nat_cmp e.0 es) (is_sorted nat_cmp es) sorted)
    (λ (k : ℕ) (x : _) (there : _). zero k x
    (later_found k x e es (front_of (below_all nat_cmp e.0 es) (is_sorted nat_cmp es) sorted) there)) in
    omega (arith, first, rest)

pub total-zero : {X : Type 0} (f : ℕ → X → ℕ) (m : FinMap nat_cmp X)
    → ((k : ℕ) (x : X) → finmap.get m k ≡ Some x → f k x ≡ 0) → total f m ≡ 0
total-zero f m zero =
    weigh-found f (finmap.entries m) (entries_sorted m)
    (λ (k : ℕ) (x : _) (there : _). zero k x (get-entries m k ∙ there))

-- after a death no right names the port

target_gone : (serial : ℕ) (target : Option ℕ) → target_weigh (any_of serial) (without_target serial target) ≡ 0
target_gone serial None = refl
target_gone serial (Some target) =
    elim (target == serial) as (λ (b : Bool). (target == serial) ≡ b
    → target_weigh (any_of serial) (if b then None else Some target) ≡ 0) [
      | true ↦ λ (e : _). refl
      | false ↦ λ (e : _). ap (λ (b : Bool). cond b 1 0) e
    ] refl

any_zero : (serial other : ℕ) (what : RightKind) → (other == serial) ≡ false → any_of serial what other ≡ 0
any_zero serial other what apart = ap (λ (b : Bool). cond b 1 0) apart

if_none : (b : Bool) (n : ℕ) → n ≡ 0 → (if b then n else 0) ≡ 0
if_none true n none = none
if_none false n none = refl

unless_none : (b : Bool) (n : ℕ) → n ≡ 0 → (if b then 0 else n) ≡ 0
unless_none true n none = refl
unless_none false n none = none

entry_gone : (serial : ℕ) (entry : Entry) → entry_weigh (any_of serial) (entry_after_death serial entry) ≡ 0
entry_gone serial (Port rights) =
    elim (rights.port == serial) as (λ (b : Bool). (rights.port == serial) ≡ b
    → entry_weigh (any_of serial) (if b then Dead (rights.send + one_more_if rights.dead_name_target)
    else Port (record rights { dead_name_target = without_target serial rights.dead_name_target })) ≡ 0) [
      | true ↦ λ (e : _). refl
      | false ↦ λ (e : _). omega (
        arith,
        if_none rights.receive (any_of serial kind.Receive rights.port) (any_zero serial rights.port kind.Receive e),
        unless_none (rights.send == 0) (any_of serial kind.Send rights.port) (any_zero serial rights.port kind.Send e),
        target_gone serial rights.dead_name_target,
      )
    ] refl
entry_gone serial (SendOnce port target) =
    elim (port == serial) as (λ (b : Bool). (port == serial) ≡ b
    → entry_weigh (any_of serial) (if b then Dead (1 + one_more_if target)
    else SendOnce port (without_target serial target)) ≡ 0) [
      | true ↦ λ (e : _). refl
      | false ↦ λ (e : _). omega (arith, any_zero serial port kind.SendOnce e, target_gone serial target)
    ] refl
entry_gone serial Set = refl
entry_gone serial (Dead references) = refl

right_gone : (serial : ℕ) (right : CarriedRight) → carried_weigh (any_of serial) (right_after_death serial right) ≡ 0
right_gone serial right =
    elim right.port as (λ (port : PortInMessage). place_weigh (any_of serial) right.kind
    (carried_after_death serial port) ≡ 0) [
      | Null ↦ refl
      | in_message.Dead ↦ refl
      | Live other ↦ elim (other == serial)
          as (λ (b : Bool). (other == serial) ≡ b
          → place_weigh (any_of serial) right.kind (if b then in_message.Dead else in_message.Live other) ≡ 0) [
            | true ↦ λ (e : _). refl
            | false ↦ λ (e : _). any_zero serial other right.kind e
          ] refl
    ]

reply_gone : (serial : ℕ) (right : Option CarriedRight)
    → reply_weigh (any_of serial) (option_map (right_after_death serial) right) ≡ 0
reply_gone serial None = refl
reply_gone serial (Some right) = right_gone serial right

message_gone : (serial queue : ℕ) (message : Message) → queue ≢ serial
    → message_weigh (any_of serial) queue (message_after_death serial message) ≡ 0
message_gone serial queue message apart =
    omega (
      arith,
      apart_zero serial queue message.destination apart,
      reply_gone serial message.reply,
      weigh-map (carried_weigh (any_of serial)) (right_after_death serial) message.rights,
      weigh-zero (λ (r : CarriedRight). carried_weigh (any_of serial) (right_after_death serial r))
          (right_gone serial) message.rights,
    )

port_gone : (serial queue : ℕ) (port : PortState) → queue ≢ serial
    → port_weigh (any_of serial) queue (port_after_death serial port) ≡ 0
port_gone serial queue port apart =
    omega (
      arith,
      target_gone serial port.no_senders_target,
      target_gone serial port.port_destroyed_target,
      weigh-map (message_weigh (any_of serial) queue) (message_after_death serial) port.messages,
      weigh-zero (λ (m : Message). message_weigh (any_of serial) queue (message_after_death serial m))
          (λ (m : Message). message_gone serial queue m apart) port.messages,
    )

-- a key of what is left isn't the one that was taken out
pub left_apart : {X : Type 0} (m : FinMap nat_cmp X) (k q : ℕ) (x : X) → finmap.get (finmap.remove m k) q ≡ Some x
    → q ≢ k
left_apart m k q x there same =
    absurd (cc (sym (get-gone m k) ∙ ap (finmap.get (finmap.remove m k)) (sym same) ∙ there))

gone_after_death : (state : Ipc) (serial : ℕ) → state_weigh (any_of serial) (after_death state serial) ≡ 0
unfolding state_weigh
gone_after_death state serial =
    let w : Weight = any_of serial in
    let left : FinMap nat_cmp PortState = finmap.remove state.ports serial in
    omega (
      arith,
      total-map_values (λ space names. names_weigh w names) (map_values (entry_after_death serial)) state.spaces,
      weigh-zero (λ (s : ℕ × Names). names_weigh w (map_values (entry_after_death serial) s.1)) (λ (s : ℕ × Names).
          total-map_values (λ name entry. entry_weigh w entry) (entry_after_death serial) s.1
          ∙ weigh-zero (λ (e : ℕ × Entry). entry_weigh w (entry_after_death serial e.1))
          (λ (e : ℕ × Entry). entry_gone serial e.1) (finmap.entries s.1)) (finmap.entries state.spaces),
      total-map_values (port_weigh w) (port_after_death serial) left,
      total-zero (λ k x. port_weigh w k (port_after_death serial x)) left
          (λ (k : ℕ) (x : PortState) (there : _). port_gone serial k x (left_apart state.ports serial k x there)),
    )

-- it leaves no more rights to another port than there were

fewer_targets : (w : Weight) (serial : ℕ) (target : Option ℕ)
    → target_weigh w (without_target serial target) ≤ target_weigh w target
fewer_targets w serial None = omega arith
fewer_targets w serial (Some target) =
    elim (target == serial) as (λ (b : Bool). target_weigh w (if b then None else Some target) ≤ w kind.SendOnce target)
    [ true ↦ omega arith | false ↦ omega arith ]

entry_fewer : (w : Weight) (serial : ℕ) (entry : Entry)
    → entry_weigh w (entry_after_death serial entry) ≤ entry_weigh w entry
entry_fewer w serial (Port rights) =
    elim (rights.port == serial) as (λ (b : Bool). entry_weigh w
    (if b then Dead (rights.send + one_more_if rights.dead_name_target)
    else Port (record rights { dead_name_target = without_target serial rights.dead_name_target }))
    ≤ entry_weigh w (Port rights)) [
      | true ↦ omega arith
      | false ↦ omega (arith, fewer_targets w serial rights.dead_name_target)
    ]
entry_fewer w serial (SendOnce port target) =
    elim (port == serial) as (λ (b : Bool). entry_weigh w
    (if b then Dead (1 + one_more_if target) else SendOnce port (without_target serial target))
    ≤ entry_weigh w (SendOnce port target)) [
      | true ↦ omega arith
      | false ↦ omega (arith, fewer_targets w serial target)
    ]
entry_fewer w serial Set = omega arith
entry_fewer w serial (Dead references) = omega arith

right_fewer : (w : Weight) (serial : ℕ) (right : CarriedRight)
    → carried_weigh w (right_after_death serial right) ≤ carried_weigh w right
right_fewer w serial right =
    elim right.port as (λ (port : PortInMessage). place_weigh w right.kind (carried_after_death serial port)
    ≤ place_weigh w right.kind port) [
      | Null ↦ omega arith
      | in_message.Dead ↦ omega arith
      | Live other ↦ elim (other == serial)
          as (λ (b : Bool). place_weigh w right.kind (if b then in_message.Dead else in_message.Live other)
          ≤ w right.kind other) [ true ↦ omega arith | false ↦ omega arith ]
    ]

reply_fewer : (w : Weight) (serial : ℕ) (right : Option CarriedRight)
    → reply_weigh w (option_map (right_after_death serial) right) ≤ reply_weigh w right
reply_fewer w serial None = omega arith
reply_fewer w serial (Some right) = right_fewer w serial right

message_fewer : (w : Weight) (serial queue : ℕ) (message : Message)
    → message_weigh w queue (message_after_death serial message) ≤ message_weigh w queue message
message_fewer w serial queue message =
    omega (
      arith,
      reply_fewer w serial message.reply,
      weigh-map (carried_weigh w) (right_after_death serial) message.rights,
      weigh-le (λ (r : CarriedRight). carried_weigh w (right_after_death serial r)) (carried_weigh w)
          (right_fewer w serial) message.rights,
    )

port_fewer : (w : Weight) (serial queue : ℕ) (port : PortState)
    → port_weigh w queue (port_after_death serial port) ≤ port_weigh w queue port
port_fewer w serial queue port =
    omega (
      arith,
      fewer_targets w serial port.no_senders_target,
      fewer_targets w serial port.port_destroyed_target,
      weigh-map (message_weigh w queue) (message_after_death serial) port.messages,
      weigh-le (λ (m : Message). message_weigh w queue (message_after_death serial m)) (message_weigh w queue)
          (message_fewer w serial queue) port.messages,
    )

fewer_after_death : (w : Weight) (state : Ipc) (serial : ℕ)
    → state_weigh w (after_death state serial) ≤ state_weigh w state
unfolding state_weigh
fewer_after_death w state serial =
    let left : FinMap nat_cmp PortState = finmap.remove state.ports serial in
    omega (
      arith,
      total-map_values (λ space names. names_weigh w names) (map_values (entry_after_death serial)) state.spaces,
      weigh-le (λ (s : ℕ × Names). names_weigh w (map_values (entry_after_death serial) s.1))
          (λ (s : ℕ × Names). names_weigh w s.1) (λ (s : ℕ × Names).
          omega (
            arith,
            total-map_values (λ name entry. entry_weigh w entry) (entry_after_death serial) s.1,
            weigh-le (λ (e : ℕ × Entry). entry_weigh w (entry_after_death serial e.1))
                (λ (e : ℕ × Entry). entry_weigh w e.1)
                (λ (e : ℕ × Entry). entry_fewer w serial e.1) (finmap.entries s.1),
          )) (finmap.entries state.spaces),
      total-map_values (port_weigh w) (port_after_death serial) left,
      total-remove (port_weigh w) state.ports serial,
      weigh-le (λ (e : ℕ × PortState). port_weigh w e.0 (port_after_death serial e.1))
          (λ (e : ℕ × PortState). port_weigh w e.0 e.1)
          (λ (e : ℕ × PortState). port_fewer w serial e.0 e.1) (finmap.entries left),
    )

mapped_dead : (change : PortState → PortState) (o : Option PortState) → is_some (option_map change o) ≡ false
    → is_some o ≡ false
mapped_dead change None dead = refl
mapped_dead change (Some port) dead = dead

death_leaves : (state : Ipc) (serial : ℕ) → NoneDangles state → NoneDangles (after_death state serial)
death_leaves state serial none q dead =
    elim (number_decided q serial) as (λ _. state_weigh (any_of q) (after_death state serial) ≡ 0) [
      | inl apart ↦
          let before : lives state q ≡ false =
          ap is_some (sym (get-left state.ports serial q apart))
          ∙ mapped_dead (port_after_death serial) (finmap.get (finmap.remove state.ports serial) q)
          (ap is_some (sym (get-map_values (port_after_death serial) (finmap.remove state.ports serial) q)) ∙ dead) in
          omega (arith, fewer_after_death (any_of q) state serial, none q before)
      | inr same ↦ subst (λ (k : ℕ). state_weigh (any_of k) (after_death state serial) ≡ 0) (sym same)
          (gone_after_death state serial)
    ]

receive_leaves : (state : Ipc) (serial : ℕ) (port : PortState) (target : Option ℕ)
    → finmap.get state.ports serial ≡ Some port → NoneDangles state
    → NoneDangles (receive_released_to state serial port target).0
receive_leaves state serial port None there none = death_leaves state serial none
receive_leaves state serial port (Some target) there none =
    elim (lives state target && not (is_circular state serial target))
    as (λ (b : Bool). NoneDangles (sent_or_died b state serial port target).0) [
      | true ↦ sent_leaves state serial target port there none
      | false ↦ death_leaves state serial none
    ]

release_leaves : (state : Ipc) (serial : ℕ) (port : PortState) (kind : RightKind)
    → finmap.get state.ports serial ≡ Some port → NoneDangles state → NoneDangles (released state serial port kind).0
release_leaves state serial port kind.Send there none =
    elim (send_count state serial == 0)
    as (λ (b : Bool). NoneDangles (if b then notified_no_senders state serial port port.no_senders_target
    else state)) [
      | true ↦ no_senders_leaves state serial port port.no_senders_target there none
      | false ↦ none
    ]
release_leaves state serial port kind.SendOnce there none = notified_leaves state serial notice.SendOnce tt none
release_leaves state serial port kind.Receive there none =
    receive_leaves state serial port port.port_destroyed_target there none

-- No effect leaves a right to a port that isn't live.
pub effect_leaves : (state : Ipc) (first : Effect) → IsWaiting first → NoneDangles state
    → NoneDangles (effect state first).0
unfolding effect
effect_leaves state (release kind serial) waits none =
    elim (finmap.get state.ports serial)
    as (λ (o : Option PortState). finmap.get state.ports serial ≡ o
    → NoneDangles (released_if_live state serial kind o).0) [
      | None ↦ λ (absent : _). none
      | Some port ↦ λ (there : _). release_leaves state serial port kind there none
    ] refl
effect_leaves state (notify target what) waits none = notified_leaves state target what waits none
