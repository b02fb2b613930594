-- Effects keep a lawful state acyclic.
use Rattle.std.specs.Prelude.{◌≡◌, ◌⊎◌, ℕ, ◌+◌, ◌<◌, ◌≤◌, Bool, true, false, cond, ◌==◌, ◌&&◌, ◌||◌, not, List, [], ◌∷◌, ◌++◌, map, Option, None, Some, if◌then◌else◌, refl}
use Rattle.std.proofs.Common.{sym, ◌∙◌, ap, inl, inr, arith}
use Rattle.std.specs.List.{list_any}
use Rattle.std.specs.Ordering.{nat_cmp}
use Rattle.std.specs.FinMap as finmap
use Rattle.std.specs.FinMap.{FinMap}
use Rattle.ipc_model.specs.declared.entry.Entry.{Entry}
use Rattle.ipc_model.specs.declared.entry.Entry.TheVariants.{Port, SendOnce, Set, Dead}
use Rattle.ipc_model.specs.declared.message.CarriedRight.{CarriedRight}
use Rattle.ipc_model.specs.declared.message.Message.{Message}
use Rattle.ipc_model.specs.declared.message.PortInMessage.{PortInMessage}
use Rattle.ipc_model.specs.declared.message.PortInMessage.TheVariants as in_message
use Rattle.ipc_model.specs.declared.message.PortInMessage.TheVariants.{Null, Live}
use Rattle.ipc_model.specs.declared.message.RightKind.{RightKind}
use Rattle.ipc_model.specs.declared.message.RightKind.TheVariants as kind
use Rattle.ipc_model.specs.declared.port.PortState.{PortState}
use Rattle.ipc_model.specs.state.Circular.{carries, meets, is_circular, is_receive_right, is_port, Carries, Acyclic}
use Rattle.ipc_laws.specs.Dangling.{left_apart}
use Rattle.ipc_model.specs.effects.Effects.{Effect, release, notify, effect, Settles, settled, next_effect, queued, notified, port_after_death, message_after_death, right_after_death, carried_after_death, after_death, notified_no_senders, sent_to_target, receive_released_to, released, released_if_live}
use Rattle.ipc_laws.specs.EffectParts.{mapped_some}
use Rattle.ipc_laws.specs.EffectWeights.{moved_out, sent_or_died}
use Rattle.ipc_laws.specs.EffectsKeep.{dangles_none, effects_keep_lawful}
use Rattle.ipc_model.specs.state.Lawful.{Lawful, LawfulBut, IsWaiting}
use Rattle.ipc_laws.specs.LawfulLaws.{alone}
use Rattle.ipc_laws.specs.ListLaws.{some_same}
use Rattle.ipc_laws.specs.MapLaws.{get-here, get-there, get-left, get-map_values}
use Rattle.ipc_laws.specs.MapSums.{weigh, total, weigh-le}
use Rattle.ipc_model.specs.messages.Notices.{Notice, notice_message}
use Rattle.ipc_model.specs.messages.Notices as notice
use Rattle.ipc_laws.specs.Others.{number_same, number_decided}
use Rattle.ipc_model.specs.state.Placed.{send_count, same_kind}
use Rattle.ipc_laws.specs.Ranks.{met_more, one_carrier, few_above, meets_itself, TravelsOnce, no_and}
use Rattle.ipc_model.specs.state.Ipc.{Ipc, Names, with_port, lives}
use Rattle.ipc_laws.specs.Weights.{Weight, target_weigh, place_weigh, carried_weigh, reply_weigh, message_weigh, port_weigh, state_weigh, effect_weigh, receive_of, any_of, count-receive, entry_weigh, names_weigh}

-- with fewer edges the ranks still fit

pub fewer_edges : (old new : Ipc) → ((outer inner : ℕ) → Carries new outer inner → Carries old outer inner)
    → Acyclic old → Acyclic new
fewer_edges old new less (rank, grows) =
    (rank, λ (outer inner : ℕ) (carries : Carries new outer inner). grows outer inner (less outer inner carries))

-- a live port changes, and carries nothing more
pub changed_edges : (state : Ipc) (serial : ℕ) (change : PortState → PortState)
    → ((inner : ℕ) (p : PortState) → carries inner (change p) ≡ true → carries inner p ≡ true)
    → (outer inner : ℕ) → Carries (with_port state serial change) outer inner → Carries state outer inner
changed_edges state serial change less outer inner edge =
    elim (finmap.get state.ports serial) as (λ (o : Option PortState). finmap.get state.ports serial ≡ o
    → Carries (elim o as (λ _. Ipc)
    [ None ↦ state | Some p ↦ record state { ports = finmap.insert state.ports serial (change p) } ]) outer inner
    → Carries state outer inner) [
      | None ↦ λ (none : _) (e : _). e
      | Some p ↦ λ (there : _) (e : Carries (record state { ports = finmap.insert state.ports serial (change p) }) outer
          inner). elim (number_decided outer serial) as (λ _. Carries state outer inner) [
            | inl apart ↦ (e.0, sym (get-there state.ports serial (change p) outer apart) ∙ e.1, e.2)
            | inr same ↦
                let is : change p ≡ e.0 =
                some_same (change p) e.0 (sym (get-here state.ports serial (change p))
                ∙ ap (finmap.get (finmap.insert state.ports serial (change p))) (sym same) ∙ e.1) in
                (p, ap (finmap.get state.ports) same ∙ there, less inner p (ap (carries inner) is ∙ e.2))
          ]
    ] refl edge

pub any_more : {A : Type 0} (test : A → Bool) (xs : List A) (y : A) → list_any test (xs ++ y ∷ []) ≡ true
    → (list_any test xs ≡ true) ⊎ (test y ≡ true)
any_more test [] y is =
    elim (test y) as (λ (b : Bool). test y ≡ b → (b || false) ≡ true → (false ≡ true) ⊎ (b ≡ true)) [
      | true ↦ λ (e : _) (_ : _). inr refl
      | false ↦ λ (e : _) (h : _). inr h
    ] refl is
any_more test (x ∷ xs) y is =
    elim (test x) as (λ (b : Bool). (b || list_any test (xs ++ y ∷ [])) ≡ true → ((b || list_any test xs) ≡ true)
    ⊎ (test y ≡ true)) [
      | true ↦ λ (h : _). inl refl
      | false ↦ λ (h : _). any_more test xs y h
    ] is

-- a message is queued: at most the edges of its receive rights are new
pub queued_edges : (state : Ipc) (serial : ℕ) (message : Message) (outer inner : ℕ)
    → Carries (queued state serial message) outer inner → Carries state outer inner
    ⊎ ((outer ≡ serial) × (list_any (is_receive_right inner) message.rights ≡ true))
queued_edges state serial message outer inner edge =
    let change : PortState → PortState = λ p. record p { messages = p.messages ++ message ∷ [] } in
    elim (finmap.get state.ports serial) as (λ (o : Option PortState). finmap.get state.ports serial ≡ o
    → Carries (elim o as (λ _. Ipc)
    [ None ↦ state | Some p ↦ record state { ports = finmap.insert state.ports serial (change p) } ]) outer inner
    → Carries state outer inner ⊎ ((outer ≡ serial) × (list_any (is_receive_right inner) message.rights ≡ true))) [
      | None ↦ λ (none : _) (e : _). inl e
      | Some p ↦ λ (there : _) (e : Carries (record state { ports = finmap.insert state.ports serial (change p) }) outer
          inner). elim (number_decided outer serial)
          as (λ _. Carries state outer inner
          ⊎ ((outer ≡ serial) × (list_any (is_receive_right inner) message.rights ≡ true))) [
            | inl apart ↦ inl (e.0, sym (get-there state.ports serial (change p) outer apart) ∙ e.1, e.2)
            | inr same ↦
                let is : change p ≡ e.0 =
                some_same (change p) e.0 (sym (get-here state.ports serial (change p))
                ∙ ap (finmap.get (finmap.insert state.ports serial (change p))) (sym same) ∙ e.1) in
                elim (any_more (λ (m : Message). list_any (is_receive_right inner) m.rights) p.messages message
                (ap (carries inner) is ∙ e.2))
                as (λ _. Carries state outer inner
                ⊎ ((outer ≡ serial) × (list_any (is_receive_right inner) message.rights ≡ true))) [
                  | inl before ↦ inl (p, ap (finmap.get state.ports) same ∙ there, before)
                  | inr new ↦ inr (same, new)
                ]
          ]
    ] refl edge

-- notices that wait carry no receive right
notice_edges : (inner target : ℕ) (what : Notice) → IsWaiting (notify target what)
    → list_any (is_receive_right inner) (notice_message what).rights ≡ true → ⊥
notice_edges inner target (notice.PortDeleted name) waits e = cc e
notice_edges inner target (notice.PortDestroyed serial) waits e = absurd waits
notice_edges inner target (notice.NoSenders count) waits e = cc e
notice_edges inner target notice.SendOnce waits e = cc e
notice_edges inner target (notice.DeadName name) waits e = cc e

notified_acyclic : (state : Ipc) (target : ℕ) (what : Notice) → IsWaiting (notify target what) → Acyclic state
    → Acyclic (notified state target what)
notified_acyclic state target what waits acyclic =
    fewer_edges state (notified state target what)
    (λ (outer inner : ℕ) (edge : _). elim (queued_edges state target (notice_message what) outer inner edge)
    as (λ _. Carries state outer inner) [
      | inl before ↦ before
      | inr new ↦ absurd (notice_edges inner target what waits new.1)
    ]) acyclic

no_senders_acyclic : (state : Ipc) (serial : ℕ) (port : PortState) (target : Option ℕ) → Acyclic state
    → Acyclic (notified_no_senders state serial port target)
no_senders_acyclic state serial port None acyclic = acyclic
no_senders_acyclic state serial port (Some target) acyclic =
    let change : PortState → PortState = λ p. record p { no_senders_target = None } in
    notified_acyclic (with_port state serial change) target (notice.NoSenders port.make_send_count) tt
    (fewer_edges state (with_port state serial change)
    (changed_edges state serial change (λ (inner : ℕ) (p : PortState) (e : _). e)) acyclic)

-- a death only removes edges

right_edge : (serial inner : ℕ) (right : CarriedRight) → is_receive_right inner (right_after_death serial right) ≡ true
    → is_receive_right inner right ≡ true
right_edge serial inner right is =
    elim right.port as (λ (port : PortInMessage).
    (same_kind right.kind kind.Receive && is_port (carried_after_death serial port) inner) ≡ true
    → (same_kind right.kind kind.Receive && is_port port inner) ≡ true) [
      | Null ↦ λ (e : _). e
      | in_message.Dead ↦ λ (e : _). e
      | Live other ↦ elim (other == serial)
          as (λ (b : Bool). (same_kind right.kind kind.Receive && is_port
          (if b then in_message.Dead else in_message.Live other) inner) ≡ true
          → (same_kind right.kind kind.Receive && (other == inner)) ≡ true) [
            | true ↦ λ (e : _). absurd (no_and (same_kind right.kind kind.Receive) e)
            | false ↦ λ (e : _). e
          ]
    ] is

pub or_later : (b c : Bool) → c ≡ true → (b || c) ≡ true
or_later true c e = refl
or_later false c e = e

any_mapped : {A : Type 0} (test : A → Bool) (f : A → A) → ((x : A) → test (f x) ≡ true → test x ≡ true) → (xs : List A)
    → list_any test (map f xs) ≡ true → list_any test xs ≡ true
any_mapped test f each [] is = is
any_mapped test f each (x ∷ xs) is =
    elim (test (f x)) as (λ (b : Bool). test (f x) ≡ b → (b || list_any test (map f xs)) ≡ true
    → (test x || list_any test xs) ≡ true) [
      | true ↦ λ (e : _) (_ : _). ap (λ (b : Bool). b || list_any test xs) (each x e)
      | false ↦ λ (e : _) (later : _). or_later (test x) (list_any test xs) (any_mapped test f each xs later)
    ] refl is

port_edge : (serial inner : ℕ) (port : PortState) → carries inner (port_after_death serial port) ≡ true
    → carries inner port ≡ true
port_edge serial inner port is =
    any_mapped (λ (m : Message). list_any (is_receive_right inner) m.rights) (message_after_death serial)
    (λ (m : Message) (e : _).
    any_mapped (is_receive_right inner) (right_after_death serial) (right_edge serial inner) m.rights e) port.messages
    is

death_edges : (state : Ipc) (serial outer inner : ℕ) → Carries (after_death state serial) outer inner
    → Carries state outer inner
death_edges state serial outer inner (port, at, is) =
    let was =
    mapped_some (port_after_death serial) (finmap.get (finmap.remove state.ports serial) outer) port
    (sym (get-map_values (port_after_death serial) (finmap.remove state.ports serial) outer) ∙ at) in (
      was.0,
      sym (get-left state.ports serial outer (left_apart state.ports serial outer was.0 was.1)) ∙ was.1,
      port_edge serial inner was.0 (ap (carries inner) was.2 ∙ is),
    )

-- a receive right goes to the target of its request if it makes no circle: the ports above the target are raised

raise : Ipc → (ℕ → ℕ) → ℕ → ℕ → ℕ → ℕ
raise state rank serial target x = rank x + cond (meets state (finmap.len state.ports) x target) (rank serial + 1) 0

only_one : (b : Bool) → (b || false) ≡ true → b ≡ true
only_one true e = refl
only_one false e = e

sent_edges : (state : Ipc) (serial target outer inner : ℕ) → Carries (sent_to_target state serial target) outer inner
    → Carries state outer inner ⊎ ((outer ≡ target) × (inner ≡ serial))
sent_edges state serial target outer inner edge =
    elim (queued_edges (with_port state serial moved_out) target
    (notice_message (notice.PortDestroyed serial)) outer inner edge)
    as (λ _. Carries state outer inner ⊎ ((outer ≡ target) × (inner ≡ serial))) [
      | inl before ↦ inl (changed_edges state serial moved_out
          (λ (i : ℕ) (p : PortState) (e : _). e) outer inner before)
      | inr new ↦ inr (new.0, sym (number_same serial inner (only_one (serial == inner) new.1)))
    ]

sent_acyclic : (state : Ipc) (serial target : ℕ) → TravelsOnce state → is_circular state serial target ≡ false
    → Acyclic state → Acyclic (sent_to_target state serial target)
unfolding raise is_circular
sent_acyclic state serial target once free (rank, grows) =
    let n : ℕ = finmap.len state.ports in (
      raise state rank serial target,
      λ (outer inner : ℕ) (edge : _). elim (sent_edges state serial target outer inner edge)
          as (λ _. raise state rank serial target inner < raise state rank serial target outer) [
            | inl before ↦
                elim (meets state n inner target)
                as (λ (b : Bool). meets state n inner target ≡ b
                → rank inner + cond b (rank serial + 1) 0
                < rank outer + cond (meets state n outer target) (rank serial + 1) 0) [
                  | true ↦ λ (met : _).
                      let more : meets state n outer target ≡ true =
                      met_more rank state grows n target inner outer (few_above rank (rank target) state) met
                      (one_carrier state once inner outer before) in
                      omega (arith, grows outer inner before, ap (λ (b : Bool). cond b (rank serial + 1) 0) more)
                  | false ↦ λ (unmet : _). omega (arith, grows outer inner before)
                ] refl
            | inr new ↦
                omega (
                  arith,
                  ap (raise state rank serial target) new.0,
                  ap (raise state rank serial target) new.1,
                  ap (λ (b : Bool). cond b (rank serial + 1) 0) (meets_itself state n target),
                  ap (λ (b : Bool). cond b (rank serial + 1) 0) free,
                )
          ],
    )

-- a receive right travels in one queue at most, in a lawful state

pub receive_is_any : (q : ℕ) (what : RightKind) (serial : ℕ) → receive_of q what serial ≤ any_of q what serial
receive_is_any q kind.Receive serial = omega arith
receive_is_any q kind.Send serial = omega arith
receive_is_any q kind.SendOnce serial = omega arith

target_less : (w v : Weight) → ((k : RightKind) (s : ℕ) → w k s ≤ v k s) → (target : Option ℕ)
    → target_weigh w target ≤ target_weigh v target
target_less w v less None = omega arith
target_less w v less (Some serial) = less kind.SendOnce serial

place_less : (w v : Weight) → ((k : RightKind) (s : ℕ) → w k s ≤ v k s) → (what : RightKind) (port : PortInMessage)
    → place_weigh w what port ≤ place_weigh v what port
place_less w v less what in_message.Null = omega arith
place_less w v less what in_message.Dead = omega arith
place_less w v less what (in_message.Live serial) = less what serial

reply_less : (w v : Weight) → ((k : RightKind) (s : ℕ) → w k s ≤ v k s) → (reply : Option CarriedRight)
    → reply_weigh w reply ≤ reply_weigh v reply
reply_less w v less None = omega arith
reply_less w v less (Some right) = place_less w v less right.kind right.port

message_less : (w v : Weight) → ((k : RightKind) (s : ℕ) → w k s ≤ v k s) → (queue : ℕ) (message : Message)
    → message_weigh w queue message ≤ message_weigh v queue message
message_less w v less queue message =
    omega (
      arith,
      less message.destination queue,
      reply_less w v less message.reply,
      weigh-le (carried_weigh w) (carried_weigh v)
          (λ (r : CarriedRight). place_less w v less r.kind r.port) message.rights,
    )

port_less : (w v : Weight) → ((k : RightKind) (s : ℕ) → w k s ≤ v k s) → (serial : ℕ) (port : PortState)
    → port_weigh w serial port ≤ port_weigh v serial port
port_less w v less serial port =
    omega (
      arith,
      target_less w v less port.no_senders_target,
      target_less w v less port.port_destroyed_target,
      weigh-le (message_weigh w serial) (message_weigh v serial) (message_less w v less serial) port.messages,
    )

pub ports_less : (w v : Weight) → ((k : RightKind) (s : ℕ) → w k s ≤ v k s) → (ports : FinMap nat_cmp PortState)
    → total (port_weigh w) ports ≤ total (port_weigh v) ports
ports_less w v less ports =
    weigh-le (λ (e : ℕ × PortState). port_weigh w e.0 e.1) (λ (e : ℕ × PortState). port_weigh v e.0 e.1)
    (λ (e : ℕ × PortState). port_less w v less e.0 e.1) (finmap.entries ports)

send_less : (b : Bool) (m n : ℕ) → m ≤ n → (if b then 0 else m) ≤ (if b then 0 else n)
send_less true m n le = omega arith
send_less false m n le = le

entry_less : (w v : Weight) → ((k : RightKind) (s : ℕ) → w k s ≤ v k s) → (entry : Entry)
    → entry_weigh w entry ≤ entry_weigh v entry
entry_less w v less (Port rights) =
    elim rights.receive as (λ (b : Bool). (if b then w kind.Receive rights.port else 0) +
    ((if rights.send == 0 then 0 else w kind.Send rights.port) + target_weigh w rights.dead_name_target)
    ≤ (if b then v kind.Receive rights.port else 0) +
    ((if rights.send == 0 then 0 else v kind.Send rights.port) + target_weigh v rights.dead_name_target)) [
      | true ↦ omega (
        arith,
        less kind.Receive rights.port,
        send_less (rights.send == 0) (w kind.Send rights.port) (v kind.Send rights.port) (less kind.Send rights.port),
        target_less w v less rights.dead_name_target,
      )
      | false ↦ omega (
        arith,
        send_less (rights.send == 0) (w kind.Send rights.port) (v kind.Send rights.port)
            (less kind.Send rights.port),
        target_less w v less rights.dead_name_target,
      )
    ]
entry_less w v less (SendOnce port target) = omega (arith, less kind.SendOnce port, target_less w v less target)
entry_less w v less Set = omega arith
entry_less w v less (Dead references) = omega arith

-- a lighter weight of each right is a lighter weight of the state
pub state_less : (w v : Weight) → ((k : RightKind) (s : ℕ) → w k s ≤ v k s) → (state : Ipc)
    → state_weigh w state ≤ state_weigh v state
unfolding state_weigh
state_less w v less state =
    omega (
      arith,
      ports_less w v less state.ports,
      weigh-le (λ (s : ℕ × Names). names_weigh w s.1) (λ (s : ℕ × Names). names_weigh v s.1) (λ (s : ℕ × Names).
          weigh-le (λ (e : ℕ × Entry). entry_weigh w e.1) (λ (e : ℕ × Entry). entry_weigh v e.1)
          (λ (e : ℕ × Entry). entry_less w v less e.1) (finmap.entries s.1)) (finmap.entries state.spaces),
    )

pub ports_in_state : (w : Weight) (state : Ipc) → total (port_weigh w) state.ports ≤ state_weigh w state
unfolding state_weigh
ports_in_state w state = omega arith

pub travels_once : (state : Ipc) (effects : List Effect) → LawfulBut state effects → TravelsOnce state
travels_once state effects lawful q =
    elim (lives state q) as (λ (b : Bool). lives state q ≡ b → total (port_weigh (receive_of q)) state.ports ≤ 1) [
      | true ↦ λ (live : _).
          let one : state_weigh (receive_of q) state + weigh (effect_weigh (receive_of q)) effects ≡ 1 =
          sym (count-receive state effects q) ∙ lawful.one_receive q live in
          omega (arith, one, ports_in_state (receive_of q) state)
      | false ↦ λ (dead : _).
          omega (
            arith,
            dangles_none state effects lawful q dead,
            ports_in_state (any_of q) state,
            ports_less (receive_of q) (any_of q) (receive_is_any q) state.ports,
          )
    ] refl

-- one effect

not_false : (b : Bool) → not b ≡ true → b ≡ false
not_false true e = absurd (cc e)
not_false false e = refl

receive_acyclic : (state : Ipc) (serial : ℕ) (port : PortState) (target : Option ℕ) → TravelsOnce state
    → Acyclic state → Acyclic (receive_released_to state serial port target).0
receive_acyclic state serial port None once acyclic =
    fewer_edges state (after_death state serial) (death_edges state serial) acyclic
receive_acyclic state serial port (Some target) once acyclic =
    elim (lives state target) as (λ (b : Bool). Acyclic
    (sent_or_died (b && not (is_circular state serial target)) state serial port target).0) [
      | true ↦ elim (not (is_circular state serial target))
          as (λ (b : Bool). not (is_circular state serial target) ≡ b
          → Acyclic (sent_or_died b state serial port target).0) [
            | true ↦ λ (free : _). sent_acyclic state serial target once
                (not_false (is_circular state serial target) free) acyclic
            | false ↦ λ (round : _). fewer_edges state (after_death state serial) (death_edges state serial) acyclic
          ] refl
      | false ↦ fewer_edges state (after_death state serial) (death_edges state serial) acyclic
    ]

released_acyclic : (state : Ipc) (serial : ℕ) (port : PortState) (what : RightKind) → TravelsOnce state
    → Acyclic state → Acyclic (released state serial port what).0
released_acyclic state serial port kind.Send once acyclic =
    elim (send_count state serial == 0)
    as (λ (b : Bool). Acyclic (if b then notified_no_senders state serial port port.no_senders_target else state))
    [ true ↦ no_senders_acyclic state serial port port.no_senders_target acyclic | false ↦ acyclic ]
released_acyclic state serial port kind.SendOnce once acyclic = notified_acyclic state serial notice.SendOnce tt acyclic
released_acyclic state serial port kind.Receive once acyclic =
    receive_acyclic state serial port port.port_destroyed_target once acyclic

effect_acyclic : (state : Ipc) (first : Effect) → IsWaiting first → TravelsOnce state → Acyclic state
    → Acyclic (effect state first).0
unfolding effect
effect_acyclic state (release what serial) waits once acyclic =
    elim (finmap.get state.ports serial) as (λ (o : Option PortState). Acyclic (released_if_live state serial what o).0)
    [ None ↦ acyclic | Some port ↦ released_acyclic state serial port what once acyclic ]
effect_acyclic state (notify target what) waits once acyclic = notified_acyclic state target what waits acyclic

-- Each effect keeps a lawful state acyclic.
abbrev pub EffectsKeepAcyclic : Type 0
EffectsKeepAcyclic =
    (state : Ipc) (first : Effect) (rest : List Effect) → LawfulBut state (first ∷ rest) → Acyclic state
    → Acyclic (effect state first).0

pub effects_keep_acyclic : EffectsKeepAcyclic
effects_keep_acyclic state first rest lawful acyclic =
    effect_acyclic state first lawful.waits.0 (travels_once state (first ∷ rest) lawful) acyclic

-- So what effects settle in is lawful and acyclic.
abbrev pub SettledIsLawful : Type 0
SettledIsLawful =
    (state : Ipc) (effects : List Effect) (end : Ipc) → LawfulBut state effects → Acyclic state
    → Settles state effects end → Lawful end × Acyclic end

pub settled_is_lawful : SettledIsLawful
settled_is_lawful state [] end lawful acyclic settled = (alone state lawful, acyclic)
settled_is_lawful state (first ∷ rest) end lawful acyclic (next_effect later) =
    settled_is_lawful (effect state first).0 (rest ++ (effect state first).1) end
    (effects_keep_lawful state first rest lawful) (effects_keep_acyclic state first rest lawful acyclic) later
