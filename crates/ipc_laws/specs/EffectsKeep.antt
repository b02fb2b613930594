-- Effects keep a state lawful, if the rights that wait among them count as placed; so what they settle in is lawful.
use Rattle.std.specs.Prelude.{◌≡◌, ◌≢◌, ◌⊎◌, ℕ, zero, suc, ◌+◌, ◌≤◌, Bool, true, false, cond, ◌==◌, ◌&&◌, not, Contains, List, [], ◌∷◌, ◌++◌, flat_map, Option, None, Some, is_some, option_map, if◌then◌else◌, refl}
use Rattle.std.proofs.Common.{sym, ◌∙◌, ap, subst, inl, inr, arith}
use Rattle.std.proofs.lemmas.Bool.{eq-eqb}
use Rattle.std.specs.FinMap as finmap
use Rattle.ipc_model.specs.declared.entry.Entry.{Entry}
use Rattle.ipc_model.specs.declared.entry.Entry.TheVariants.{Port, SendOnce, Set, Dead}
use Rattle.ipc_model.specs.declared.entry.PortRights.{PortRights}
use Rattle.ipc_model.specs.declared.message.CarriedRight.{CarriedRight}
use Rattle.ipc_model.specs.declared.message.Message.{Message}
use Rattle.ipc_model.specs.declared.message.PortInMessage.{PortInMessage}
use Rattle.ipc_model.specs.declared.message.PortInMessage.TheVariants as in_message
use Rattle.ipc_model.specs.declared.message.PortInMessage.TheVariants.{Null, Live}
use Rattle.ipc_model.specs.declared.message.RightKind.{RightKind}
use Rattle.ipc_model.specs.declared.message.RightKind.TheVariants as kind
use Rattle.ipc_model.specs.declared.port.PortState.{PortState}
use Rattle.ipc_model.specs.state.Circular.{is_circular}
use Rattle.ipc_laws.specs.Dangling.{effect_leaves, NoneDangles, left_apart}
use Rattle.ipc_laws.specs.ListLaws.{some_same}
use Rattle.ipc_model.specs.effects.Effects.{Effect, release, notify, effect, notified, releases_of, release_of, release_of_reply, release_of_port, release_of_target, entry_after_death, port_after_death, dead_name_of_entry, dead_name_notice, without_target, one_more_if, dead_name_notices, is_name_of, after_death, effects_of_death, map_values, notified_no_senders, receive_released_to, released, released_if_live}
use Rattle.ipc_laws.specs.EffectParts.{Parts, NotReceived, effect_parts, mapped_some}
use Rattle.ipc_laws.specs.EffectWeights.{effect_receive, moved_out, sent_or_died}
use Rattle.ipc_model.specs.state.Lawful.{LawfulBut, count_with, AllWaiting, IsHeldAlongsideSet, IsReleased}
use Rattle.ipc_laws.specs.MapLaws.{get-here, get-there, get-left, get-map_values}
use Rattle.ipc_laws.specs.MapSums.{weigh, total, weight, weigh-append, total-remove}
use Rattle.ipc_model.specs.messages.Notices.{Notice, notice_message}
use Rattle.ipc_model.specs.messages.Notices as notice
use Rattle.ipc_laws.specs.Others.{number_same, number_decided, effect_passes}
use Rattle.ipc_model.specs.state.Placed.{send_count}
use Rattle.ipc_model.specs.state.Ipc.{Ipc, Names, with_port, lives, received_port, request_of}
use Rattle.ipc_laws.specs.Weights.{Weight, entry_weigh, names_weigh, state_weigh, effect_weigh, receive_of, count-receive, count-any}

-- what is added waits

pub waiting-append : (xs ys : List Effect) → AllWaiting xs → AllWaiting ys → AllWaiting (xs ++ ys)
waiting-append [] ys first second = second
waiting-append (x ∷ xs) ys first second = (first.0, waiting-append xs ys first.1 second)

pub waiting-flat_map : {A : Type 0} (f : A → List Effect) (xs : List A) → ((x : A) → AllWaiting (f x))
    → AllWaiting (flat_map f xs)
waiting-flat_map f [] each = tt
waiting-flat_map f (x ∷ xs) each = waiting-append (f x) (flat_map f xs) (each x) (waiting-flat_map f xs each)

release_waits : (right : CarriedRight) → AllWaiting (release_of right)
release_waits right =
    elim right.port as (λ (port : PortInMessage). AllWaiting (release_of_port right.kind port))
    [ Null ↦ tt | in_message.Dead ↦ tt | Live serial ↦ (tt, tt) ]

reply_waits : (right : Option CarriedRight) → AllWaiting (release_of_reply right)
reply_waits None = tt
reply_waits (Some right) = release_waits right

pub releases_wait : (message : Message) → AllWaiting (releases_of message)
releases_wait message =
    waiting-append (release_of_reply message.reply) (flat_map release_of message.rights) (reply_waits message.reply)
    (waiting-flat_map release_of message.rights release_waits)

notice_waits : (name : ℕ) (target : Option ℕ) → AllWaiting (dead_name_notice name target)
notice_waits name None = tt
notice_waits name (Some target) = (tt, tt)

entry_waits : (serial name : ℕ) (entry : Entry) → AllWaiting (dead_name_of_entry serial name entry)
entry_waits serial name entry =
    elim (is_name_of serial entry)
    as (λ (b : Bool). AllWaiting (if b then dead_name_notice name (request_of entry) else []))
    [ true ↦ notice_waits name (request_of entry) | false ↦ tt ]

target_waits : (target : Option ℕ) → AllWaiting (release_of_target target)
target_waits None = tt
target_waits (Some serial) = (tt, tt)

death_waits : (state : Ipc) (serial : ℕ) (port : PortState) → AllWaiting (effects_of_death state serial port)
death_waits state serial port =
    waiting-append (flat_map releases_of port.messages) _ (waiting-flat_map releases_of port.messages releases_wait)
    (waiting-append (dead_name_notices state serial) (release_of_target port.no_senders_target)
    (waiting-flat_map _ (finmap.entries state.spaces)
    (λ (s : ℕ × Names). waiting-flat_map (λ (e : ℕ × Entry). dead_name_of_entry serial e.0 e.1) (finmap.entries s.1)
    (λ (e : ℕ × Entry). entry_waits serial e.0 e.1)))
    (target_waits port.no_senders_target))

receive_waits : (state : Ipc) (serial : ℕ) (port : PortState) (target : Option ℕ)
    → AllWaiting (receive_released_to state serial port target).1
receive_waits state serial port None = death_waits state serial port
receive_waits state serial port (Some target) =
    elim (lives state target && not (is_circular state serial target))
    as (λ (b : Bool). AllWaiting (sent_or_died b state serial port target).1)
    [ true ↦ tt | false ↦ death_waits state serial port ]

released_waits : (state : Ipc) (serial : ℕ) (port : PortState) (what : RightKind)
    → AllWaiting (released state serial port what).1
released_waits state serial port kind.Send = tt
released_waits state serial port kind.SendOnce = tt
released_waits state serial port kind.Receive = receive_waits state serial port port.port_destroyed_target

effect_waits : (state : Ipc) (first : Effect) → AllWaiting (effect state first).1
unfolding effect
effect_waits state (release what serial) =
    elim (finmap.get state.ports serial)
    as (λ (o : Option PortState). AllWaiting (released_if_live state serial what o).1)
    [ None ↦ tt | Some port ↦ released_waits state serial port what ]
effect_waits state (notify target what) = tt

-- a receive right that is released stands under no name

pub entry_part : (w : Weight) (state : Ipc) (space name : ℕ) (names : Names) (entry : Entry)
    → finmap.get state.spaces space ≡ Some names → finmap.get names name ≡ Some entry
    → entry_weigh w entry ≤ state_weigh w state
unfolding state_weigh
entry_part w state space name names entry there at =
    let in_names : total (λ n e. entry_weigh w e) (finmap.remove names name) + entry_weigh w entry
    ≡ names_weigh w names =
    subst (λ (o : Option Entry). total (λ n e. entry_weigh w e) (finmap.remove names name) + weight
    (λ n e. entry_weigh w e) name o ≡ names_weigh w names) at (total-remove (λ n e. entry_weigh w e) names name) in
    let in_spaces : total (λ s n. names_weigh w n) (finmap.remove state.spaces space) + names_weigh w names ≡ total
    (λ s n. names_weigh w n) state.spaces =
    subst (λ (o : Option Names). total (λ s n. names_weigh w n) (finmap.remove state.spaces space) + weight
    (λ s n. names_weigh w n) space o ≡ total (λ s n. names_weigh w n) state.spaces) there
    (total-remove (λ s n. names_weigh w n) state.spaces space) in
    omega (arith, in_names, in_spaces)

pub own_weight : (q : ℕ) → receive_of q kind.Receive q ≡ 1
own_weight q = ap (λ (b : Bool). cond b 1 0) (eq-eqb q q refl)

receive_counts : (q : ℕ) (rights : PortRights) → rights.port ≡ q → (rights.receive ≡ true)
    → 1 ≤ entry_weigh (receive_of q) (Port rights)
receive_counts q rights is holds =
    let weighs : (if rights.receive then receive_of q kind.Receive rights.port else 0) ≡ 1 =
    ap (λ (b : Bool). if b then receive_of q kind.Receive rights.port else 0) holds ∙ ap (receive_of q kind.Receive) is
    ∙ own_weight q in
    omega (arith, weighs)

pub not_received : (state : Ipc) (serial : ℕ) → state_weigh (receive_of serial) state ≡ 0 → NotReceived state serial
not_received state serial none space name names rights there at is =
    elim rights.receive as (λ (b : Bool). rights.receive ≡ b → b ≡ false) [
      | true ↦ λ (holds : _). absurd
          (omega (
            arith,
            none,
            receive_counts serial rights is holds,
            entry_part (receive_of serial) state space name names (Port rights) there at,
          ))
      | false ↦ λ (none : _). refl
    ] refl

-- sets: a member is held in its set's space, or its receive right waits

abbrev pub Members : Ipc → List Effect → Type 0
Members state effects =
    (serial set : ℕ) (port : PortState) → finmap.get state.ports serial ≡ Some port → port.set ≡ Some set
    → IsHeldAlongsideSet state serial set ⊎ IsReleased effects serial

here_or_later : {X : Type 0} (x first : X) (rest : List X) → Contains (first ∷ rest) x → (first ≡ x) ⊎ Contains rest x
here_or_later x first rest (zero, less, is) = inl is
here_or_later x first rest (suc k, less, is) = inr (k, omega (arith, less), is)

still_contains : {X : Type 0} (x : X) (xs ys : List X) → Contains xs x → Contains (xs ++ ys) x
still_contains x [] ys (k, less, is) = absurd (omega (arith, less))
still_contains x (y ∷ xs) ys (zero, less, is) = (zero, omega arith, is)
still_contains x (y ∷ xs) ys (suc k, less, is) =
    let later = still_contains x xs ys (k, omega (arith, less), is) in (suc later.0, omega (arith, later.1), later.2)

more_effects : (state : Ipc) (rest added : List Effect) → Members state rest → Members state (rest ++ added)
more_effects state rest added members serial set port there is =
    elim (members serial set port there is)
    as (λ _. IsHeldAlongsideSet state serial set ⊎ IsReleased (rest ++ added) serial) [
      | inl held ↦ inl held
      | inr waits ↦ inr (still_contains (release kind.Receive serial) rest added waits)
    ]

-- an effect that isn't the release of a receive right is done
without_first : (state : Ipc) (first : Effect) (rest : List Effect)
    → ((serial : ℕ) → first ≡ release kind.Receive serial → ⊥) → Members state (first ∷ rest) → Members state rest
without_first state first rest other members serial set port there is =
    elim (members serial set port there is) as (λ _. IsHeldAlongsideSet state serial set ⊎ IsReleased rest serial) [
      | inl held ↦ inl held
      | inr waits ↦ elim (here_or_later (release kind.Receive serial) first rest waits)
          as (λ _. IsHeldAlongsideSet state serial set ⊎ IsReleased rest serial) [
            | inl same ↦ absurd (other serial same)
            | inr later ↦ inr later
          ]
    ]

-- what a port keeps changes, except its set
port_members : (state : Ipc) (serial : ℕ) (change : PortState → PortState) (effects : List Effect)
    → ((p : PortState) → (change p).set ≡ p.set) → Members state effects
    → Members (with_port state serial change) effects
port_members state serial change effects keeps members =
    elim (finmap.get state.ports serial) as (λ (o : Option PortState). finmap.get state.ports serial ≡ o
    → Members (elim o as (λ _. Ipc)
    [ None ↦ state | Some p ↦ record state { ports = finmap.insert state.ports serial (change p) } ]) effects) [
      | None ↦ λ (none : _). members
      | Some p ↦ λ (there : _) (other set : ℕ) (port : PortState) (at : _) (is : _). elim (number_decided other serial)
          as (λ _. IsHeldAlongsideSet state other set ⊎ IsReleased effects other) [
            | inl apart ↦ members other set port (sym (get-there state.ports serial (change p) other apart) ∙ at) is
            | inr same ↦
                let changed : change p ≡ port =
                some_same (change p) port (sym (get-here state.ports serial (change p))
                ∙ ap (finmap.get (finmap.insert state.ports serial (change p))) (sym same) ∙ at) in
                members other set p (ap (finmap.get state.ports) same ∙ there)
                (sym (keeps p) ∙ ap (λ (q : PortState). q.set) changed ∙ is)
          ]
    ] refl

notified_members : (state : Ipc) (target : ℕ) (what : Notice) (effects : List Effect) → Members state effects
    → Members (notified state target what) effects
notified_members state target what effects members =
    port_members state target (λ (p : PortState). record p { messages = p.messages ++ notice_message what ∷ [] })
    effects (λ (p : PortState). refl) members

no_senders_members : (state : Ipc) (serial : ℕ) (port : PortState) (target : Option ℕ) (effects : List Effect)
    → Members state effects → Members (notified_no_senders state serial port target) effects
no_senders_members state serial port None effects members = members
no_senders_members state serial port (Some target) effects members =
    notified_members (with_port state serial (λ (p : PortState). record p { no_senders_target = None })) target
    (notice.NoSenders port.make_send_count) effects
    (port_members state serial (λ (p : PortState). record p { no_senders_target = None }) effects
    (λ (p : PortState). refl) members)

unfoldable pub serial_of : Effect → ℕ
serial_of (release what serial) = serial
serial_of (notify target what) = 0

kind_number : Effect → ℕ
kind_number (release kind.Receive serial) = 1
kind_number (release kind.Send serial) = 2
kind_number (release kind.SendOnce serial) = 3
kind_number (notify target what) = 4

send_is_not_receive : (one other : ℕ) → release kind.Send one ≡ release kind.Receive other → ⊥
unfolding kind_number
send_is_not_receive one other e = omega (arith, ap kind_number e)

once_is_not_receive : (one other : ℕ) → release kind.SendOnce one ≡ release kind.Receive other → ⊥
unfolding kind_number
once_is_not_receive one other e = omega (arith, ap kind_number e)

notice_is_not_release : (target : ℕ) (what : Notice) (other : ℕ) → notify target what ≡ release kind.Receive other → ⊥
unfolding kind_number
notice_is_not_release target what other e = omega (arith, ap kind_number e)

same_serial : (one other : ℕ) → release kind.Receive one ≡ release kind.Receive other → one ≡ other
unfolding serial_of
same_serial one other e = ap serial_of e

-- a receive right that is released leaves its set
moved_members : (state : Ipc) (serial : ℕ) (port : PortState) (rest : List Effect)
    → finmap.get state.ports serial ≡ Some port → Members state (release kind.Receive serial ∷ rest)
    → Members (with_port state serial moved_out) rest
moved_members state serial port rest there members =
    let moved : Ipc = record state { ports = finmap.insert state.ports serial (moved_out port) } in
    let is_moved : with_port state serial moved_out ≡ moved =
    ap (λ (o : Option PortState). elim o as (λ _. Ipc)
    [ None ↦ state | Some p ↦ record state { ports = finmap.insert state.ports serial (moved_out p) } ]) there in
    subst (λ (s : Ipc). Members s rest) (sym is_moved)
    (λ (other set : ℕ) (p : PortState) (at : _) (is : _). elim (number_decided other serial)
    as (λ _. IsHeldAlongsideSet state other set ⊎ IsReleased rest other) [
      | inl apart ↦ elim (members other set p (sym (get-there state.ports serial (moved_out port) other apart) ∙ at) is)
          as (λ _. IsHeldAlongsideSet state other set ⊎ IsReleased rest other) [
            | inl held ↦ inl held
            | inr waits ↦ elim (here_or_later (release kind.Receive other) (release kind.Receive serial) rest waits)
                as (λ _. IsHeldAlongsideSet state other set ⊎ IsReleased rest other) [
                  | inl same ↦ absurd (apart (sym (same_serial serial other same)))
                  | inr later ↦ inr later
                ]
          ]
      | inr same ↦
          let changed : moved_out port ≡ p =
          some_same (moved_out port) p (sym (get-here state.ports serial (moved_out port))
          ∙ ap (finmap.get (finmap.insert state.ports serial (moved_out port))) (sym same) ∙ at) in
          absurd (cc (ap (λ (q : PortState). q.set) changed ∙ is))
    ])

-- after a death, other members are still held in the spaces of their sets
pub held_port : (rights : PortRights) (other : ℕ) → (if rights.receive then Some rights.port else None) ≡ Some other
    → rights.port ≡ other
held_port rights other is =
    elim rights.receive as (λ (b : Bool). (if b then Some rights.port else None) ≡ Some other → rights.port ≡ other) [
      | true ↦ λ (e : _). some_same rights.port other e
      | false ↦ λ (e : _). absurd (cc e)
    ] is

received_after : (serial other : ℕ) (entry : Entry) → other ≢ serial → received_port entry ≡ Some other
    → received_port (entry_after_death serial entry) ≡ Some other
received_after serial other (Port rights) apart is =
    elim (rights.port == serial) as (λ (b : Bool). (rights.port == serial) ≡ b
    → received_port (if b then Dead (rights.send + one_more_if rights.dead_name_target)
    else Port (record rights { dead_name_target = without_target serial rights.dead_name_target })) ≡ Some other) [
      | true ↦ λ (e : _). absurd (apart (sym (held_port rights other is) ∙ number_same rights.port serial e))
      | false ↦ λ (e : _). is
    ] refl
received_after serial other (SendOnce port target) apart is = absurd (cc is)
received_after serial other Set apart is = absurd (cc is)
received_after serial other (Dead references) apart is = absurd (cc is)

held_after_death : (state : Ipc) (serial other set : ℕ) → other ≢ serial → IsHeldAlongsideSet state other set
    → IsHeldAlongsideSet (after_death state serial) other set
held_after_death state serial other set apart (space, names, name, entry, there, at, is, alongside) = (
  space,
  map_values (entry_after_death serial) names,
  name,
  entry_after_death serial entry,
  get-map_values (map_values (entry_after_death serial)) state.spaces space
      ∙ ap (option_map (map_values (entry_after_death serial))) there,
  get-map_values (entry_after_death serial) names name ∙ ap (option_map (entry_after_death serial)) at,
  received_after serial other entry apart is,
  get-map_values (entry_after_death serial) names set ∙ ap (option_map (entry_after_death serial)) alongside,
)

died_members : (state : Ipc) (serial : ℕ) (rest : List Effect) → Members state (release kind.Receive serial ∷ rest)
    → Members (after_death state serial) rest
died_members state serial rest members other set port at is =
    let was =
    mapped_some (port_after_death serial) (finmap.get (finmap.remove state.ports serial) other) port
    (sym (get-map_values (port_after_death serial) (finmap.remove state.ports serial) other) ∙ at) in
    let apart : other ≢ serial = left_apart state.ports serial other was.0 was.1 in
    let before : finmap.get state.ports other ≡ Some was.0 = sym (get-left state.ports serial other apart) ∙ was.1 in
    elim (members other set was.0 before (ap (λ (q : PortState). q.set) was.2 ∙ is))
    as (λ _. IsHeldAlongsideSet (after_death state serial) other set ⊎ IsReleased rest other) [
      | inl held ↦ inl (held_after_death state serial other set apart held)
      | inr waits ↦ elim (here_or_later (release kind.Receive other) (release kind.Receive serial) rest waits)
          as (λ _. IsHeldAlongsideSet (after_death state serial) other set ⊎ IsReleased rest other) [
            | inl same ↦ absurd (apart (sym (same_serial serial other same)))
            | inr later ↦ inr later
          ]
    ]

receive_members : (state : Ipc) (serial : ℕ) (port : PortState) (target : Option ℕ) (rest : List Effect)
    → finmap.get state.ports serial ≡ Some port → Members state (release kind.Receive serial ∷ rest)
    → Members (receive_released_to state serial port target).0 rest
receive_members state serial port None rest there members = died_members state serial rest members
receive_members state serial port (Some target) rest there members =
    elim (lives state target && not (is_circular state serial target))
    as (λ (b : Bool). Members (sent_or_died b state serial port target).0 rest) [
      | true ↦ notified_members (with_port state serial moved_out) target (notice.PortDestroyed serial) rest
          (moved_members state serial port rest there members)
      | false ↦ died_members state serial rest members
    ]

-- the release of a dead port's receive right changes nothing
dead_members : (state : Ipc) (what : RightKind) (serial : ℕ) (rest : List Effect)
    → finmap.get state.ports serial ≡ None → Members state (release what serial ∷ rest) → Members state rest
unfolding serial_of
dead_members state what serial rest none members other set port there is =
    elim (members other set port there is) as (λ _. IsHeldAlongsideSet state other set ⊎ IsReleased rest other) [
      | inl held ↦ inl held
      | inr waits ↦ elim (here_or_later (release kind.Receive other) (release what serial) rest waits)
          as (λ _. IsHeldAlongsideSet state other set ⊎ IsReleased rest other) [
            | inl same ↦ absurd (cc (sym none ∙ ap (finmap.get state.ports) (ap serial_of same) ∙ there))
            | inr later ↦ inr later
          ]
    ]

released_members : (state : Ipc) (serial : ℕ) (port : PortState) (what : RightKind) (rest : List Effect)
    → finmap.get state.ports serial ≡ Some port → Members state (release what serial ∷ rest)
    → Members (released state serial port what).0 rest
released_members state serial port kind.Send rest there members =
    elim (send_count state serial == 0)
    as (λ (b : Bool). Members (if b then notified_no_senders state serial port port.no_senders_target else state)
    rest) [
      | true ↦ no_senders_members state serial port port.no_senders_target rest
          (without_first state (release kind.Send serial) rest
          (λ (s : ℕ) (e : _). send_is_not_receive serial s e) members)
      | false ↦ without_first state (release kind.Send serial) rest
          (λ (s : ℕ) (e : _). send_is_not_receive serial s e) members
    ]
released_members state serial port kind.SendOnce rest there members =
    notified_members state serial notice.SendOnce rest
    (without_first state (release kind.SendOnce serial) rest
    (λ (s : ℕ) (e : _). once_is_not_receive serial s e) members)
released_members state serial port kind.Receive rest there members =
    receive_members state serial port port.port_destroyed_target rest there members

effect_members : (state : Ipc) (first : Effect) (rest : List Effect) → Members state (first ∷ rest)
    → Members (effect state first).0 rest
unfolding effect
effect_members state (release what serial) rest members =
    elim (finmap.get state.ports serial)
    as (λ (o : Option PortState). finmap.get state.ports serial ≡ o
    → Members (released_if_live state serial what o).0 rest) [
      | None ↦ λ (none : _). dead_members state what serial rest none members
      | Some port ↦ λ (there : _). released_members state serial port what rest there members
    ] refl
effect_members state (notify target what) rest members =
    notified_members state target what rest
    (without_first state (notify target what) rest
    (λ (s : ℕ) (e : _). notice_is_not_release target what s e) members)

-- the parts together

pub parts_of : (state : Ipc) (effects : List Effect) → LawfulBut state effects → Parts state
parts_of state effects lawful =
    record {
      first_space = lawful.first_space;
      spaces = lawful.spaces;
      ports = lawful.ports;
      few_ports = lawful.few_ports;
      next = lawful.next;
    }

-- the receive right of a live port that is released stands under no name: it is the one that waits
released_alone : (state : Ipc) (first : Effect) (rest : List Effect) → LawfulBut state (first ∷ rest)
    → (serial : ℕ) (port : PortState) → first ≡ release kind.Receive serial → finmap.get state.ports serial ≡ Some port
    → NotReceived state serial
released_alone state first rest lawful serial port is there =
    let w : Weight = receive_of serial in
    let one : state_weigh w state + weigh (effect_weigh w) (first ∷ rest) ≡ 1 =
    sym (count-receive state (first ∷ rest) serial) ∙ lawful.one_receive serial (ap is_some there) in
    let own : effect_weigh w first ≡ 1 = ap (effect_weigh w) is ∙ own_weight serial in
    not_received state serial (omega (arith, one, own))

pub dangles_none : (state : Ipc) (effects : List Effect) → LawfulBut state effects → NoneDangles state
dangles_none state effects lawful q dead = sym (count-any state q) ∙ lawful.live q dead

was_live : (state : Ipc) (first : Effect) (q : ℕ) → lives (effect state first).0 q ≡ true → lives state q ≡ true
was_live state first q live = elim (lives state q) as (λ (b : Bool). lives state q ≡ b → b ≡ true) [
  | true ↦ λ (e : _). refl
  | false ↦ λ (dead : _). absurd (cc (sym live ∙ (effect_passes state first).fewer q dead))
] refl

receives_after : (state : Ipc) (first : Effect) (rest : List Effect) → LawfulBut state (first ∷ rest) → (q : ℕ)
    → lives (effect state first).0 q ≡ true
    → count_with kind.Receive (effect state first).0 (rest ++ (effect state first).1) q ≡ 1
receives_after state first rest lawful q live =
    let w : Weight = receive_of q in
    let before : state_weigh w state + weigh (effect_weigh w) (first ∷ rest) ≡ 1 =
    sym (count-receive state (first ∷ rest) q) ∙ lawful.one_receive q (was_live state first q live) in
    count-receive (effect state first).0 (rest ++ (effect state first).1) q
    ∙ omega (
      arith,
      before,
      effect_receive q state first lawful.waits.0 live,
      weigh-append (effect_weigh w) rest (effect state first).1,
    )

-- Each effect keeps a state lawful, if the rights that wait count as placed.
abbrev pub EffectsKeepLawful : Type 0
EffectsKeepLawful =
    (state : Ipc) (first : Effect) (rest : List Effect) → LawfulBut state (first ∷ rest)
    → LawfulBut (effect state first).0 (rest ++ (effect state first).1)

pub effects_keep_lawful : EffectsKeepLawful
effects_keep_lawful state first rest lawful =
    let parts : Parts (effect state first).0 =
    effect_parts state first (released_alone state first rest lawful) (parts_of state (first ∷ rest) lawful) in
    record {
      first_space = parts.first_space;
      spaces = parts.spaces;
      ports = parts.ports;
      few_ports = parts.few_ports;
      next = parts.next;
      one_receive = receives_after state first rest lawful;
      live =
          λ (q : ℕ) (dead : _). count-any (effect state first).0 q
          ∙ effect_leaves state first lawful.waits.0 (dangles_none state (first ∷ rest) lawful) q dead;
      waits = waiting-append rest (effect state first).1 lawful.waits.1 (effect_waits state first);
      sets =
          more_effects (effect state first).0 rest (effect state first).1 (effect_members state first rest lawful.sets);
    }
