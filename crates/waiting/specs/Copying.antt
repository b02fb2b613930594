-- Copy in from two states in which the names that it takes have the same entries.
use Rattle.std.proofs.Common.{◌≡◌, ℕ, ◌-◌, Bool, true, false, cond, ◌==◌, length, nat_le, Option, None, Some, option_and_then, refl, sym, ◌∙◌, ap, subst}
use Rattle.std.specs.Prelude.{if◌then◌else◌}
use Rattle.std.specs.Cmp.{nat_cmp_total}
use Rattle.std.specs.Ordering.{nat_cmp, eq_by_cmp}
use Rattle.std.specs.FinMap as finmap
use Rattle.std.specs.FinMap.{get-insert, get-remove}
use Rattle.ipc_laws.specs.MapLaws.{get-here}
use Rattle.ipc_laws.specs.MapSums.{key_is}
use Rattle.ipc_laws.specs.Others.{with_port_spaces}
use Rattle.ipc_model.specs.declared.entry.Entry.{Entry}
use Rattle.ipc_model.specs.declared.entry.Entry.TheVariants.{Port, SendOnce, Set, Dead}
use Rattle.ipc_model.specs.declared.entry.PortRights.{PortRights}
use Rattle.ipc_model.specs.declared.message.CarriedRight.{CarriedRight}
use Rattle.ipc_model.specs.declared.message.PortInMessage.TheVariants.{Live}
use Rattle.ipc_model.specs.declared.message.PortInMessage.TheVariants as in_message
use Rattle.ipc_model.specs.declared.message.RightKind.TheVariants as kind
use Rattle.ipc_model.specs.declared.port.PortState.{PortState}
use Rattle.ipc_model.specs.messages.Sending.{is_full, live_port}
use Rattle.ipc_model.specs.rights.CopyIn.{Taken, copy_in, moved_port, taken_keeping, taken_leaving, taken_of_dead, taken_of_entry, taken_of_port, taken_of_send_once, with_left}
use Rattle.ipc_model.specs.rights.Dispositions.{Disposition, MoveReceive, MoveSend, MoveSendOnce, CopySend, MakeSend, MakeSendOnce}
use Rattle.ipc_model.specs.state.Ipc.{Ipc, Names, entry_at, is_empty_entry, with_changed, with_port, next_count}
use Rattle.waiting.specs.Receiving.{stands}
use Rattle.waiting.specs.Waiting.{port_of}

-- two options that are both None, or both of related values
abbrev pub Both : {X : Type 0} → (X → X → Type 0) → Option X → Option X → Type 0
Both R None None = Unit {0}
Both R None (Some y) = ⊥
Both R (Some x) None = ⊥
Both R (Some x) (Some y) = R x y

-- a change of one name of an existing space
entry_changed : (state : Ipc) (space name : ℕ) (change : Names → Names) (o : Option Entry) (names : Names)
    → finmap.get state.spaces space ≡ Some names
    → ((n : Names) (k : ℕ) → finmap.get (change n) k ≡ cond (eq_by_cmp nat_cmp k name) o (finmap.get n k))
    → (k : ℕ) → entry_at (with_changed state space change) space k
    ≡ cond (eq_by_cmp nat_cmp k name) o (entry_at state space k)
entry_changed state space name change o names there changed k =
    ap (λ (n : Option Names). option_and_then
    (λ (m : Names). finmap.get m k)
    (finmap.get (elim n as (λ _. Ipc) [
      | None ↦ state
      | Some m ↦ record state
          { spaces = finmap.insert state.spaces space (change m) }
    ]).spaces space)) there
    ∙ ap (option_and_then (λ (m : Names). finmap.get m k)) (get-here state.spaces space (change names))
    ∙ changed names k
    ∙ ap (cond (eq_by_cmp nat_cmp k name) o) (sym (ap (option_and_then (λ (m : Names). finmap.get m k)) there))

full_changed : (state : Ipc) (space serial : ℕ) (change : Names → Names)
    → is_full (with_changed state space change) serial ≡ is_full state serial
full_changed state space serial change =
    elim (finmap.get state.spaces space)
    as (λ (n : Option Names). is_full
    (elim n as (λ _. Ipc) [
      | None ↦ state
      | Some m ↦
          record state { spaces = finmap.insert state.spaces space (change m) }
    ]) serial ≡ is_full state serial) [
      | None ↦ refl
      | Some m ↦ refl
    ]

-- a change of a port that doesn't affect whether its queue is full
full_port : (state : Ipc) (serial other : ℕ) (change : PortState → PortState)
    → ((p : PortState) → nat_le (change p).limit (length (change p).messages) ≡ nat_le p.limit (length p.messages))
    → is_full (with_port state serial change) other ≡ is_full state other
full_port state serial other change keeps = go (finmap.get state.ports serial) refl
  where
    fullness : Option PortState → Bool
    fullness None = false
    fullness (Some port) = nat_le port.limit (length port.messages)

    as_fullness : (o : Option PortState)
        → (elim o as (λ _. Bool) [ None ↦ false | Some port ↦ nat_le port.limit (length port.messages) ]) ≡ fullness o
    as_fullness None = refl
    as_fullness (Some port) = refl

    at_key : (port : PortState) → finmap.get state.ports serial ≡ Some port → (b : Bool)
        → eq_by_cmp nat_cmp other serial ≡ b
        → fullness (cond b (Some (change port)) (finmap.get state.ports other))
        ≡ fullness (finmap.get state.ports other)
    at_key port there true same =
        keeps port ∙ ap fullness (sym (ap (finmap.get state.ports) (key_is other serial same) ∙ there))
    at_key port there false _ = refl

    go : (o : Option PortState) → finmap.get state.ports serial ≡ o
        → is_full (elim o as (λ _. Ipc)
        [ None ↦ state | Some port ↦ record state { ports = finmap.insert state.ports serial (change port) } ])
        other ≡ is_full state other
    go None there = refl
    go (Some port) there =
        as_fullness (finmap.get (finmap.insert state.ports serial (change port)) other)
        ∙ ap fullness (get-insert nat_cmp_total state.ports serial (change port) other)
        ∙ at_key port there (eq_by_cmp nat_cmp other serial) refl
        ∙ sym (as_fullness (finmap.get state.ports other))

-- The wanted names have the same entries in both states; the wanted ports include that of the name `remote`; and each
-- wanted port whose queue is full in the first state has a full queue in the second.
module _ (space remote : ℕ) (wanted wanted_port : ℕ → Type 0) where
  pub record Alike (one other : Ipc) : Type 0 where
    pub entries : (name : ℕ) → wanted name → entry_at other space name ≡ entry_at one space name
    pub port : (serial : ℕ) → option_and_then port_of (entry_at one space remote) ≡ Some serial → wanted_port serial
    pub full : (serial : ℕ) → wanted_port serial → is_full one serial ≡ true → is_full other serial ≡ true

  alike_changed : (one other : Ipc) (name : ℕ) (change : Names → Names) (o : Option Entry) (entry : Entry)
      → wanted name → entry_at one space name ≡ Some entry
      → ((n : Names) (k : ℕ) → finmap.get (change n) k ≡ cond (eq_by_cmp nat_cmp k name) o (finmap.get n k))
      → ((serial : ℕ) → option_and_then port_of o ≡ Some serial → port_of entry ≡ Some serial) → Alike one other
      → Alike (with_changed one space change) (with_changed other space change)
  alike_changed one other name change o entry want at changed to alike =
      let first = stands (finmap.get one.spaces space) name entry at in
      let second = stands (finmap.get other.spaces space) name entry (alike.entries name want ∙ at) in
      record {
        entries =
            λ k w. entry_changed other space name change o second.names second.there changed k
            ∙ ap (cond (eq_by_cmp nat_cmp k name) o) (alike.entries k w)
            ∙ sym (entry_changed one space name change o first.names first.there changed k);
        port =
            λ serial is. by_key serial (eq_by_cmp nat_cmp remote name) refl
            (sym (ap (option_and_then port_of)
            (entry_changed one space name change o first.names first.there changed remote)) ∙ is);
        full =
            λ serial w is. full_changed other space serial change
            ∙ alike.full serial w (sym (full_changed one space serial change) ∙ is);
      }
    where
      by_key : (serial : ℕ) (b : Bool) → eq_by_cmp nat_cmp remote name ≡ b
          → option_and_then port_of (cond b o (entry_at one space remote)) ≡ Some serial → wanted_port serial
      by_key serial true same is =
          alike.port serial (ap (option_and_then port_of) (ap (entry_at one space) (key_is remote name same) ∙ at)
          ∙ to serial is)
      by_key serial false _ is = alike.port serial is

  -- the remaining entry of a name has a right to the same port, or to none
  alike_left : (one other : Ipc) (name : ℕ) (left entry : Entry) → wanted name → entry_at one space name ≡ Some entry
      → ((serial : ℕ) → port_of left ≡ Some serial → port_of entry ≡ Some serial) → Alike one other
      → Alike (with_left one space name left) (with_left other space name left)
  alike_left one other name left entry want at to alike = go (is_empty_entry left)
    where
      go : (b : Bool) → Alike (if b then with_changed one space (λ names. finmap.remove names name)
          else with_changed one space (λ names. finmap.insert names name left))
          (if b then with_changed other space (λ names. finmap.remove names name) else with_changed other space
          (λ names. finmap.insert names name left))
      go true =
          alike_changed one other name (λ names. finmap.remove names name) None entry want at
          (λ n k. get-remove nat_cmp_total n name k) (λ serial is. absurd (cc is)) alike
      go false =
          alike_changed one other name (λ names. finmap.insert names name left) (Some left) entry want at
          (λ n k. get-insert nat_cmp_total n name left k) to alike

  alike_port : (one other : Ipc) (serial : ℕ) (change : PortState → PortState)
      → ((p : PortState) → nat_le (change p).limit (length (change p).messages) ≡ nat_le p.limit (length p.messages))
      → Alike one other → Alike (with_port one serial change) (with_port other serial change)
  alike_port one other serial change keeps alike = record {
    entries =
        λ name w. entry_kept other serial change name ∙ alike.entries name w ∙ sym (entry_kept one serial change name);
    port = λ s is. alike.port s (sym (ap (option_and_then port_of) (entry_kept one serial change remote)) ∙ is);
    full =
        λ s w is. full_port other serial s change keeps
        ∙ alike.full s w (sym (full_port one serial s change keeps) ∙ is);
  }
    where
      entry_kept : (state : Ipc) (serial : ℕ) (change : PortState → PortState) (name : ℕ)
          → entry_at (with_port state serial change) space name ≡ entry_at state space name
      entry_kept state serial change name =
          ap (λ (s : finmap.FinMap nat_cmp Names). option_and_then
          (λ (m : Names). finmap.get m name) (finmap.get s space)) (with_port_spaces state serial change)

  -- the rights taken from a name with this entry in both states
  pub record TakenAlike (entry : Entry) (one other : Taken) : Type 0 where
    pub right : other.right ≡ one.right
    pub notices : other.notices ≡ one.notices
    pub states : Alike one.state other.state
    pub to : (serial : ℕ) → live_port one.right.port ≡ Some serial → port_of entry ≡ Some serial

  -- a right was taken, and this entry remains
  leaving : (one other : Ipc) (name : ℕ) (right : CarriedRight) (left entry : Entry) → wanted name
      → entry_at one space name ≡ Some entry → ((serial : ℕ) → port_of left ≡ Some serial → port_of entry ≡ Some serial)
      → ((serial : ℕ) → live_port right.port ≡ Some serial → port_of entry ≡ Some serial) → Alike one other
      → TakenAlike entry (taken_leaving one space name right left) (taken_leaving other space name right left)
  leaving one other name right left entry want at same to alike =
      record { right = refl; notices = refl; states = alike_left one other name left entry want at same alike; to = to }

  keeping : (one other : Ipc) (right : CarriedRight) (entry : Entry)
      → ((serial : ℕ) → live_port right.port ≡ Some serial → port_of entry ≡ Some serial) → Alike one other
      → TakenAlike entry (taken_keeping one right) (taken_keeping other right)
  keeping one other right entry to alike = record { right = refl; notices = refl; states = alike; to = to }

  of_port : (one other : Ipc) (name : ℕ) (disposition : Disposition) (rights : PortRights) → wanted name
      → entry_at one space name ≡ Some (Port rights) → Alike one other
      → Both (TakenAlike (Port rights)) (taken_of_port one space name disposition rights)
      (taken_of_port other space name disposition rights)
  of_port one other name MoveReceive rights want at alike = go rights.receive
    where
      moves : PortState → PortState
      moves port = record port { set = None; sequence_number = 0; make_send_count = 0 }

      at_moved : entry_at (moved_port one rights.port) space name ≡ Some (Port rights)
      at_moved =
          ap (λ (s : finmap.FinMap nat_cmp Names). option_and_then
          (λ (m : Names). finmap.get m name) (finmap.get s space)) (with_port_spaces one rights.port moves) ∙ at

      go : (b : Bool) → Both (TakenAlike (Port rights))
          (if b then Some (taken_leaving (moved_port one rights.port) space name
          (record { kind = kind.Receive; port = Live rights.port }) (Port (record rights { receive = false })))
          else None)
          (if b then Some (taken_leaving (moved_port other rights.port) space name
          (record { kind = kind.Receive; port = Live rights.port }) (Port (record rights { receive = false })))
          else None)
      go true =
          leaving (moved_port one rights.port) (moved_port other rights.port) name
          (record { kind = kind.Receive; port = Live rights.port }) (Port (record rights { receive = false }))
          (Port rights) want at_moved (λ serial is. is)
          (λ serial is. is) (alike_port one other rights.port moves (λ p. refl) alike)
      go false = tt
  of_port one other name MoveSend rights want at alike = go (rights.send == 0)
    where
      go : (b : Bool) → Both (TakenAlike (Port rights))
          (if b then None else Some (taken_leaving one space name (record { kind = kind.Send; port = Live rights.port })
          (Port (record rights { send = rights.send - 1 }))))
          (if b then None else Some (taken_leaving other space name
          (record { kind = kind.Send; port = Live rights.port }) (Port (record rights { send = rights.send - 1 }))))
      go true = tt
      go false =
          leaving one other name (record { kind = kind.Send; port = Live rights.port })
          (Port (record rights { send = rights.send - 1 })) (Port rights) want at (λ serial is. is)
          (λ serial is. is) alike
  of_port one other name MoveSendOnce rights want at alike = tt
  of_port one other name CopySend rights want at alike = go (rights.send == 0)
    where
      go : (b : Bool) → Both (TakenAlike (Port rights))
          (if b then None else Some (taken_keeping one (record { kind = kind.Send; port = Live rights.port })))
          (if b then None else Some (taken_keeping other (record { kind = kind.Send; port = Live rights.port })))
      go true = tt
      go false =
          keeping one other (record { kind = kind.Send; port = Live rights.port }) (Port rights) (λ serial is. is) alike
  of_port one other name MakeSend rights want at alike = go rights.receive
    where
      counts : PortState → PortState
      counts port = record port { make_send_count = next_count port.make_send_count }

      go : (b : Bool) → Both (TakenAlike (Port rights))
          (if b then Some (taken_keeping (with_port one rights.port counts)
          (record { kind = kind.Send; port = Live rights.port })) else None)
          (if b then Some (taken_keeping (with_port other rights.port counts)
          (record { kind = kind.Send; port = Live rights.port })) else None)
      go true =
          keeping (with_port one rights.port counts) (with_port other rights.port counts)
          (record { kind = kind.Send; port = Live rights.port }) (Port rights)
          (λ serial is. is) (alike_port one other rights.port counts (λ p. refl) alike)
      go false = tt
  of_port one other name MakeSendOnce rights want at alike = go rights.receive
    where
      go : (b : Bool) → Both (TakenAlike (Port rights))
          (if b then Some (taken_keeping one (record { kind = kind.SendOnce; port = Live rights.port })) else None)
          (if b then Some (taken_keeping other (record { kind = kind.SendOnce; port = Live rights.port }))
          else None)
      go true =
          keeping one other (record { kind = kind.SendOnce; port = Live rights.port }) (Port rights)
          (λ serial is. is) alike
      go false = tt

  of_send_once : (one other : Ipc) (name : ℕ) (disposition : Disposition) (port : ℕ) (target : Option ℕ) → wanted name
      → entry_at one space name ≡ Some (SendOnce port target) → Alike one other
      → Both (TakenAlike (SendOnce port target)) (taken_of_send_once one space name disposition port target)
      (taken_of_send_once other space name disposition port target)
  of_send_once one other name MoveReceive port target want at alike = tt
  of_send_once one other name MoveSend port target want at alike = tt
  of_send_once one other name MoveSendOnce port target want at alike = record {
    right = refl;
    notices = refl;
    states =
        alike_changed one other name (λ names. finmap.remove names name) None (SendOnce port target) want at
        (λ n k. get-remove nat_cmp_total n name k) (λ serial is. absurd (cc is)) alike;
    to = λ serial is. is;
  }
  of_send_once one other name CopySend port target want at alike = tt
  of_send_once one other name MakeSend port target want at alike = tt
  of_send_once one other name MakeSendOnce port target want at alike = tt

  of_dead : (one other : Ipc) (name : ℕ) (disposition : Disposition) (references : ℕ) → wanted name
      → entry_at one space name ≡ Some (Dead references) → Alike one other
      → Both (TakenAlike (Dead references)) (taken_of_dead one space name disposition references)
      (taken_of_dead other space name disposition references)
  of_dead one other name MoveReceive references want at alike = tt
  of_dead one other name MoveSend references want at alike =
      leaving one other name (record { kind = kind.Send; port = in_message.Dead }) (Dead (references - 1))
      (Dead references) want at (λ serial is. absurd (cc is)) (λ serial is. absurd (cc is)) alike
  of_dead one other name MoveSendOnce references want at alike =
      leaving one other name (record { kind = kind.SendOnce; port = in_message.Dead }) (Dead (references - 1))
      (Dead references) want at (λ serial is. absurd (cc is)) (λ serial is. absurd (cc is)) alike
  of_dead one other name CopySend references want at alike =
      keeping one other (record { kind = kind.Send; port = in_message.Dead }) (Dead references)
      (λ serial is. absurd (cc is)) alike
  of_dead one other name MakeSend references want at alike = tt
  of_dead one other name MakeSendOnce references want at alike = tt

  of_entry : (one other : Ipc) (name : ℕ) (disposition : Disposition) (entry : Entry) → wanted name
      → entry_at one space name ≡ Some entry → Alike one other
      → Both (TakenAlike entry) (taken_of_entry one space name disposition entry)
      (taken_of_entry other space name disposition entry)
  of_entry one other name disposition (Port rights) want at alike =
      of_port one other name disposition rights want at alike
  of_entry one other name disposition (SendOnce port target) want at alike =
      of_send_once one other name disposition port target want at alike
  of_entry one other name disposition Set want at alike = tt
  of_entry one other name disposition (Dead references) want at alike =
      of_dead one other name disposition references want at alike

  -- the right that was taken from a name is to the port of the name's entry
  pub record TakenOf (name : ℕ) (start : Ipc) (first second : Taken) : Type 0 where
    pub right : second.right ≡ first.right
    pub notices : second.notices ≡ first.notices
    pub states : Alike first.state second.state
    pub to : (serial : ℕ) → live_port first.right.port ≡ Some serial
        → option_and_then port_of (entry_at start space name) ≡ Some serial

  both_map : {X : Type 0} (R S : X → X → Type 0) → ((x y : X) → R x y → S x y) → (o p : Option X) → Both R o p
      → Both S o p
  both_map R S f None None is = tt
  both_map R S f None (Some y) is = absurd is
  both_map R S f (Some x) None is = absurd is
  both_map R S f (Some x) (Some y) is = f x y is

  pub copy_in_alike : (one other : Ipc) (name : ℕ) (disposition : Disposition) → wanted name → Alike one other
      → Both (TakenOf name one) (copy_in one space name disposition) (copy_in other space name disposition)
  unfolding copy_in
  copy_in_alike one other name disposition want alike =
      subst (λ (o : Option Entry). Both (TakenOf name one)
      (option_and_then (taken_of_entry one space name disposition) (entry_at one space name))
      (option_and_then (taken_of_entry other space name disposition) o)) (sym (alike.entries name want))
      (go (entry_at one space name) refl)
    where
      go : (o : Option Entry) → entry_at one space name ≡ o
          → Both (TakenOf name one) (option_and_then (taken_of_entry one space name disposition) o)
          (option_and_then (taken_of_entry other space name disposition) o)
      go None at = tt
      go (Some entry) at = both_map (TakenAlike entry) (TakenOf name one) (λ x y is. record {
        right = is.right;
        notices = is.notices;
        states = is.states;
        to = λ serial live. ap (option_and_then port_of) at ∙ is.to serial live;
      }) (taken_of_entry one space name disposition entry) (taken_of_entry other space name disposition entry)
          (of_entry one other name disposition entry want at alike)
