-- The place of a port's receive right, and the set that contains the port.
use Rattle.std.proofs.Common.{◌≡◌, ◌≢◌, inl, inr, ℕ, zero, suc, ◌+◌, ◌≤◌, ◌==◌, Bool, true, false, cond, ◌&&◌, ◌||◌, not, if◌then◌else◌, All, List, [], Option, None, Some, is_some, option_and_then, refl, sym, ◌∙◌, ap, subst, arith}
use Rattle.std.specs.List.{list_all}
use Rattle.std.specs.FinMap.{entries, entries_sorted, get, get-entries}
use Rattle.std.proofs.lemmas.Bool.{eq-eqb}
use Rattle.ipc_laws.specs.AllocateKeep.{held_weighs}
use Rattle.ipc_laws.specs.EffectsKeep.{dangles_none, entry_part}
use Rattle.ipc_laws.specs.LawfulLaws.{at_rest}
use Rattle.ipc_laws.specs.ListLaws.{some_same}
use Rattle.ipc_laws.specs.MapSums.{total}
use Rattle.ipc_laws.specs.Others.{number_decided, number_same}
use Rattle.ipc_laws.specs.Takes.{own_weight}
use Rattle.ipc_laws.specs.Weights.{Weight, any_of, receive_of, carried_weigh, entry_weigh, message_weigh, names_weigh, place_weigh, port_weigh, reply_weigh, state_weigh, target_weigh, count-receive}
use Rattle.ipc_model.specs.calls.PortCalls.{names_in, stands_elsewhere}
use Rattle.ipc_model.specs.declared.entry.Entry.{Entry}
use Rattle.ipc_model.specs.declared.entry.Entry.TheVariants.{Port, SendOnce, Set, Dead}
use Rattle.ipc_model.specs.declared.entry.PortRights.{PortRights}
use Rattle.ipc_model.specs.declared.message.CarriedRight.{CarriedRight}
use Rattle.ipc_model.specs.declared.message.Message.{Message}
use Rattle.ipc_model.specs.declared.message.PortInMessage.{PortInMessage}
use Rattle.ipc_model.specs.declared.message.PortInMessage.TheVariants as in_message
use Rattle.ipc_model.specs.declared.message.PortInMessage.TheVariants.{Null, Live}
use Rattle.ipc_model.specs.declared.message.RightKind.{RightKind}
use Rattle.ipc_model.specs.declared.message.RightKind.TheVariants as kind
use Rattle.ipc_model.specs.declared.port.PortState.{PortState}
use Rattle.ipc_model.specs.state.Lawful.{Lawful, LawfulMessage, LawfulReply, IsHeldAlongsideSet}
use Rattle.ipc_model.specs.state.Placed.{same_kind}
use Rattle.ipc_model.specs.state.Ipc.{Names, Ipc, is_number, lives, port_held, received_port}
use Rattle.snapshot_loading.specs.Linked.{Looks, looks_of, has_set, is_in_no_set, is_linked_message, is_linked_port, is_live_place, is_live_target, is_set, replies_well, stands_well, travels_well}
use Rattle.snapshot_loading.specs.LinkLaws.{AreWell, AreTight, both_hold, first_holds, second_holds, names_there, one_part, two_parts, some_entry, some_of, true_of, isnt, is_not, found_any, parts_true}

-- a right with the weight of a receive right is one

one_of : (what : RightKind) (serial other : ℕ) → 1 ≤ receive_of serial what other → (same_kind what kind.Receive ≡ true)
    × (other ≡ serial)
one_of what serial other weighs =
    elim (same_kind what kind.Receive)
    as (λ (a : Bool). 1 ≤ cond (a && other == serial) 1 0 → (a ≡ true) × (other ≡ serial)) [
      | true ↦ λ (w : _). (
        refl,
        elim (other == serial) as (λ (b : Bool). (other == serial) ≡ b → 1 ≤ cond b 1 0 → other ≡ serial) [
          | true ↦ λ (is : _) (_ : _). number_same other serial is
          | false ↦ λ (_ : _) (none : _). absurd (omega (arith, none))
        ] refl w,
      )
      | false ↦ λ (none : _). absurd (omega (arith, none))
    ] weighs

own_receive : (serial : ℕ) → receive_of serial kind.Receive serial ≡ 1
own_receive serial = ap {B = ℕ} (λ (b : Bool). cond b 1 0) (eq-eqb serial serial refl)

pub no_target : (serial : ℕ) (target : Option ℕ) → target_weigh (receive_of serial) target ≡ 0
no_target serial None = refl
no_target serial (Some other) = refl

pub unless_same : (b : Bool) → ◌≡◌ {A = ℕ} (if b then 0 else 0) 0
unless_same true = refl
unless_same false = refl

pub received_weighs : (serial : ℕ) (entry : Entry) → received_port entry ≡ Some serial
    → 1 ≤ entry_weigh (receive_of serial) entry
received_weighs serial (Port rights) is =
    elim rights.receive as (λ (b : Bool). (if b then Some rights.port else None) ≡ Some serial
    → 1 ≤ (if b then receive_of serial kind.Receive rights.port else 0) +
    ((if rights.send == 0 then 0 else receive_of serial kind.Send rights.port) + target_weigh
    (receive_of serial) rights.dead_name_target)) [
      | true ↦ λ (same : _). omega (
        arith,
        own_receive serial,
        ap (λ (s : ℕ). receive_of serial kind.Receive s) (some_same rights.port serial same),
      )
      | false ↦ λ (none : _). absurd (cc none)
    ] is
received_weighs serial (SendOnce port target) is = absurd (cc is)
received_weighs serial Set is = absurd (cc is)
received_weighs serial (Dead references) is = absurd (cc is)

weighs_received : (serial : ℕ) (entry : Entry) → 1 ≤ entry_weigh (receive_of serial) entry
    → received_port entry ≡ Some serial
weighs_received serial (Port rights) weighs =
    elim rights.receive as (λ (b : Bool). 1
    ≤ (if b then receive_of serial kind.Receive rights.port else 0) +
    ((if rights.send == 0 then 0 else receive_of serial kind.Send rights.port) + target_weigh
    (receive_of serial) rights.dead_name_target)
    → (if b then Some rights.port else None) ≡ Some serial) [
      | true ↦ λ (w : _). ap (λ (n : ℕ). Some n)
          (one_of kind.Receive serial rights.port
          (omega (arith, w, unless_same (rights.send == 0), no_target serial rights.dead_name_target))).1
      | false ↦ λ (w : _). absurd (omega
          (arith, w, unless_same (rights.send == 0), no_target serial rights.dead_name_target))
    ] weighs
weighs_received serial (SendOnce port target) weighs = absurd (omega (arith, weighs, no_target serial target))
weighs_received serial Set weighs = absurd (omega (arith, weighs))
weighs_received serial (Dead references) weighs = absurd (omega (arith, weighs))

pub no_receive : (what : RightKind) (serial other : ℕ) → what ≢ kind.Receive → receive_of serial what other ≡ 0
no_receive kind.Receive serial other isnt = absurd (isnt refl)
no_receive kind.Send serial other isnt = refl
no_receive kind.SendOnce serial other isnt = refl

pub no_reply : (serial : ℕ) (reply : Option CarriedRight) → LawfulReply reply
    → reply_weigh (receive_of serial) reply ≡ 0
no_reply serial None lawful = refl
no_reply serial (Some right) lawful =
    elim right.port as (λ (p : PortInMessage). place_weigh (receive_of serial) right.kind p ≡ 0) [
      | Null ↦ refl
      | in_message.Dead ↦ refl
      | Live other ↦ no_receive right.kind serial other lawful
    ]

-- The rights of a port's messages, if the messages are lawful.
both_all : {A : Type 0} (P Q : A → Type 0) (xs : List A) → All P xs → All Q xs → All (λ x. P x × Q x) xs
both_all P Q xs p q = λ k d less. (p k d less, q k d less)

-- a port whose receive right is in a message is in no set
travelling : (looks : Looks) (serial : ℕ) (right : CarriedRight) → travels_well looks right ≡ true
    → 1 ≤ carried_weigh (receive_of serial) right → is_some (looks.set_of serial) ≡ false
travelling looks serial right travels weighs =
    elim right.port as (λ (p : PortInMessage). (is_live_place looks p && is_in_no_set looks right.kind p) ≡ true
    → 1 ≤ place_weigh (receive_of serial) right.kind p → is_some (looks.set_of serial) ≡ false) [
      | Null ↦ λ (_ : _) (none : _). absurd (omega (arith, none))
      | in_message.Dead ↦ λ (_ : _) (none : _). absurd (omega (arith, none))
      | Live other ↦ λ (well : _) (one : _).
          let is = one_of right.kind serial other one in
          let unset : (not (same_kind right.kind kind.Receive) || not (is_some (looks.set_of other))) ≡ true =
          second_holds (looks.lives other) _ well in
          subst (λ (s : ℕ). is_some (looks.set_of s) ≡ false) is.1
          (isnt (is_some (looks.set_of other))
          (sym (ap (λ (b : Bool). not b || not (is_some (looks.set_of other))) is.0) ∙ unset))
    ] travels weighs

in_queue : (looks : Looks) (serial queue : ℕ) (port : PortState) → is_linked_port looks port ≡ true
    → All LawfulMessage port.messages → 1 ≤ port_weigh (receive_of serial) queue port
    → is_some (looks.set_of serial) ≡ false
in_queue looks serial queue port linked lawful weighs =
    let messages : list_all (is_linked_message looks) port.messages ≡ true =
    second_holds (is_live_target looks port.port_destroyed_target) _
    (second_holds (is_live_target looks port.no_senders_target) _ linked) in
    let found =
    some_of (message_weigh (receive_of serial) queue)
    (λ (m : Message). (is_linked_message looks m ≡ true) × LawfulMessage m) port.messages
    (both_all (λ (m : Message). is_linked_message looks m ≡ true) LawfulMessage port.messages
    (true_of (is_linked_message looks) port.messages messages) lawful)
    (omega (arith, weighs, no_target serial port.no_senders_target, no_target serial port.port_destroyed_target)) in
    let message : Message = found.0 in
    let right =
    some_of (carried_weigh (receive_of serial)) (λ (r : CarriedRight). travels_well looks r ≡ true) message.rights
    (true_of (travels_well looks) message.rights (second_holds (replies_well looks message.reply) _ found.2.0))
    (omega (
      arith,
      found.1,
      no_receive message.destination serial queue found.2.1.destination,
      no_reply serial message.reply found.2.1.reply,
    )) in
    travelling looks serial right.0 right.2 right.1

set_there : (o : Option Entry) → is_set o ≡ true → o ≡ Some Set
set_there None e = absurd (cc e)
set_there (Some (Port rights)) e = absurd (cc e)
set_there (Some (SendOnce port target)) e = absurd (cc e)
set_there (Some Set) e = refl
set_there (Some (Dead references)) e = absurd (cc e)

module _ (state : Ipc) where
  abbrev seen : Looks
  seen = looks_of state

  parted : (w : Weight) → state_weigh w state ≡ total
      (λ space names. names_weigh w names) state.spaces + total (port_weigh w) state.ports
  unfolding state_weigh
  parted w = refl

  -- the set of a held port is in the space
  alongside : (space name serial set : ℕ) (entry : Entry) → stands_well seen space name entry ≡ true
      → received_port entry ≡ Some serial → seen.set_of serial ≡ Some set
      → is_set (get (names_in state space) set) ≡ true
  alongside space name serial set (Port rights) stands receives in_set =
      elim rights.receive as (λ (b : Bool). (if b then Some rights.port else None) ≡ Some serial
      → (not b || has_set seen space (seen.set_of rights.port)) ≡ true
      → is_set (get (names_in state space) set) ≡ true) [
        | true ↦ λ (is : _) (has : _). sym
            (ap (has_set seen space) (ap seen.set_of (some_same rights.port serial is) ∙ in_set)) ∙ has
        | false ↦ λ (none : _) (_ : _). absurd (cc none)
      ] receives (second_holds (not (stands_elsewhere (names_in state space) name rights.port)) _
      (second_holds (is_live_target seen rights.dead_name_target) _ (second_holds (lives state rights.port) _ stands)))
  alongside space name serial set (SendOnce port target) stands receives in_set = absurd (cc receives)
  alongside space name serial set Set stands receives in_set = absurd (cc receives)
  alongside space name serial set (Dead references) stands receives in_set = absurd (cc receives)

  pub sets_alongside : AreWell state → AreTight state
      → ((serial : ℕ) (port : PortState) → get state.ports serial ≡ Some port → All LawfulMessage port.messages)
      → (serial set : ℕ) (port : PortState) → get state.ports serial ≡ Some port → port.set ≡ Some set
      → 1 ≤ state_weigh (receive_of serial) state → IsHeldAlongsideSet state serial set
  sets_alongside well tight messages serial set port there in_set weighs =
      let in_set_of : seen.set_of serial ≡ Some set = ap (option_and_then (λ (p : PortState). p.set)) there ∙ in_set in
      elim (total (λ space names. names_weigh (receive_of serial) names) state.spaces)
      as (λ (n : ℕ). total (λ space names. names_weigh (receive_of serial) names) state.spaces ≡ n
      → IsHeldAlongsideSet state serial set) [
        | zero ↦ λ (none : _).
            let queue =
            some_entry (port_weigh (receive_of serial)) state.ports
            (omega (arith, none, weighs, parted (receive_of serial))) in
            absurd (cc (sym (ap is_some in_set_of)
            ∙ in_queue seen serial queue.0 queue.1 (tight queue.0 queue.1 queue.2)
            (messages queue.0 queue.1 queue.2) queue.3))
        | suc n ↦ λ (some : _).
            let space =
            some_entry (λ space names. names_weigh (receive_of serial) names) state.spaces (omega (arith, some)) in
            let name = some_entry (λ name entry. entry_weigh (receive_of serial) entry) space.1 space.3 in
            let receives : received_port name.1 ≡ Some serial = weighs_received serial name.1 name.3 in (
              space.0,
              space.1,
              name.0,
              name.1,
              space.2,
              name.2,
              receives,
              set_there (get space.1 set) (subst
                  (λ (n : Names). is_set (get n set) ≡ true) (names_there state space.0 space.1 space.2)
                  (alongside space.0 name.0 serial set name.1
                  (well space.0 name.0 space.1 name.1 space.2 name.2) receives in_set_of)),
            )
      ] refl

  -- Conversely, the rows of a lawful state are linked.

  module _ (lawful : Lawful state) where
    live_of : (q : ℕ) → 1 ≤ state_weigh (any_of q) state → lives state q ≡ true
    live_of q weighs = elim (lives state q) as (λ (b : Bool). lives state q ≡ b → b ≡ true) [
      | true ↦ λ (_ : _). refl
      | false ↦ λ (dead : _). absurd (omega (arith, weighs, dangles_none state [] (at_rest state lawful) q dead))
    ] refl

    target_live : (target : Option ℕ) → ((w : Weight) → target_weigh w target ≤ state_weigh w state)
        → is_live_target seen target ≡ true
    target_live None part = refl
    target_live (Some serial) part =
        live_of serial (omega (arith, part (any_of serial), own_weight serial kind.SendOnce))

    place_live : (what : RightKind) (port : PortInMessage)
        → ((w : Weight) → place_weigh w what port ≤ state_weigh w state) → is_live_place seen port ≡ true
    place_live what Null part = refl
    place_live what in_message.Dead part = refl
    place_live what (Live serial) part = live_of serial (omega (arith, part (any_of serial), own_weight serial what))

    one_right : (serial : ℕ) → lives state serial ≡ true
        → total (λ space names. names_weigh (receive_of serial) names) state.spaces + total
        (port_weigh (receive_of serial)) state.ports ≡ 1
    one_right serial live =
        omega (
          arith,
          (at_rest state lawful).one_receive serial live,
          count-receive state [] serial,
          parted (receive_of serial),
        )

    -- a port whose receive right a name holds, and its set
    set_of_received : (space name serial : ℕ) (names : Names) (entry : Entry) → get state.spaces space ≡ Some names
        → get names name ≡ Some entry → received_port entry ≡ Some serial → lives state serial ≡ true
        → has_set seen space (seen.set_of serial) ≡ true
    set_of_received space name serial names entry there at receives live =
        elim (get state.ports serial) as (λ (o : Option PortState). get state.ports serial ≡ o
        → has_set seen space (option_and_then (λ (port : PortState). port.set) o) ≡ true) [
          | None ↦ λ (_ : _). refl
          | Some port ↦ λ (is : _). elim port.set as (λ (s : Option ℕ). port.set ≡ s → has_set seen space s ≡ true) [
            | None ↦ λ (_ : _). refl
            | Some set ↦ λ (in_set : _).
                let held = lawful.sets serial set port is in_set in
                let held_names : Names = held.1 in
                let weighs : (k : ℕ) (n : Names) (m : ℕ) (e : Entry) → get n m ≡ Some e → received_port e ≡ Some serial
                → 1 ≤ names_weigh (receive_of serial) n = λ k n m e at_name receives_it.
                omega (
                  arith,
                  one_part (λ name entry. entry_weigh (receive_of serial) entry) n m e at_name,
                  received_weighs serial e receives_it,
                ) in
                elim (number_decided space held.0) as (λ _. is_set (get (names_in state space) set) ≡ true) [
                  | inl apart ↦ absurd (omega (
                    arith,
                    one_right serial live,
                    two_parts (λ space names. names_weigh (receive_of serial) names) state.spaces space held.0 names
                        held_names apart there held.4,
                    weighs space names name entry at receives,
                    weighs held.0 held_names held.2 held.3 held.5 held.6,
                  ))
                  | inr same ↦ ap is_set (ap (λ (n : Names). get n set)
                      (ap (names_in state) same ∙ names_there state held.0 held_names held.4) ∙ held.7)
                ]
          ] refl
        ] refl

    received_of : (rights : PortRights) → rights.receive ≡ true → received_port (Port rights) ≡ Some rights.port
    received_of rights receives = ap (λ (b : Bool). if b then Some rights.port else None) receives

    or_right : (a b : Bool) → (a ≡ true → b ≡ true) → (not a || b) ≡ true
    or_right true b so = so refl
    or_right false b so = refl

    alone : (space name : ℕ) (names : Names) (rights : PortRights) → get state.spaces space ≡ Some names
        → get names name ≡ Some (Port rights) → stands_elsewhere (names_in state space) name rights.port ≡ false
    alone space name names rights there at =
        subst (λ (n : Names). stands_elsewhere n name rights.port ≡ false) (sym (names_there state space names there))
        (elim (stands_elsewhere names name rights.port)
        as (λ (b : Bool). stands_elsewhere names name rights.port ≡ b → b ≡ false) [
          | false ↦ λ (_ : _). refl
          | true ↦ λ (is : _).
              let found =
              found_any (λ (e : ℕ × Entry). is_number (port_held e.1) rights.port && not (e.0 == name)) (entries names)
              (entries_sorted names) is in
              let holds : port_held found.1 ≡ Some rights.port =
              number_held (port_held found.1) rights.port
              (first_holds (is_number (port_held found.1) rights.port) _ found.3) in
              let same : found.0 ≡ name =
              (lawful.spaces space names there).2.one_name found.0 name rights.port found.1 (Port rights)
              (get-entries names found.0 ∙ found.2) at holds refl in
              absurd (cc (sym (eq-eqb found.0 name same)
              ∙ isnt (found.0 == name) (second_holds (is_number (port_held found.1) rights.port) _ found.3)))
        ] refl)
      where
        number_held : (o : Option ℕ) (serial : ℕ) → is_number o serial ≡ true → o ≡ Some serial
        number_held None serial e = absurd (cc e)
        number_held (Some m) serial e = ap (λ (n : ℕ). Some n) (number_same m serial e)

    stands : (space name : ℕ) (names : Names) (entry : Entry) → get state.spaces space ≡ Some names
        → get names name ≡ Some entry → stands_well seen space name entry ≡ true
    stands space name names (Port rights) there at =
        let own = (lawful.spaces space names there).2.named name (Port rights) at in
        let part : (w : Weight) → entry_weigh w (Port rights) ≤ state_weigh w state =
        λ w. entry_part w state space name names (Port rights) there at in
        let live : lives state rights.port ≡ true =
        live_of rights.port (omega (
          arith,
          part (any_of rights.port),
          held_weighs rights.port (Port rights) own.2 refl,
        )) in
        both_hold (lives state rights.port) _ live
        (both_hold (is_live_target seen rights.dead_name_target) _
        (target_live rights.dead_name_target (λ w. omega (arith, part w)))
        (both_hold (not (stands_elsewhere (names_in state space) name rights.port)) _
        (is_not (stands_elsewhere (names_in state space) name rights.port) (alone space name names rights there at))
        (or_right rights.receive (has_set seen space (seen.set_of rights.port))
        (λ receives. set_of_received space name rights.port names (Port rights) there at
        (received_of rights receives) live))))
    stands space name names (SendOnce port target) there at =
        let part : (w : Weight) → entry_weigh w (SendOnce port target) ≤ state_weigh w state =
        λ w. entry_part w state space name names (SendOnce port target) there at in
        both_hold (lives state port) _ (live_of port (omega (arith, part (any_of port), own_weight port kind.SendOnce)))
        (target_live target (λ w. omega (arith, part w)))
    stands space name names Set there at = refl
    stands space name names (Dead references) there at = refl

    pub lawful_well : AreWell state
    lawful_well space name names entry there at = stands space name names entry there at

    -- the port of a carried receive right is in no set, since otherwise its space would hold the right too
    in_no_set : (what : RightKind) (serial : ℕ) → ((w : Weight) → w what serial ≤ total (port_weigh w) state.ports)
        → (not (same_kind what kind.Receive) || not (is_some (seen.set_of serial))) ≡ true
    in_no_set kind.Send serial part = refl
    in_no_set kind.SendOnce serial part = refl
    in_no_set kind.Receive serial part =
        elim (get state.ports serial) as (λ (o : Option PortState). get state.ports serial ≡ o
        → not (is_some (option_and_then (λ (port : PortState). port.set) o)) ≡ true) [
          | None ↦ λ (_ : _). refl
          | Some port ↦ λ (is : _). elim port.set as (λ (s : Option ℕ). port.set ≡ s → not (is_some s) ≡ true) [
            | None ↦ λ (_ : _). refl
            | Some set ↦ λ (in_set : _).
                let held = lawful.sets serial set port is in_set in
                absurd (omega (
                  arith,
                  one_right serial (ap is_some is),
                  part (receive_of serial),
                  own_receive serial,
                  one_part (λ space names. names_weigh (receive_of serial) names) state.spaces held.0 held.1 held.4,
                  one_part (λ name entry. entry_weigh (receive_of serial) entry) held.1 held.2 held.3 held.5,
                  received_weighs serial held.3 held.6,
                ))
          ] refl
        ] refl

    abbrev in_ports : Weight → ℕ
    in_ports w = total (port_weigh w) state.ports

    whole : (w : Weight) (n : ℕ) → n ≤ in_ports w → n ≤ state_weigh w state
    whole w n part = omega (arith, part, parted w)

    right_travels : (right : CarriedRight) → ((w : Weight) → carried_weigh w right ≤ in_ports w)
        → travels_well seen right ≡ true
    right_travels right part =
        elim right.port as (λ (p : PortInMessage). ((w : Weight) → place_weigh w right.kind p ≤ in_ports w)
        → (is_live_place seen p && is_in_no_set seen right.kind p) ≡ true) [
          | Null ↦ λ (_ : _). refl
          | in_message.Dead ↦ λ (_ : _). refl
          | Live serial ↦ λ (within : _). both_hold (lives state serial) _
              (place_live right.kind (Live serial) (λ w. whole w (w right.kind serial) (within w)))
              (in_no_set right.kind serial within)
        ] part

    reply_live : (reply : Option CarriedRight) → ((w : Weight) → reply_weigh w reply ≤ in_ports w)
        → replies_well seen reply ≡ true
    reply_live None part = refl
    reply_live (Some right) part =
        place_live right.kind right.port (λ w. whole w (place_weigh w right.kind right.port) (part w))

    message_linked : (queue : ℕ) (message : Message) → ((w : Weight) → message_weigh w queue message ≤ in_ports w)
        → is_linked_message seen message ≡ true
    message_linked queue message part =
        both_hold (replies_well seen message.reply) _ (reply_live message.reply (λ w. omega (arith, part w)))
        (parts_true carried_weigh (travels_well seen) in_ports message.rights right_travels
        (λ w. omega (arith, part w)))

    pub lawful_tight : AreTight state
    lawful_tight serial port there =
        let part : (w : Weight) → port_weigh w serial port ≤ in_ports w =
        λ w. one_part (port_weigh w) state.ports serial port there in
        both_hold (is_live_target seen port.no_senders_target) _
        (target_live port.no_senders_target
        (λ w. whole w (target_weigh w port.no_senders_target) (omega (arith, part w))))
        (both_hold (is_live_target seen port.port_destroyed_target) _
        (target_live port.port_destroyed_target
        (λ w. whole w (target_weigh w port.port_destroyed_target) (omega (arith, part w))))
        (parts_true (λ w. message_weigh w serial) (is_linked_message seen) in_ports port.messages
        (message_linked serial) (λ w. omega (arith, part w))))
