-- If a receive finds no message before a step that doesn't report its place, it finds none after the step.
use Rattle.std.proofs.Common.{◌≡◌, inl, inr, ℕ, Bool, true, false, cond, List, [], ◌∷◌, length, Option, None, Some, is_some, option_map, option_and_then, ◌==◌, refl, sym, ◌∙◌, ap, subst, arith}
use Rattle.std.proofs.lemmas.Bool.{eqb-true}
use Rattle.std.proofs.lemmas.Bool.Decides.{nat_tests}
use Rattle.std.specs.Prelude.{if◌then◌else◌, map, filter, T}
use Rattle.std.specs.Ordering.{nat_cmp, eq_by_cmp}
use Rattle.std.specs.FinMap as finmap
use Rattle.std.specs.FinMap.{entries_sorted, find, get-entries, is_sorted}
use Rattle.std.specs.FinMap.Entries.{below_all}
use Rattle.codes.specs.declared.kern_return.KernReturn.TheVariants.{RcvInvalidName, RcvTimedOut, RcvPortChanged, RcvPortDied, RcvInSet}
use Rattle.ipc_laws.specs.Dangling.{later_found, front_of, back_of}
use Rattle.ipc_laws.specs.ListLaws.{some_same}
use Rattle.ipc_laws.specs.MapSums.{key_is, same_key}
use Rattle.ipc_model.specs.declared.entry.Entry.{Entry}
use Rattle.ipc_model.specs.declared.entry.Entry.TheVariants.{Port, SendOnce, Set, Dead}
use Rattle.ipc_model.specs.declared.message.Message.{Message}
use Rattle.ipc_model.specs.declared.port.PortState.{PortState}
use Rattle.ipc_model.specs.messages.Receiving.{ReceiveArguments, all_empty, is_in_set, oldest, oldest_under, port_under, receive_refusal, refusal_of_sources, sources, sources_of_port}
use Rattle.ipc_model.specs.state.Ipc.{Ipc, Names, entry_at, is_member, is_number, members_of, received_port}
use Rattle.waiting.specs.Places.{place_of_name}
use Rattle.waiting.specs.Waiting.{Covers, IsQuiet, Occupancy, occupancy}

-- a port is dead, or has no message and isn't in a set
abbrev IsIdle : Option PortState → Type 0
IsIdle None = Unit {0}
IsIdle (Some port) = (is_some port.set ≡ false) × (is_some (oldest port.messages) ≡ false)

none_oldest : (messages : List Message) → is_some (oldest messages) ≡ false → messages ≡ []
none_oldest [] none = refl
none_oldest (m ∷ ms) none = absurd (cc none)

none_held : (messages : List Message) → length messages ≡ 0 → is_some (oldest messages) ≡ false
none_held [] none = refl
none_held (m ∷ ms) none = absurd (omega (arith, none))

-- a live port with the same set as this one and as many messages
record Occupied (o : Option PortState) (port : PortState) : Type 0 where
  before : PortState
  there : o ≡ Some before
  set : before.set ≡ port.set
  held : length before.messages ≡ length port.messages

occupied : (o : Option PortState) (port : PortState) → option_map occupancy o ≡ Some (occupancy port) → Occupied o port
occupied None port is = absurd (cc is)
occupied (Some before) port is =
    let same : occupancy before ≡ occupancy port = some_same (occupancy before) (occupancy port) is in
    record {
      before = before;
      there = refl;
      set = ap (λ (q : Occupancy). q.set) same;
      held = ap (λ (q : Occupancy). q.held) same;
    }

-- the space exists, and the name has this entry
pub record Stands (o : Option Names) (name : ℕ) (entry : Entry) : Type 0 where
  pub names : Names
  pub there : o ≡ Some names
  pub named : finmap.get names name ≡ Some entry

pub stands : (o : Option Names) (name : ℕ) (entry : Entry)
    → option_and_then (λ (names : Names). finmap.get names name) o ≡ Some entry → Stands o name entry
stands None name entry is = absurd (cc is)
stands (Some names) name entry is = record { names = names; there = refl; named = is }

-- the port of the entry that holds its receive right
under : (state : Ipc) (names : Names) (name serial : ℕ) (entry : Entry) → finmap.get names name ≡ Some entry
    → received_port entry ≡ Some serial → port_under state names name ≡ finmap.get state.ports serial
under state names name serial entry at holds =
    ap (λ (o : Option Entry). option_and_then (λ (s : ℕ). finmap.get state.ports s) (option_and_then received_port o))
    at
    ∙ ap (λ (o : Option ℕ). option_and_then (λ (s : ℕ). finmap.get state.ports s) o) holds

-- the code of a receive from a name with these sources
code_of : (state : Ipc) (names : Names) (arguments : ReceiveArguments) (entry : Entry) (among : Option (List ℕ))
    → finmap.get names arguments.name ≡ Some entry → sources state names arguments.name (Some entry) ≡ among
    → receive_refusal state names arguments ≡ refusal_of_sources state names arguments among
code_of state names arguments entry among at is =
    ap (λ (o : Option Entry). refusal_of_sources state names arguments (sources state names arguments.name o)) at
    ∙ ap (refusal_of_sources state names arguments) is

no_source : (state : Ipc) (names : Names) (arguments : ReceiveArguments) (P : Type 0)
    → refusal_of_sources state names arguments None ≡ Some RcvTimedOut → P
no_source state names arguments P is =
    elim arguments.waited as (λ (b : Bool). Some (if b then RcvPortDied else RcvInvalidName) ≡ Some RcvTimedOut → P) [
      | true ↦ λ (e : _). absurd (cc e)
      | false ↦ λ (e : _). absurd (cc e)
    ] is

-- the sources of a receive that finds no message
sources_empty : (state : Ipc) (names : Names) (arguments : ReceiveArguments) (among : List ℕ)
    → refusal_of_sources state names arguments (Some among) ≡ Some RcvTimedOut
    → (is_in_set state names arguments.name ≡ false) × (all_empty state names among ≡ true)
sources_empty state names arguments among is =
    go (is_in_set state names arguments.name) refl (all_empty state names among) refl is
  where
    go : (b : Bool) → is_in_set state names arguments.name ≡ b → (e : Bool) → all_empty state names among ≡ e
        → (if b then Some (if arguments.waited then RcvPortChanged else RcvInSet) else if e then Some RcvTimedOut
        else None) ≡ Some RcvTimedOut → (is_in_set state names arguments.name ≡ false)
        × (all_empty state names among ≡ true)
    go true within e empty code =
        elim arguments.waited as (λ (w : Bool). Some (if w then RcvPortChanged else RcvInSet) ≡ Some RcvTimedOut
        → (is_in_set state names arguments.name ≡ false) × (all_empty state names among ≡ true)) [
          | true ↦ λ (c : _). absurd (cc c)
          | false ↦ λ (c : _). absurd (cc c)
        ] code
    go false within true empty code = (within, empty)
    go false within false empty code = absurd (cc code)

empty_sources : (state : Ipc) (names : Names) (arguments : ReceiveArguments) (among : List ℕ)
    → is_in_set state names arguments.name ≡ false → all_empty state names among ≡ true
    → refusal_of_sources state names arguments (Some among) ≡ Some RcvTimedOut
empty_sources state names arguments among outside empty =
    ap (λ (b : Bool). if b then Some (if arguments.waited then RcvPortChanged else RcvInSet)
    else if all_empty state names among then Some RcvTimedOut else None) outside
    ∙ ap (λ (b : Bool). if b then Some RcvTimedOut else None) empty

module _ (old new : Ipc) (named : ℕ → Bool) (covers : Covers old new named) (space : ℕ) where
  -- the port of a name whose place isn't reported
  still_idle : (name serial : ℕ) (entry : Entry) → named (place_of_name space name) ≡ false
      → entry_at new space name ≡ Some entry → received_port entry ≡ Some serial → IsIdle (finmap.get old.ports serial)
      → IsIdle (finmap.get new.ports serial)
  still_idle name serial entry off at holds idle = go (finmap.get new.ports serial) refl
    where
      quiet : (port : PortState) → IsQuiet port → IsIdle (Some port)
      quiet port is = (ap is_some is.0, ap (λ (ms : List Message). is_some (oldest ms)) is.1)

      same : (port : PortState) (before : Occupied (finmap.get old.ports serial) port) → IsIdle (Some port)
      same port before =
          let was : IsIdle (Some before.before) = subst IsIdle before.there idle in (
            ap is_some (sym before.set) ∙ was.0,
            none_held port.messages (sym before.held ∙ ap length (none_oldest before.before.messages was.1)),
          )

      go : (o : Option PortState) → finmap.get new.ports serial ≡ o → IsIdle o
      go None there = tt
      go (Some port) there =
          elim (covers.ports space name entry serial port off at holds there) as (λ _. IsIdle (Some port)) [
            | inl is ↦ quiet port is
            | inr is ↦ same port (occupied (finmap.get old.ports serial) port (is ∙ ap (option_map occupancy) there))
          ]

  -- a name with the receive right of a port
  port_case : (names : Names) (arguments : ReceiveArguments) (entry : Entry) (serial : ℕ)
      → finmap.get old.spaces space ≡ Some names → finmap.get names arguments.name ≡ Some entry
      → received_port entry ≡ Some serial
      → ((state : Ipc) (n : Names) → sources state n arguments.name (Some entry) ≡ Some (arguments.name ∷ []))
      → named (place_of_name space arguments.name) ≡ false
      → receive_refusal old names arguments ≡ Some RcvTimedOut → (after : Names)
      × (finmap.get new.spaces space ≡ Some after) × (receive_refusal new after arguments ≡ Some RcvTimedOut)
  port_case names arguments entry serial there at holds alone off refused =
      let stood : entry_at old space arguments.name ≡ Some entry =
      ap (option_and_then (λ (n : Names). finmap.get n arguments.name)) there ∙ at in
      let stays : entry_at new space arguments.name ≡ Some entry = covers.entries space arguments.name off ∙ stood in
      let after = stands (finmap.get new.spaces space) arguments.name entry stays in
      let was =
      sources_empty old names arguments (arguments.name ∷ [])
      (sym (code_of old names arguments entry _ at (alone old names)) ∙ refused) in
      let below : port_under old names arguments.name ≡ finmap.get old.ports serial =
      under old names arguments.name serial entry at holds in
      let above : port_under new after.names arguments.name ≡ finmap.get new.ports serial =
      under new after.names arguments.name serial entry after.named holds in
      let idle : IsIdle (finmap.get new.ports serial) =
      still_idle arguments.name serial entry off stays holds
      (was_idle (port_under old names arguments.name) below was.0 was.1) in
      let is = is_idle (port_under new after.names arguments.name) above idle in (
        after.names,
        after.there,
        code_of new after.names arguments entry _ after.named (alone new after.names)
            ∙ empty_sources new after.names arguments (arguments.name ∷ []) is.0 is.1,
      )
    where
      was_idle : (o : Option PortState) → o ≡ finmap.get old.ports serial
          → (elim o as (λ _. Bool) [ None ↦ false | Some port ↦ is_some port.set ]) ≡ false
          → (if is_some (option_and_then (λ (port : PortState). oldest port.messages) o) then false else true) ≡ true
          → IsIdle (finmap.get old.ports serial)
      was_idle None is set empty = subst IsIdle is tt
      was_idle (Some port) is set empty = subst IsIdle is (set, off_of (is_some (oldest port.messages)) empty)
        where
          off_of : (b : Bool) → (if b then false else true) ≡ true → b ≡ false
          off_of true e = absurd (cc e)
          off_of false e = refl

      is_idle : (o : Option PortState) → o ≡ finmap.get new.ports serial → IsIdle (finmap.get new.ports serial)
          → ((elim o as (λ _. Bool) [ None ↦ false | Some port ↦ is_some port.set ]) ≡ false)
          × ((if is_some (option_and_then (λ (port : PortState). oldest port.messages) o) then false else true) ≡ true)
      is_idle None is idle = (refl, refl)
      is_idle (Some port) is idle =
          let both : IsIdle (Some port) = subst IsIdle (sym is) idle in
          (both.0, ap (λ (b : Bool). if b then false else true) both.1)

  -- The members of a set.

  -- the port of a member
  record IsIn (state : Ipc) (set : ℕ) (entry : Entry) : Type 0 where
    serial : ℕ
    port : PortState
    holds : received_port entry ≡ Some serial
    there : finmap.get state.ports serial ≡ Some port
    within : port.set ≡ Some set

  is_in : (state : Ipc) (set : ℕ) (entry : Entry) → is_member state set entry ≡ true → IsIn state set entry
  is_in state set entry member = go (received_port entry) refl member
    where
      number : (o : Option ℕ) → is_number o set ≡ true → o ≡ Some set
      number None e = absurd (cc e)
      number (Some m) e = ap (λ (k : ℕ). Some k) (eqb-true m set e)

      by_port : (serial : ℕ) → received_port entry ≡ Some serial → (p : Option PortState)
          → finmap.get state.ports serial ≡ p
          → (elim p as (λ _. Bool) [ None ↦ false | Some port ↦ is_number port.set set ]) ≡ true → IsIn state set entry
      by_port serial holds None there e = absurd (cc e)
      by_port serial holds (Some port) there e =
          record { serial = serial; port = port; holds = holds; there = there; within = number port.set e }

      go : (o : Option ℕ) → received_port entry ≡ o
          → (elim (option_and_then (λ serial. finmap.get state.ports serial) o) as (λ _. Bool)
          [ None ↦ false | Some port ↦ is_number port.set set ]) ≡ true → IsIn state set entry
      go None holds e = absurd (cc e)
      go (Some serial) holds e = by_port serial holds (finmap.get state.ports serial) refl e

  in_is : (state : Ipc) (set : ℕ) (entry : Entry) → IsIn state set entry → is_member state set entry ≡ true
  in_is state set entry is =
      ap (λ (o : Option ℕ). elim (option_and_then (λ (serial : ℕ). finmap.get state.ports serial) o) as (λ _. Bool)
      [ None ↦ false | Some port ↦ is_number port.set set ]) is.holds
      ∙ ap (λ (p : Option PortState). elim p as (λ _. Bool) [ None ↦ false | Some port ↦ is_number port.set set ])
      is.there
      ∙ ap (λ (s : Option ℕ). is_number s set) is.within ∙ number_itself set
    where
      number_itself : (n : ℕ) → (n == n) ≡ true
      number_itself n = grind (arith, nat_tests)

  -- the names of the set's members among these entries
  abbrev members_among : Ipc → ℕ → List (ℕ × Entry) → List ℕ
  members_among state set es = map (λ e. e.0) (filter (λ e. is_member state set e.1) es)

  -- all members have no message exactly if each has none
  each_empty : (state : Ipc) (names : Names) (set : ℕ) (es : List (ℕ × Entry)) → T (is_sorted nat_cmp es)
      → ((name : ℕ) (entry : Entry) → find nat_cmp name es ≡ Some entry → is_member state set entry ≡ true
      → is_some (oldest_under state names name) ≡ false)
      → all_empty state names (members_among state set es) ≡ true
  each_empty state names set [] sorted each = refl
  each_empty state names set (e ∷ es) sorted each =
      go (each_empty state names set es (back_of (below_all nat_cmp e.0 es) (is_sorted nat_cmp es) sorted)
      (λ name entry at. each name entry
      (later_found name entry e es (front_of (below_all nat_cmp e.0 es) (is_sorted nat_cmp es) sorted) at)))
      (is_member state set e.1) refl
    where
      first : find nat_cmp e.0 (e ∷ es) ≡ Some e.1
      first = ap (λ (b : Bool). cond b (Some e.1) (find nat_cmp e.0 es)) (same_key e.0)

      go : all_empty state names (members_among state set es) ≡ true → (b : Bool) → is_member state set e.1 ≡ b
          → all_empty state names (map (λ e. e.0)
          (cond b (e ∷ filter (λ e. is_member state set e.1) es) (filter (λ e. is_member state set e.1) es))) ≡ true
      go rest true member =
          ap (λ (b : Bool). if b then false else all_empty state names (members_among state set es))
          (each e.0 e.1 first member) ∙ rest
      go rest false _ = rest

  empty_each : (state : Ipc) (names : Names) (set : ℕ) (es : List (ℕ × Entry))
      → all_empty state names (members_among state set es) ≡ true
      → (name : ℕ) (entry : Entry) → find nat_cmp name es ≡ Some entry → is_member state set entry ≡ true
      → is_some (oldest_under state names name) ≡ false
  empty_each state names set [] empty name entry at member = absurd (cc at)
  empty_each state names set (e ∷ es) empty name entry at member =
      go (λ rest there. empty_each state names set es rest name entry there member) (is_member state set e.1) refl empty
      (eq_by_cmp nat_cmp name e.0) refl at
    where
      head : (b : Bool) → is_some (oldest_under state names e.0) ≡ b
          → (if b then false else all_empty state names (members_among state set es)) ≡ true → (b ≡ false)
          × (all_empty state names (members_among state set es) ≡ true)
      head true _ e = absurd (cc e)
      head false _ e = (refl, e)

      parts : is_member state set e.1 ≡ true → (is_some (oldest_under state names e.0) ≡ false)
          × (all_empty state names (members_among state set es) ≡ true)
      parts is =
          head (is_some (oldest_under state names e.0)) refl
          (sym (ap (λ (b : Bool). all_empty state names
          (map (λ e. e.0) (cond b (e ∷ filter (λ e. is_member state set e.1) es)
          (filter (λ e. is_member state set e.1) es)))) is) ∙ empty)

      go : (all_empty state names (members_among state set es) ≡ true → find nat_cmp name es ≡ Some entry
          → is_some (oldest_under state names name) ≡ false)
          → (b : Bool) → is_member state set e.1 ≡ b
          → all_empty state names (map (λ e. e.0)
          (cond b (e ∷ filter (λ e. is_member state set e.1) es) (filter (λ e. is_member state set e.1) es))) ≡ true
          → (k : Bool) → eq_by_cmp nat_cmp name e.0 ≡ k → cond k (Some e.1) (find nat_cmp name es) ≡ Some entry
          → is_some (oldest_under state names name) ≡ false
      go later b is all true same at =
          let one : e.1 ≡ entry = some_same e.1 entry at in
          ap (λ (n : ℕ). is_some (oldest_under state names n)) (key_is name e.0 same)
          ∙ (parts (ap (is_member state set) one ∙ member)).0
      go later true is all false other at = later (parts is).1 at
      go later false is all false other at = later all at

  -- a set
  set_case : (names : Names) (arguments : ReceiveArguments) → finmap.get old.spaces space ≡ Some names
      → finmap.get names arguments.name ≡ Some Set → named (place_of_name space arguments.name) ≡ false
      → receive_refusal old names arguments ≡ Some RcvTimedOut → (after : Names)
      × (finmap.get new.spaces space ≡ Some after) × (receive_refusal new after arguments ≡ Some RcvTimedOut)
  set_case names arguments there at off refused =
      let stood : entry_at old space arguments.name ≡ Some Set =
      ap (option_and_then (λ (n : Names). finmap.get n arguments.name)) there ∙ at in
      let stays : entry_at new space arguments.name ≡ Some Set = covers.entries space arguments.name off ∙ stood in
      let after = stands (finmap.get new.spaces space) arguments.name Set stays in
      let was =
      sources_empty old names arguments (members_of old names arguments.name)
      (sym (code_of old names arguments Set _ at refl) ∙ refused) in
      let outside : is_in_set new after.names arguments.name ≡ false =
      ap (λ (o : Option Entry). elim (option_and_then
      (λ (s : ℕ). finmap.get new.ports s) (option_and_then received_port o)) as (λ _. Bool)
      [ None ↦ false | Some port ↦ is_some port.set ]) after.named in
      let empty : all_empty new after.names (members_of new after.names arguments.name) ≡ true =
      each_empty new after.names arguments.name (finmap.entries after.names) (entries_sorted after.names)
      (λ name entry found member.
      one after.names after.there was.1 name entry (get-entries after.names name ∙ found)
      (is_in new arguments.name entry member)) in (
        after.names,
        after.there,
        code_of new after.names arguments Set _ after.named refl
            ∙ empty_sources new after.names arguments (members_of new after.names arguments.name) outside empty,
      )
    where
      one : (after : Names) → finmap.get new.spaces space ≡ Some after
          → all_empty old names (members_of old names arguments.name) ≡ true → (name : ℕ) (entry : Entry)
          → finmap.get after name ≡ Some entry → IsIn new arguments.name entry
          → is_some (oldest_under new after name) ≡ false
      one after is empty name entry at member =
          let stands_now : entry_at new space name ≡ Some entry =
          ap (option_and_then (λ (n : Names). finmap.get n name)) is ∙ at in
          ap (λ (o : Option PortState). is_some (option_and_then (λ (port : PortState). oldest port.messages) o))
          (under new after name member.serial entry at member.holds ∙ member.there)
          ∙ elim (covers.sets space arguments.name name entry member.serial member.port off stands_now member.holds
          member.there member.within) as (λ _. is_some (oldest member.port.messages) ≡ false) [
            | inl none ↦ ap (λ (ms : List Message). is_some (oldest ms)) none
            | inr same ↦ by_before entry name member
                (occupied (finmap.get old.ports member.serial) member.port
                (same.1 ∙ ap (option_map occupancy) member.there)) same.0
          ]
        where
          by_before : (entry : Entry) (name : ℕ) (member : IsIn new arguments.name entry)
              (before : Occupied (finmap.get old.ports member.serial) member.port)
              → entry_at old space name ≡ Some entry → is_some (oldest member.port.messages) ≡ false
          by_before entry name member before stood =
              let at_names : finmap.get names name ≡ Some entry =
              sym (ap (option_and_then (λ (n : Names). finmap.get n name)) there) ∙ stood in
              let was_member : is_member old arguments.name entry ≡ true =
              in_is old arguments.name entry
              (record {
                serial = member.serial;
                port = before.before;
                holds = member.holds;
                there = before.there;
                within = before.set ∙ member.within;
              }) in
              let none : is_some (oldest_under old names name) ≡ false =
              empty_each old names arguments.name (finmap.entries names) empty name entry
              (sym (get-entries names name) ∙ at_names) was_member in
              let none_there : is_some (oldest before.before.messages) ≡ false =
              sym (ap (λ (o : Option PortState). is_some
              (option_and_then (λ (port : PortState). oldest port.messages) o))
              (under old names name member.serial entry at_names member.holds ∙ before.there)) ∙ none in
              none_held member.port.messages
              (sym before.held ∙ ap length (none_oldest before.before.messages none_there))

  -- A receive that found no message before finds none after the step.
  pub still_none : (names : Names) (arguments : ReceiveArguments) → finmap.get old.spaces space ≡ Some names
      → receive_refusal old names arguments ≡ Some RcvTimedOut → named (place_of_name space arguments.name) ≡ false
      → (after : Names) × (finmap.get new.spaces space ≡ Some after)
      × (receive_refusal new after arguments ≡ Some RcvTimedOut)
  still_none names arguments there refused off = by_entry (finmap.get names arguments.name) refl
    where
      R : Type 0
      R =
          (after : Names) × (finmap.get new.spaces space ≡ Some after)
          × (receive_refusal new after arguments ≡ Some RcvTimedOut)

      nothing : (o : Option Entry) → finmap.get names arguments.name ≡ o → sources old names arguments.name o ≡ None → R
      nothing o at none =
          no_source old names arguments R (sym
          (ap (λ (e : Option Entry). refusal_of_sources old names arguments (sources old names arguments.name e)) at
          ∙ ap (refusal_of_sources old names arguments) none) ∙ refused)

      by_entry : (o : Option Entry) → finmap.get names arguments.name ≡ o → R
      by_entry None at = nothing None at refl
      by_entry (Some (Port rights)) at = by_receive rights.receive refl
        where
          by_receive : (b : Bool) → rights.receive ≡ b → R
          by_receive true is =
              port_case names arguments (Port rights) rights.port there at
              (ap (λ (b : Bool). if b then Some rights.port else None) is)
              (λ _ _. ap (sources_of_port arguments.name) is) off refused
          by_receive false is = nothing (Some (Port rights)) at (ap (sources_of_port arguments.name) is)
      by_entry (Some (SendOnce port target)) at = nothing (Some (SendOnce port target)) at refl
      by_entry (Some Set) at = set_case names arguments there at off refused
      by_entry (Some (Dead references)) at = nothing (Some (Dead references)) at refl
