-- Each change keeps the index of members.
use Rattle.std.proofs.Common.{◌≡◌, ℕ, ◌+◌, ◌^◌, ◌≤◌, nat_lt, arith, ◌<◌, ◌/◌, ◌%◌, ◌==◌, Bool, true, false, cond, Option, None, Some, is_some, option_map, option_and_then, refl, sym, ◌∙◌, ap, subst}
use Rattle.std.proofs.lemmas.Bool.{eqb-true, eq-eqb, ltb-false, ltb-true}
use Rattle.std.specs.Cmp.{nat_cmp_total}
use Rattle.std.specs.Ordering.{nat_cmp, eq_by_cmp}
use Rattle.std.specs.FinMap.{get, insert, remove, empty, get-empty, get-insert, get-remove, same_map, nat_cmp-IsAntisymmetric}
use Rattle.ipc_laws.specs.ListLaws.{some_same}
use Rattle.ipc_laws.specs.MapLaws.{get-map_values}
use Rattle.ipc_laws.specs.MapSums.{insert-insert, key_is, same_key}
use Rattle.ipc_model.specs.declared.entry.Entry.{Entry}
use Rattle.ipc_model.specs.declared.entry.Entry.TheVariants.{Port, SendOnce, Set, Dead}
use Rattle.ipc_model.specs.declared.port.PortState.{PortState}
use Rattle.ipc_model.specs.effects.Effects.{after_death, entry_after_death, map_values, one_more_if, port_after_death, without_target}
use Rattle.ipc_model.specs.state.Ipc.{Ipc, Names, new_port, received_port, with_names, with_port, without_name}
use Rattle.ipc_model.specs.calls.PortCalls.{names_in}
use Rattle.ipc_state.specs.Members.{AreMembers, AreMoving, ArePlacesRenamed, DifferAt, one_moved, changed_members, same_members, set_in, set_place, set_place_of}
use Rattle.ports.specs.Passed.{changed, numbers_of, with_numbers, PortNumbers, TrackedPorts, Ports}
use Rattle.spaces.specs.Passed.{alike_indexed, Numbers, moved, under_other_name, Tracked}
use Rattle.spaces.specs.Indexes.{IsNextAt, opened_alike, closed_alike}
use Rattle.spaces.specs.Laws.{get_names_changed}
use Rattle.spaces.specs.Looking.{entry_in, place}
use Rattle.spaces.specs.Renamed.{not_renamed}
use Rattle.spaces.specs.Slots.{SpaceMap, TrackedSpaces, names_changed}

-- the index at the last commit or rollback, and now
abbrev pub Members : TrackedSpaces → TrackedPorts → Tracked (Unit {0}) → Type 0
Members spaces ports members =
    AreMembers spaces.before ports.before.ports members.before
    × AreMembers spaces.current ports.current.ports members.current

module _ (old new : TrackedSpaces) (ports : TrackedPorts) (members : Tracked (Unit {0}))
    (are : Members old ports members) where
  pub space_added : (number : ℕ) → new ≡ record old { current = insert old.current number empty }
      → get old.current number ≡ None → Members new ports members
  space_added number is none =
      subst (λ (s : TrackedSpaces). Members s ports members) (sym is) (
        are.0,
        same_members old.current
            (insert old.current number empty) ports.current.ports ports.current.ports members.current
            (opened_alike old.current number none) (λ s. refl) are.1,
      )

  pub space_closed : (number : ℕ) → new ≡ record old { current = remove old.current number }
      → ((names : Names) → get old.current number ≡ Some names → names ≡ empty) → Members new ports members
  space_closed number is none =
      subst (λ (s : TrackedSpaces). Members s ports members) (sym is) (
        are.0,
        same_members old.current
            (remove old.current number) ports.current.ports ports.current.ports members.current
            (closed_alike old.current number none) (λ s. refl) are.1,
      )

  pub name_changed : (after : Tracked (Unit {0})) (space name : ℕ) (change : Names → Names) (o : Option Entry)
      → name < 2 ^ 32 → space < 2 ^ 32 → is_some (get old.current space) ≡ true
      → ((names : Names) (n : ℕ) → get (change names) n ≡ cond (eq_by_cmp nat_cmp n name) o (get names n))
      → new ≡ record old { current = names_changed old.current space change }
      → after ≡ record members {
        current = moved members.current (place space name)
            (set_place_of ports.current.ports space (entry_in old.current space name))
            (set_place_of ports.current.ports space o);
      } → Members new ports after
  name_changed after space name change o small few there looks is changed =
      subst (λ (s : TrackedSpaces). Members s ports after) (sym is)
      (subst (λ (m : Tracked (Unit {0})). Members
      (record old { current = names_changed old.current space change }) ports m) (sym changed) (
        are.0,
        changed_members old.current ports.current.ports members.current _ space name change o small few there
            looks refl are.1,
      ))

pub put_looks : (name : ℕ) (entry : Entry) (names : Names) (n : ℕ)
    → get (insert names name entry) n ≡ cond (eq_by_cmp nat_cmp n name) (Some entry) (get names n)
put_looks name entry names n = get-insert nat_cmp_total names name entry n

pub gone_looks : (name : ℕ) (names : Names) (n : ℕ)
    → get (remove names name) n ≡ cond (eq_by_cmp nat_cmp n name) None (get names n)
gone_looks name names n = get-remove nat_cmp_total names name n

-- one port changed, if it is live
get_port_changed : (ports : Ports) (serial : ℕ) (change : PortState → PortState) (q : ℕ)
    → get (changed ports serial change) q
    ≡ cond (eq_by_cmp nat_cmp q serial) (option_map change (get ports serial)) (get ports q)
get_port_changed ports serial change q = go (get ports serial) refl
  where
    stays : (b : Bool) → eq_by_cmp nat_cmp q serial ≡ b → get ports serial ≡ None
        → get ports q ≡ cond b None (get ports q)
    stays true same none = ap (get ports) (key_is q serial same) ∙ none
    stays false _ none = refl

    go : (o : Option PortState) → get ports serial ≡ o
        → get (elim o as (λ _. Ports) [ None ↦ ports | Some port ↦ insert ports serial (change port) ]) q
        ≡ cond (eq_by_cmp nat_cmp q serial) (option_map change o) (get ports q)
    go None none = stays (eq_by_cmp nat_cmp q serial) refl none
    go (Some port) at = get-insert nat_cmp_total ports serial (change port) q

abbrev set_of : Option PortState → Option ℕ
set_of o = option_and_then (λ (port : PortState). port.set) o

same_set : (change : PortState → PortState) → ((p : PortState) → (change p).set ≡ p.set) → (o : Option PortState)
    → set_of (option_map change o) ≡ set_of o
same_set change same None = refl
same_set change same (Some port) = same port

-- a change of a port that leaves it in its set
pub set_stays : (ports : Ports) (serial : ℕ) (change : PortState → PortState)
    → ((p : PortState) → (change p).set ≡ p.set) → (q : ℕ) → set_in ports q ≡ set_in (changed ports serial change) q
set_stays ports serial change same q =
    sym (ap set_of (get_port_changed ports serial change q) ∙ go (eq_by_cmp nat_cmp q serial) refl)
  where
    go : (b : Bool) → eq_by_cmp nat_cmp q serial ≡ b
        → set_of (cond b (option_map change (get ports serial)) (get ports q)) ≡ set_in ports q
    go true is = same_set change same (get ports serial) ∙ ap (λ (k : ℕ). set_in ports k) (sym (key_is q serial is))
    go false _ = refl

apart_keys : (q serial : ℕ) → (q == serial) ≡ false → eq_by_cmp nat_cmp q serial ≡ false
apart_keys q serial apart = go (eq_by_cmp nat_cmp q serial) refl
  where
    go : (b : Bool) → eq_by_cmp nat_cmp q serial ≡ b → b ≡ false
    go true is = absurd (cc (sym apart ∙ eq-eqb q serial (key_is q serial is)))
    go false _ = refl

-- one port changed, and the others stay in their sets
pub differ_at : (ports : Ports) (serial : ℕ) (change : PortState → PortState)
    → DifferAt serial ports (changed ports serial change)
differ_at ports serial change = λ other apart.
    sym (ap set_of (get_port_changed ports serial change other ∙ ap
    (λ (b : Bool). cond b (option_map change (get ports serial)) (get ports other))
    (apart_keys other serial apart)))

pub set_after : (ports : Ports) (serial : ℕ) (change : PortState → PortState)
    → set_in (changed ports serial change) serial ≡ set_of (option_map change (get ports serial))
set_after ports serial change =
    ap set_of (get_port_changed ports serial change serial ∙ ap
    (λ (b : Bool). cond b (option_map change (get ports serial)) (get ports serial)) (same_key serial))

module _ (spaces : TrackedSpaces) (old new : TrackedPorts) (members : Tracked (Unit {0}))
    (are : Members spaces old members) where
  pub port_changed : (serial : ℕ) (change : PortState → PortState) → ((p : PortState) → (change p).set ≡ p.set)
      → new ≡ record old { current = record old.current { ports = changed old.current.ports serial change } }
      → Members spaces new members
  port_changed serial change same is =
      subst (λ (p : TrackedPorts). Members spaces p members) (sym is) (
        are.0,
        same_members spaces.current spaces.current old.current.ports
            (changed old.current.ports serial change) members.current
            (λ s n. refl) (set_stays old.current.ports serial change same) are.1,
      )

  -- a new port is in no set
  pub port_added : (more : ℕ) → new
      ≡ record old { current = record { ports = insert old.current.ports old.current.next new_port; next = more } }
      → get old.current.ports old.current.next ≡ None → Members spaces new members
  port_added more is none =
      subst (λ (p : TrackedPorts). Members spaces p members) (sym is) (
        are.0,
        same_members spaces.current spaces.current old.current.ports
            (insert old.current.ports old.current.next new_port) members.current (λ s n. refl) alike are.1,
      )
    where
      go : (q : ℕ) (b : Bool) → eq_by_cmp nat_cmp q old.current.next ≡ b
          → set_of (cond b (Some new_port) (get old.current.ports q)) ≡ set_in old.current.ports q
      go q true same = sym (ap set_of (ap (get old.current.ports) (key_is q old.current.next same) ∙ none))
      go q false _ = refl

      alike : (q : ℕ) → set_in old.current.ports q ≡ set_in (insert old.current.ports old.current.next new_port) q
      alike q =
          sym (ap set_of (get-insert nat_cmp_total old.current.ports old.current.next new_port q)
          ∙ go q (eq_by_cmp nat_cmp q old.current.next) refl)

-- the entry of a name after the death of a port
entry_dead : (spaces : SpaceMap) (serial space name : ℕ)
    → entry_in (map_values (map_values (entry_after_death serial)) spaces) space name
    ≡ option_map (entry_after_death serial) (entry_in spaces space name)
entry_dead spaces serial space name =
    ap (option_and_then (λ (names : Names). get names name))
    (get-map_values (map_values (entry_after_death serial)) spaces space) ∙ go (get spaces space)
  where
    go : (o : Option Names) → option_and_then
        (λ (names : Names). get names name) (option_map (map_values (entry_after_death serial)) o)
        ≡ option_map (entry_after_death serial) (option_and_then (λ (names : Names). get names name) o)
    go None = refl
    go (Some names) = get-map_values (entry_after_death serial) names name

module _ (ports : Ports) (serial : ℕ) where
  abbrev left : Ports
  left = map_values (port_after_death serial) (remove ports serial)

  set_left : (q : ℕ) → (q == serial) ≡ false → set_in left q ≡ set_in ports q
  set_left q apart =
      ap set_of (get-map_values (port_after_death serial) (remove ports serial) q
      ∙ ap (option_map (port_after_death serial))
      (get-remove nat_cmp_total ports serial q ∙ ap
      (λ (b : Bool). cond b None (get ports q)) (apart_keys q serial apart)))
      ∙ same_set (port_after_death serial) (λ p. refl) (get ports q)

  -- the death of a port that is in no set leaves the member of each entry unchanged
  set_dead : set_in ports serial ≡ None → (o : Option Entry)
      → option_and_then (set_in left) (option_and_then received_port (option_map (entry_after_death serial) o))
      ≡ option_and_then (set_in ports) (option_and_then received_port o)
  set_dead outside None = refl
  set_dead outside (Some (Port rights)) =
      elim (rights.port == serial) as (λ (b : Bool). (rights.port == serial) ≡ b
      → option_and_then (set_in left)
      (received_port (cond b (Dead (rights.send + one_more_if rights.dead_name_target))
      (Port (record rights { dead_name_target = without_target serial rights.dead_name_target }))))
      ≡ option_and_then (set_in ports) (received_port (Port rights))) [
        | true ↦ λ (same : _). sym (elim rights.receive
            as (λ (r : Bool). option_and_then (set_in ports) (cond r (Some rights.port) None) ≡ None)
            [ true ↦ ap (set_in ports) (eqb-true rights.port serial same) ∙ outside | false ↦ refl ])
        | false ↦ λ (apart : _). elim rights.receive
            as (λ (r : Bool). option_and_then (set_in left) (cond r (Some rights.port) None)
            ≡ option_and_then (set_in ports) (cond r (Some rights.port) None))
            [ true ↦ set_left rights.port apart | false ↦ refl ]
      ] refl
  set_dead outside (Some (SendOnce port target)) =
      elim (port == serial) as (λ (b : Bool). option_and_then (set_in left)
      (received_port (cond b (Dead (1 + one_more_if target)) (SendOnce port (without_target serial target))))
      ≡ None) [ true ↦ refl | false ↦ refl ]
  set_dead outside (Some Set) = refl
  set_dead outside (Some (Dead references)) = refl

-- a port that was in no set has died
pub port_buried : (spaces after : TrackedSpaces) (old new : TrackedPorts) (members : Tracked (Unit {0})) (serial : ℕ)
    → set_in old.current.ports serial ≡ None
    → after ≡ record spaces { current = map_values (map_values (entry_after_death serial)) spaces.current }
    → new ≡ record old { current = record old.current { ports = left old.current.ports serial } }
    → Members spaces old members → Members after new members
port_buried spaces after old new members serial outside names ports are =
    subst (λ (s : TrackedSpaces). Members s new members) (sym names)
    (subst (λ (p : TrackedPorts). Members
    (record spaces { current = map_values (map_values (entry_after_death serial)) spaces.current }) p members)
    (sym ports) (
      are.0,
      alike_indexed (set_place spaces.current old.current.ports)
          (set_place (map_values (map_values (entry_after_death serial)) spaces.current)
          (left old.current.ports serial)) members.current (λ q _.
          sym (ap (λ (o : Option Entry). option_map (place (q / 2 ^ 32))
          (option_and_then (set_in (left old.current.ports serial)) (option_and_then received_port o)))
          (entry_dead spaces.current serial (q / 2 ^ 32) (q % 2 ^ 32))
          ∙ ap (option_map (place (q / 2 ^ 32)))
          (set_dead old.current.ports serial outside (entry_in spaces.current (q / 2 ^ 32) (q % 2 ^ 32))))) are.1,
    ))

-- one more place is updated while a port moves to another set
abbrev pub MovesTo : SpaceMap → ℕ → Option ℕ → Option ℕ → Numbers → ℕ → Numbers → Type 0
MovesTo spaces serial former set start at now =
    (before after : Ports) → DifferAt serial before after → set_in before serial ≡ former → set_in after serial ≡ set
    → AreMembers spaces before start → AreMoving spaces before after at now

pub moves_on : (spaces : SpaceMap) (serial at next : ℕ) (former set : Option ℕ) (start : Numbers)
    (members then : Tracked (Unit {0})) → IsNextAt received_port spaces serial at (Some next)
    → then ≡ record members {
      current = moved members.current next (option_map (place (next / 2 ^ 32)) former)
          (option_map (place (next / 2 ^ 32)) set);
    } → MovesTo spaces serial former set start at members.current
    → MovesTo spaces serial former set start (next + 1) then.current
moves_on spaces serial at next former set start members then is_next is moving = λ before after differ was is_set are.
    one_moved spaces before after serial differ at next members.current then.current is_next.0 is_next.1 is_next.2
    is_next.3
    (ap (λ (t : Tracked (Unit {0})). t.current) is ∙ ap
    (λ (f : Option ℕ). moved members.current next (option_map (place (next / 2 ^ 32)) f)
    (option_map (place (next / 2 ^ 32)) set)) (sym was) ∙ ap
    (λ (f : Option ℕ). moved members.current next
    (option_map (place (next / 2 ^ 32)) (set_in before serial)) (option_map (place (next / 2 ^ 32)) f))
    (sym is_set))
    (moving before after differ was is_set are)

-- a live port's numbers are replaced, and its place in the index with them
pub numbers_replaced : (spaces : SpaceMap) (ports : Ports) (serial : ℕ) (former numbers : PortNumbers)
    (start now : Numbers) → option_map numbers_of (get ports serial) ≡ Some former
    → ((before after : Ports) → DifferAt serial before after → set_in before serial ≡ former.set
    → set_in after serial ≡ numbers.set → AreMembers spaces before start → AreMembers spaces after now)
    → AreMembers spaces ports start → AreMembers spaces (changed ports serial (with_numbers numbers)) now
numbers_replaced spaces ports serial former numbers start now there moves are =
    moves ports (changed ports serial (with_numbers numbers)) (differ_at ports serial (with_numbers numbers))
    (was (get ports serial) there) (set_after ports serial (with_numbers numbers) ∙ is (get ports serial) there) are
  where
    was : (o : Option PortState) → option_map numbers_of o ≡ Some former → set_of o ≡ former.set
    was None none = absurd (cc none)
    was (Some port) some = ap (λ (n : PortNumbers). n.set) (some_same (numbers_of port) former some)

    is : (o : Option PortState) → option_map numbers_of o ≡ Some former
        → set_of (option_map (with_numbers numbers) o) ≡ numbers.set
    is None none = absurd (cc none)
    is (Some port) some = refl

abbrev in_no_set : Ipc → ℕ → Ipc
in_no_set state serial = with_port state serial (λ port. record port { set = None })

-- a port that has left its set is in no set
pub set_left_none : (state : Ipc) (serial : ℕ) → set_in (in_no_set state serial).ports serial ≡ None
set_left_none state serial = go (get state.ports serial) refl
  where
    go : (o : Option PortState) → get state.ports serial ≡ o
        → set_in (elim o as (λ _. Ipc) [
          | None ↦ state
          | Some port ↦ record state
              { ports = insert state.ports serial (record port { set = None }) }
        ]).ports serial ≡ None
    go None none = ap set_of none
    go (Some port) at =
        ap set_of (get-insert nat_cmp_total state.ports serial (record port { set = None }) serial ∙ ap
        (λ (b : Bool). cond b (Some (record port { set = None })) (get state.ports serial)) (same_key serial))

removed_alike : (ports : Ports) (serial : ℕ) (port : PortState)
    → remove (insert ports serial port) serial ≡ remove ports serial
removed_alike ports serial port = same_map nat_cmp_total nat_cmp-IsAntisymmetric _ _ (λ q.
    get-remove nat_cmp_total (insert ports serial port) serial q
    ∙ go q (eq_by_cmp nat_cmp q serial) refl
    ∙ sym (get-remove nat_cmp_total ports serial q))
  where
    go : (q : ℕ) (b : Bool) → eq_by_cmp nat_cmp q serial ≡ b
        → cond b None (get (insert ports serial port) q) ≡ cond b None (get ports q)
    go q true _ = refl
    go q false apart =
        get-insert nat_cmp_total ports serial port q ∙ ap (λ (b : Bool). cond b (Some port) (get ports q)) apart

-- a port's death is the same if it leaves its set first
pub outside_alike : (state : Ipc) (serial : ℕ)
    → after_death (in_no_set state serial) serial ≡ after_death state serial
outside_alike state serial = go (get state.ports serial)
  where
    go : (o : Option PortState) → after_death
        (elim o as (λ _. Ipc) [
          | None ↦ state
          | Some port ↦
              record state { ports = insert state.ports serial (record port { set = None }) }
        ]) serial
        ≡ after_death state serial
    go None = refl
    go (Some port) =
        ap (λ (ports : Ports). record state {
          spaces = map_values (map_values (entry_after_death serial)) state.spaces;
          ports = map_values (port_after_death serial) ports;
        })
        (removed_alike state.ports serial (record port { set = None }))

-- An entry moves to another name.
module _ (old new : TrackedSpaces) (ports : TrackedPorts) (members : Tracked (Unit {0}))
    (are : Members old ports members) (space from to : ℕ) (entry : Entry)
    (named : entry_in old.current space from ≡ Some entry) (unused : entry_in old.current space to ≡ None) where
  abbrev taken : SpaceMap
  taken = names_changed old.current space (λ (names : Names). remove names from)

  there : is_some (get old.current space) ≡ true
  there = go (get old.current space) named
    where
      go : (o : Option Names) → option_and_then (λ (names : Names). get names from) o ≡ Some entry → is_some o ≡ true
      go None at = absurd (cc at)
      go (Some names) at = refl

  there_still : is_some (get taken space) ≡ true
  there_still =
      ap is_some (get_names_changed old.current space
      (λ (names : Names). remove names from) space (get old.current space) refl ∙ ap
      (λ (b : Bool). cond b (option_map (λ (names : Names). remove names from) (get old.current space))
      (get old.current space)) (same_key space))
      ∙ go (get old.current space) there
    where
      go : (o : Option Names) → is_some o ≡ true → is_some (option_map (λ (names : Names). remove names from) o) ≡ true
      go None some = absurd (cc some)
      go (Some names) some = refl

  unused_still : entry_in taken space to ≡ None
  unused_still =
      ap (option_and_then (λ (names : Names). get names to))
      (get_names_changed old.current space (λ (names : Names). remove names from) space (get old.current space) refl
      ∙ ap (λ (b : Bool). cond b (option_map (λ (names : Names). remove names from) (get old.current space))
      (get old.current space)) (same_key space))
      ∙ go (get old.current space) unused
    where
      gone : (b : Bool) (o : Option Entry) → o ≡ None → cond b None o ≡ None
      gone true o none = refl
      gone false o none = none

      go : (o : Option Names) → option_and_then (λ (names : Names). get names to) o ≡ None
          → option_and_then (λ (names : Names). get names to) (option_map (λ (names : Names). remove names from) o)
          ≡ None
      go None none = refl
      go (Some names) none =
          get-remove nat_cmp_total names from to ∙ gone (eq_by_cmp nat_cmp to from) (get names to) none

  -- removing it and adding it under the other name moves it
  renamed_is : names_changed taken space (λ (names : Names). insert names to entry) ≡ names_changed old.current space
      (λ (names : Names). under_other_name names from to)
  renamed_is = go (get old.current space) refl named
    where
      go : (o : Option Names) → get old.current space ≡ o
          → option_and_then (λ (names : Names). get names from) o ≡ Some entry
          → names_changed taken space (λ (names : Names). insert names to entry)
          ≡ elim o as (λ _. SpaceMap) [
            | None ↦ old.current
            | Some names ↦
                insert old.current space (under_other_name names from to)
          ]
      go None at found = absurd (cc found)
      go (Some names) at found =
          let first : taken ≡ insert old.current space (remove names from) =
          ap (λ (o : Option Names). elim o as (λ _. SpaceMap)
          [ None ↦ old.current | Some n ↦ insert old.current space (remove n from) ]) at in
          let stands : get (insert old.current space (remove names from)) space ≡ Some (remove names from) =
          get-insert nat_cmp_total old.current space (remove names from) space ∙ ap
          (λ (b : Bool). cond b (Some (remove names from)) (get old.current space)) (same_key space) in
          ap (λ (m : SpaceMap). names_changed m space (λ (n : Names). insert n to entry)) first
          ∙ ap (λ (o : Option Names). elim o as (λ _. SpaceMap) [
            | None ↦ insert old.current space (remove names from)
            | Some n ↦
                insert (insert old.current space (remove names from)) space (insert n to entry)
          ]) stands
          ∙ insert-insert old.current space (remove names from) (insert (remove names from) to entry)
          ∙ ap (insert old.current space)
          (sym (ap (λ (o : Option Entry). elim o as (λ _. Names)
          [ None ↦ names | Some e ↦ insert (remove names from) to e ]) found))

  pub name_renamed : (after : Tracked (Unit {0})) → from < 2 ^ 32 → to < 2 ^ 32 → space < 2 ^ 32
      → new ≡ record old {
        current = names_changed old.current space
            (λ (names : Names). under_other_name names from to);
      }
      → after ≡ record members {
        current = moved
            (moved members.current (place space from) (set_place_of ports.current.ports space (Some entry)) None)
            (place space to) None (set_place_of ports.current.ports space (Some entry));
      } → Members new ports after
  name_renamed after small other few is changed =
      let one : AreMembers taken ports.current.ports
      (moved members.current (place space from) (set_place_of ports.current.ports space (Some entry)) None) =
      changed_members old.current ports.current.ports members.current _ space from
      (λ (names : Names). remove names from) None small few there (gone_looks from)
      (ap (λ (o : Option Entry). moved members.current (place space from)
      (set_place_of ports.current.ports space o) None) (sym named)) are.1 in
      let two =
      changed_members taken ports.current.ports
      (moved members.current (place space from) (set_place_of ports.current.ports space (Some entry)) None)
      (moved (moved members.current (place space from)
      (set_place_of ports.current.ports space (Some entry)) None) (place space to) None
      (set_place_of ports.current.ports space (Some entry))) space to
      (λ (names : Names). insert names to entry) (Some entry) other few there_still
      (put_looks to entry)
      (ap (λ (o : Option Entry). moved
      (moved members.current (place space from) (set_place_of ports.current.ports space (Some entry)) None)
      (place space to) (set_place_of ports.current.ports space o)
      (set_place_of ports.current.ports space (Some entry))) (sym unused_still)) one in
      subst (λ (s : TrackedSpaces). Members s ports after) (sym is)
      (subst (λ (m : Tracked (Unit {0})). Members
      (record old { current = names_changed old.current space (λ (names : Names). under_other_name names from to) })
      ports m) (sym changed) (
        are.0,
        subst (λ (s : SpaceMap). AreMembers s ports.current.ports
            (moved (moved members.current (place space from) (set_place_of ports.current.ports space (Some entry)) None)
            (place space to) None (set_place_of ports.current.ports space (Some entry)))) renamed_is two,
      ))

-- the same, if the name may have no entry
pub renamed_members : (old new : TrackedSpaces) (ports : TrackedPorts) (members after : Tracked (Unit {0}))
    → Members old ports members → (space from to : ℕ) → entry_in old.current space to ≡ None → from < 2 ^ 32
    → to < 2 ^ 32 → space < 2 ^ 32
    → new ≡ record old { current = names_changed old.current space (λ (names : Names). under_other_name names from to) }
    → ArePlacesRenamed ports.current.ports members after space from to (entry_in old.current space from)
    → Members new ports after
renamed_members old new ports members after are space from to unused small other few is changed =
    go (entry_in old.current space from) refl changed
  where
    go : (o : Option Entry) → entry_in old.current space from ≡ o
        → ArePlacesRenamed ports.current.ports members after space from to o → Members new ports after
    go None none same =
        subst (λ (s : TrackedSpaces). Members s ports after)
        (ap (λ (m : SpaceMap). record old { current = m }) (not_renamed old.current space from to none) ∙ sym is)
        (subst (Members old ports) (sym same) are)
    go (Some entry) named moves =
        name_renamed old new ports members are space from to entry named unused after small other few is moves

-- changing a space and then removing it is removing it
removed_again : (spaces : SpaceMap) (space : ℕ) (names : Names)
    → remove (insert spaces space names) space ≡ remove spaces space
removed_again spaces space names = same_map nat_cmp_total nat_cmp-IsAntisymmetric _ _ (λ q.
    get-remove nat_cmp_total (insert spaces space names) space q ∙ go q (eq_by_cmp nat_cmp q space) refl
    ∙ sym (get-remove nat_cmp_total spaces space q))
  where
    go : (q : ℕ) (b : Bool) → eq_by_cmp nat_cmp q space ≡ b
        → cond b None (get (insert spaces space names) q) ≡ cond b None (get spaces q)
    go q true _ = refl
    go q false apart =
        get-insert nat_cmp_total spaces space names q ∙ ap (λ (b : Bool). cond b (Some names) (get spaces q)) apart

pub same_alongside : (state : Ipc) (space name : ℕ)
    → record (without_name state space name) { spaces = remove (without_name state space name).spaces space }
    ≡ record state { spaces = remove state.spaces space }
same_alongside state space name = go (get state.spaces space)
  where
    after : Option Names → Ipc
    after o = elim o as (λ _. Ipc) [ None ↦ state | Some names ↦ with_names state space (remove names name) ]

    go : (o : Option Names) → record (after o) { spaces = remove (after o).spaces space }
        ≡ record state { spaces = remove state.spaces space }
    go None = refl
    go (Some names) =
        ap (λ (m : SpaceMap). record state { spaces = m }) (removed_again state.spaces space (remove names name))

-- after names below one are removed, that one is removed
pub one_gone : (state : Ipc) (space at name : ℕ) → ((q : ℕ) → q < at → get (names_in state space) q ≡ None)
    → ((q : ℕ) → at ≤ q → q < name → get (names_in state space) q ≡ None)
    → (q : ℕ) → q < name + 1 → get (names_in (without_name state space name) space) q ≡ None
one_gone state space at name below between q less = go (get state.spaces space) refl
  where
    or_none : Option Names → Names
    or_none o = elim o as (λ _. Names) [ None ↦ empty | Some names ↦ names ]

    before : q < name → get (names_in state space) q ≡ None
    before low = elim (nat_lt q at) as (λ (b : Bool). nat_lt q at ≡ b → get (names_in state space) q ≡ None) [
      | true ↦ λ (lower : _). below q (ltb-true q at lower)
      | false ↦ λ (more : _). between q (ltb-false q at more) low
    ] refl

    left : (names : Names) → get state.spaces space ≡ Some names → (b : Bool) → eq_by_cmp nat_cmp q name ≡ b
        → cond b None (get names q) ≡ None
    left names there true _ = refl
    left names there false apart =
        sym (ap (λ (o : Option Names). get (or_none o) q) there)
        ∙ before (elim (nat_lt q name) as (λ (b : Bool). nat_lt q name ≡ b → q < name) [
          | true ↦ λ (low : _). ltb-true q name low
          | false ↦ λ (high : _). absurd
              (cc (sym apart ∙ ap (λ (n : ℕ). eq_by_cmp nat_cmp n name) (omega (arith, ltb-false q name high, less))
              ∙ same_key name))
        ] refl)

    go : (o : Option Names) → get state.spaces space ≡ o
        → get (names_in (elim o as (λ _. Ipc)
        [ None ↦ state | Some names ↦ with_names state space (remove names name) ]) space) q ≡ None
    go None none = ap (λ (o : Option Names). get (or_none o) q) none ∙ get-empty nat_cmp q
    go (Some names) there =
        ap (λ (o : Option Names). get (or_none o) q)
        (get-insert nat_cmp_total state.spaces space (remove names name) space ∙ ap
        (λ (b : Bool). cond b (Some (remove names name)) (get state.spaces space)) (same_key space))
        ∙ get-remove nat_cmp_total names name q ∙ left names there (eq_by_cmp nat_cmp q name) refl

-- no name is left
pub all_gone : (state : Ipc) (space at : ℕ) → ((q : ℕ) → q < at → get (names_in state space) q ≡ None)
    → ((q : ℕ) → at ≤ q → get (names_in state space) q ≡ None) → (names : Names) → get state.spaces space ≡ Some names
    → names ≡ empty
all_gone state space at below from names there = same_map nat_cmp_total nat_cmp-IsAntisymmetric names empty (λ q.
    sym (ap (λ (o : Option Names). get (elim o as (λ _. Names) [ None ↦ empty | Some n ↦ n ]) q) there)
    ∙ elim (nat_lt q at) as (λ (b : Bool). nat_lt q at ≡ b → get (names_in state space) q ≡ None) [
      | true ↦ λ (low : _). below q (ltb-true q at low)
      | false ↦ λ (high : _). from q (ltb-false q at high)
    ] refl
    ∙ sym (get-empty nat_cmp q))
