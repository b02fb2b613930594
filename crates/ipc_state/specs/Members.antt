-- The index of set members by the places of the sets.
use Rattle.std.proofs.Common.{◌≡◌, ℕ, ◌+◌, ◌^◌, ◌<◌, ◌≤◌, ◌/◌, ◌%◌, ◌==◌, Bool, true, false, cond, nat_lt, Option, None, Some, is_some, option_map, option_and_then, refl, sym, ◌∙◌, ap, subst, arith}
use Rattle.std.proofs.lemmas.Bool.{eqb-true, ltb-true, ltb-false}
use Rattle.std.specs.Ordering.{nat_cmp, eq_by_cmp}
use Rattle.std.specs.FinMap.{get, empty, get-empty}
use Rattle.ipc_laws.specs.MapSums.{key_is, same_key}
use Rattle.ipc_model.specs.declared.entry.Entry.{Entry}
use Rattle.ipc_model.specs.declared.port.PortState.{PortState}
use Rattle.ipc_model.specs.state.Ipc.{Ipc, Names, is_number, received_port}
use Rattle.ports.specs.Passed.{PortTable, Ports}
use Rattle.spaces.specs.Passed.{IsIndexed, alike_indexed, nothing_indexed, place_moved, Numbers, Tracked, moved}
use Rattle.spaces.specs.Looking.{at_place, entry_in, parts_of, place, place_changed}
use Rattle.spaces.specs.Slots.{SpaceMap, names_changed}

-- the state with these spaces and ports
abbrev pub state_of : SpaceMap → PortTable → Ipc
state_of spaces table = record { spaces = spaces; ports = table.ports; next = table.next }

-- the name of the set that contains a port
abbrev pub set_in : Ports → ℕ → Option ℕ
set_in ports serial = option_and_then (λ (port : PortState). port.set) (get ports serial)

-- the place of the set that contains the port whose receive right the name at a place holds
abbrev pub set_place : SpaceMap → Ports → ℕ → Option ℕ
set_place spaces ports q =
    option_map (place (q / 2 ^ 32)) (option_and_then (set_in ports) (at_place received_port spaces q))

-- the same, for the entry of a name in a space
abbrev pub set_place_of : Ports → ℕ → Option Entry → Option ℕ
set_place_of ports space o = option_map (place space) (option_and_then (set_in ports) (option_and_then received_port o))

-- the index after the entry of one name of a space, if there is one, moved to another name
abbrev pub ArePlacesRenamed : Ports → Tracked (Unit {0}) → Tracked (Unit {0}) → ℕ → ℕ → ℕ → Option Entry → Type 0
ArePlacesRenamed ports old new space from to None = new ≡ old
ArePlacesRenamed ports old new space from to (Some entry) = new ≡ record old {
  current =
      moved (moved old.current (place space from) (set_place_of ports space (Some entry)) None) (place space to) None
      (set_place_of ports space (Some entry));
}

-- the index maps the place of each member's name to the place of its set
abbrev pub AreMembers : SpaceMap → Ports → Numbers → Type 0
AreMembers spaces ports members = IsIndexed (set_place spaces ports) members

-- one name of an existing space has changed
pub changed_members : (spaces : SpaceMap) (ports : Ports) (members after : Numbers) (space name : ℕ)
    (change : Names → Names) (o : Option Entry) → name < 2 ^ 32 → space < 2 ^ 32 → is_some (get spaces space) ≡ true
    → ((names : Names) (n : ℕ) → get (change names) n ≡ cond (eq_by_cmp nat_cmp n name) o (get names n))
    → after ≡ moved members (place space name) (set_place_of ports space (entry_in spaces space name))
    (set_place_of ports space o) → AreMembers spaces ports members
    → AreMembers (names_changed spaces space change) ports after
changed_members spaces ports members after space name change o small few there changed is are =
    by_case (get spaces space) refl there
  where
    spot : ℕ
    spot = place space name

    parts : (spot / 2 ^ 32 ≡ space) × (spot % 2 ^ 32 ≡ name)
    parts = parts_of space name small

    stood : set_place spaces ports spot ≡ set_place_of ports space (entry_in spaces space name)
    stood =
        ap (λ (k : ℕ). option_map (place k)
        (option_and_then (set_in ports) (option_and_then received_port (entry_in spaces k (spot % 2 ^ 32)))))
        parts.0
        ∙ ap (λ (k : ℕ). option_map (place space)
        (option_and_then (set_in ports) (option_and_then received_port (entry_in spaces space k)))) parts.1

    look : (names : Names) → get spaces space ≡ Some names → (q : ℕ)
        → set_place (names_changed spaces space change) ports q
        ≡ cond (eq_by_cmp nat_cmp q spot) (set_place_of ports space o) (set_place spaces ports q)
    look names at q =
        ap (λ (p : Option ℕ). option_map (place (q / 2 ^ 32)) (option_and_then (set_in ports) p))
        (place_changed received_port spaces space name names change o small at (changed names) q)
        ∙ go (eq_by_cmp nat_cmp q spot) refl
      where
        go : (b : Bool) → eq_by_cmp nat_cmp q spot ≡ b
            → option_map (place (q / 2 ^ 32))
            (option_and_then (set_in ports)
            (cond b (option_and_then received_port o) (at_place received_port spaces q)))
            ≡ cond b (set_place_of ports space o) (set_place spaces ports q)
        go true same =
            ap (λ (k : ℕ). option_map (place k) (option_and_then (set_in ports) (option_and_then received_port o)))
            (ap (λ (k : ℕ). k / 2 ^ 32) (key_is q spot same) ∙ parts.0)
        go false _ = refl

    by_case : (n : Option Names) → get spaces space ≡ n → is_some n ≡ true
        → AreMembers (names_changed spaces space change) ports after
    by_case None at some = absurd (cc some)
    by_case (Some names) at some =
        subst (AreMembers (names_changed spaces space change) ports)
        (sym (is ∙ ap (λ (f : Option ℕ). moved members spot f (set_place_of ports space o)) (sym stood)))
        (place_moved (set_place spaces ports) (set_place (names_changed spaces space change) ports) members spot
        (set_place_of ports space o) (omega (arith, small, few)) (look names at) are)

-- the index is the same for spaces with the same entries and ports in the same sets
pub same_members : (spaces other : SpaceMap) (ports others : Ports) (members : Numbers)
    → ((space name : ℕ) → entry_in spaces space name ≡ entry_in other space name)
    → ((serial : ℕ) → set_in ports serial ≡ set_in others serial)
    → AreMembers spaces ports members → AreMembers other others members
same_members spaces other ports others members alike sets are =
    alike_indexed (set_place spaces ports) (set_place other others) members (λ q _.
    ap (λ (e : Option Entry). set_place_at q ports e) (alike (q / 2 ^ 32) (q % 2 ^ 32))
    ∙ in_sets q (option_and_then received_port (entry_in other (q / 2 ^ 32) (q % 2 ^ 32)))) are
  where
    set_place_at : ℕ → Ports → Option Entry → Option ℕ
    set_place_at q p o = option_map (place (q / 2 ^ 32)) (option_and_then (set_in p) (option_and_then received_port o))

    in_sets : (q : ℕ) (o : Option ℕ)
        → option_map (place (q / 2 ^ 32)) (option_and_then (set_in ports) o)
        ≡ option_map (place (q / 2 ^ 32)) (option_and_then (set_in others) o)
    in_sets q None = refl
    in_sets q (Some serial) = ap (option_map (place (q / 2 ^ 32))) (sets serial)

-- no spaces and no members
pub no_members : (spaces : SpaceMap) (ports : Ports) (members : Numbers) → spaces ≡ empty → members ≡ empty
    → AreMembers spaces ports members
no_members spaces ports members none nothing = nothing_indexed (set_place spaces ports) members (λ q.
    ap (λ (s : SpaceMap). set_place s ports q) none ∙ ap
    (λ (n : Option Names). option_map (place (q / 2 ^ 32))
    (option_and_then (set_in ports)
    (option_and_then received_port (option_and_then (λ names. get names (q % 2 ^ 32)) n))))
    (get-empty nat_cmp (q / 2 ^ 32))) nothing

-- the sets' places while a port moves to another set: those below `at` are updated, the others are not
abbrev pub moving : SpaceMap → Ports → Ports → ℕ → ℕ → Option ℕ
moving spaces before after at q = cond (nat_lt q at) (set_place spaces after q) (set_place spaces before q)

abbrev pub AreMoving : SpaceMap → Ports → Ports → ℕ → Numbers → Type 0
AreMoving spaces before after at members = IsIndexed (moving spaces before after at) members

-- all ports but one are in the same sets
abbrev pub DifferAt : ℕ → Ports → Ports → Type 0
DifferAt serial before after = (other : ℕ) → (other == serial) ≡ false → set_in before other ≡ set_in after other

less_or_not : (a b : ℕ) (P : Type 0) → (nat_lt a b ≡ true → a < b → P) → (nat_lt a b ≡ false → b ≤ a → P) → P
less_or_not a b P first second =
    elim (nat_lt a b) as (λ (t : Bool). nat_lt a b ≡ t → P)
    [ true ↦ λ (e : _). first e (ltb-true a b e) | false ↦ λ (e : _). second e (ltb-false a b e) ] refl

module _ (spaces : SpaceMap) (before after : Ports) (serial : ℕ) (differ : DifferAt serial before after) where
  -- the set's place is the same at a place that doesn't hold this port's receive right
  apart_alike : (q : ℕ) → is_number (at_place received_port spaces q) serial ≡ false
      → set_place spaces before q ≡ set_place spaces after q
  apart_alike q apart = go (at_place received_port spaces q) apart
    where
      go : (o : Option ℕ) → is_number o serial ≡ false
          → option_map (place (q / 2 ^ 32)) (option_and_then (set_in before) o)
          ≡ option_map (place (q / 2 ^ 32)) (option_and_then (set_in after) o)
      go None off = refl
      go (Some other) off = ap (option_map (place (q / 2 ^ 32))) (differ other off)

  -- the set's place at a place that holds this port's receive right
  received_place : (ports : Ports) (q : ℕ) → is_number (at_place received_port spaces q) serial ≡ true
      → set_place spaces ports q ≡ option_map (place (q / 2 ^ 32)) (set_in ports serial)
  received_place ports q here = go (at_place received_port spaces q) here
    where
      go : (o : Option ℕ) → is_number o serial ≡ true
          → option_map (place (q / 2 ^ 32)) (option_and_then (set_in ports) o)
          ≡ option_map (place (q / 2 ^ 32)) (set_in ports serial)
      go None at = absurd (cc at)
      go (Some other) at = ap (λ (s : ℕ). option_map (place (q / 2 ^ 32)) (set_in ports s)) (eqb-true other serial at)

  pub moving_none : (members : Numbers) → AreMembers spaces before members → AreMoving spaces before after 0 members
  moving_none members are =
      alike_indexed (set_place spaces before) (moving spaces before after 0) members
      (λ q _. less_or_not q 0 _ (λ _ less. absurd (omega (arith, less)))
      (λ e _. ap (λ (b : Bool). cond b (set_place spaces after q) (set_place spaces before q)) (sym e))) are

  -- places that don't hold this port's receive right are skipped
  passed : (at next : ℕ) (members : Numbers) → at ≤ next
      → ((q : ℕ) → at ≤ q → q < next → is_number (at_place received_port spaces q) serial ≡ false)
      → AreMoving spaces before after at members → AreMoving spaces before after next members
  passed at next members more apart are =
      alike_indexed (moving spaces before after at) (moving spaces before after next) members (λ q _.
      less_or_not q at _
      (λ low less. less_or_not q next _
      (λ also _. ap (λ (b : Bool). cond b (set_place spaces after q) (set_place spaces before q)) (low ∙ sym also))
      (λ _ past. absurd (omega (arith, less, past, more))))
      (λ high from. less_or_not q next _
      (λ also below. ap (λ (b : Bool). cond b (set_place spaces after q) (set_place spaces before q)) high
      ∙ apart_alike q (apart q from below)
      ∙ sym (ap (λ (b : Bool). cond b (set_place spaces after q) (set_place spaces before q)) also))
      (λ also _. ap (λ (b : Bool). cond b (set_place spaces after q) (set_place spaces before q)) (high ∙ sym also))))
      are

  -- the next place that holds this port's receive right is updated
  pub one_moved : (at next : ℕ) (members then : Numbers) → at ≤ next → next < 2 ^ 64
      → is_number (at_place received_port spaces next) serial ≡ true
      → ((q : ℕ) → at ≤ q → q < next → is_number (at_place received_port spaces q) serial ≡ false)
      → then ≡ moved members next (option_map (place (next / 2 ^ 32)) (set_in before serial))
      (option_map (place (next / 2 ^ 32)) (set_in after serial)) → AreMoving spaces before after at members
      → AreMoving spaces before after (next + 1) then
  one_moved at next members then more fits here apart is are =
      subst (AreMoving spaces before after (next + 1))
      (sym (is ∙ ap (λ (f : Option ℕ). moved members next f
      (option_map (place (next / 2 ^ 32)) (set_in after serial)))
      (sym (was_there ∙ received_place before next here))))
      (place_moved (moving spaces before after next) (moving spaces before after (next + 1)) members next
      (option_map (place (next / 2 ^ 32)) (set_in after serial)) fits
      (λ q. changed q (eq_by_cmp nat_cmp q next) refl) (passed at next members more apart are))
    where
      was_there : moving spaces before after next next ≡ set_place spaces before next
      was_there =
          less_or_not next next _ (λ _ less. absurd (omega (arith, less)))
          (λ e _. ap (λ (b : Bool). cond b (set_place spaces after next) (set_place spaces before next)) e)

      changed : (q : ℕ) (b : Bool) → eq_by_cmp nat_cmp q next ≡ b
          → moving spaces before after (next + 1) q
          ≡ cond b (option_map (place (next / 2 ^ 32)) (set_in after serial)) (moving spaces before after next q)
      changed q true same =
          let key : q ≡ next = key_is q next same in
          less_or_not q (next + 1) _
          (λ e _. ap (λ (b : Bool). cond b (set_place spaces after q) (set_place spaces before q)) e
          ∙ ap (set_place spaces after) key ∙ received_place after next here)
          (λ _ past. absurd (omega (arith, past, key)))
      changed q false other = less_or_not q next _
          (λ low less. less_or_not q (next + 1) _
          (λ e _. ap (λ (b : Bool). cond b (set_place spaces after q) (set_place spaces before q)) (e ∙ sym low))
          (λ _ past. absurd (omega (arith, past, less))))
          (λ high from. less_or_not q (next + 1) _
          (λ _ less. absurd (cc (sym other ∙ tied q (omega (arith, less, from)))))
          (λ e _. ap (λ (b : Bool). cond b (set_place spaces after q) (set_place spaces before q)) (e ∙ sym high)))
        where
          tied : (k : ℕ) → k ≡ next → eq_by_cmp nat_cmp k next ≡ true
          tied k e = ap (λ (n : ℕ). eq_by_cmp nat_cmp n next) e ∙ same_key next

  -- no such place is left
  pub all_moved : (at : ℕ) (members : Numbers)
      → ((q : ℕ) → at ≤ q → q < 2 ^ 64 → is_number (at_place received_port spaces q) serial ≡ false)
      → AreMoving spaces before after at members → AreMembers spaces after members
  all_moved at members apart are =
      alike_indexed (moving spaces before after at) (set_place spaces after) members (λ q fits.
      less_or_not q at _
      (λ low _. ap (λ (b : Bool). cond b (set_place spaces after q) (set_place spaces before q)) low)
      (λ high from. ap (λ (b : Bool). cond b (set_place spaces after q) (set_place spaces before q)) high
      ∙ apart_alike q (apart q from fits))) are

  -- nothing changes if the port stays in its set
  pub all_stay : (members : Numbers) → set_in before serial ≡ set_in after serial → AreMembers spaces before members
      → AreMembers spaces after members
  all_stay members same are =
      same_members spaces spaces before after members (λ s n. refl) (λ other. stays other (other == serial) refl) are
    where
      stays : (other : ℕ) (b : Bool) → (other == serial) ≡ b → set_in before other ≡ set_in after other
      stays other true is =
          ap (set_in before) (eqb-true other serial is) ∙ same ∙ sym (ap (set_in after) (eqb-true other serial is))
      stays other false off = differ other off
