-- The names of a space, or of a port, in their order.
use Rattle.std.proofs.Common.{◌≡◌, ℕ, ◌+◌, ◌^◌, ◌<◌, ◌≤◌, ◌/◌, ◌%◌, Bool, true, false, cond, List, [], ◌++◌, Option, None, Some, is_some, option_and_then, append-nil, refl, sym, ◌∙◌, ap, arith}
use Rattle.std.specs.Prelude.{flat_map}
use Rattle.std.specs.Cmp.{nat_cmp_total}
use Rattle.std.specs.Ordering.{nat_cmp, eq_by_cmp}
use Rattle.std.specs.FinMap.{FinMap, empty, entries, get, remove, get-empty, get-remove, same_map, nat_cmp-IsAntisymmetric}
use Rattle.ipc_laws.specs.MapLaws.{get-here}
use Rattle.ipc_laws.specs.MapSums.{same_key}
use Rattle.ipc_model.specs.declared.entry.Entry.{Entry}
use Rattle.ipc_model.specs.declared.entry.Entry.TheVariants.{Port, SendOnce, Set, Dead}
use Rattle.ipc_model.specs.effects.Effects.{Effect, dead_name_notice, dead_name_of_entry, is_name_of}
use Rattle.ipc_model.specs.state.Ipc.{Names, is_number, request_of}
use Rattle.port_space.specs.Walking.{IsNextEntry, from_on, above_all, below_none, nothing_from, entries_alike, entries_none, entries_split}
use Rattle.spaces.specs.Burying.{less_or_not}
use Rattle.spaces.specs.Indexes.{AreSmall, IsNextAt}
use Rattle.spaces.specs.Laws.{changed_absent, changed_there, get_names_changed}
use Rattle.spaces.specs.Looking.{entry_in, port_named, place, at_place, parts, parts_of}
use Rattle.spaces.specs.Reading.{names_of}
use Rattle.spaces.specs.Slots.{SpaceMap, names_changed}

-- the names of a space by their entries
pub named_in : (spaces : SpaceMap) (space name : ℕ) → get (names_of spaces space) name ≡ entry_in spaces space name
named_in spaces space name = go (get spaces space)
  where
    go : (o : Option Names) → get (elim o as (λ _. Names) [ None ↦ empty | Some names ↦ names ]) name ≡ option_and_then
        (λ (n : Names). get n name) o
    go None = get-empty nat_cmp name
    go (Some names) = refl

-- A space has no more names below `at`, and the other spaces are unchanged.
pub record Emptied (before spaces : SpaceMap) (space at : ℕ) : Type 0 where
  pub others : remove spaces space ≡ remove before space
  pub gone : (name : ℕ) → name < at → entry_in spaces space name ≡ None

alike : {X : Type 0} (m n : FinMap {K = ℕ} nat_cmp X) → ((q : ℕ) → get m q ≡ get n q) → m ≡ n
alike m n each = same_map nat_cmp_total nat_cmp-IsAntisymmetric m n each

others_stay : (spaces : SpaceMap) (space : ℕ) (change : Names → Names)
    → remove (names_changed spaces space change) space ≡ remove spaces space
others_stay spaces space change = alike _ _ (λ q.
    get-remove nat_cmp_total (names_changed spaces space change) space q
    ∙ ap (cond (eq_by_cmp nat_cmp q space) None) (get_names_changed spaces space change q (get spaces space) refl)
    ∙ twice (eq_by_cmp nat_cmp q space) _ (get spaces q)
    ∙ sym (get-remove nat_cmp_total spaces space q))
  where
    twice : (b : Bool) (o p : Option Names) → cond b None (cond b o p) ≡ cond b None p
    twice true o p = refl
    twice false o p = refl

pub name_gone : (spaces : SpaceMap) (space name n : ℕ)
    → entry_in (names_changed spaces space (λ names. remove names name)) space n
    ≡ cond (eq_by_cmp nat_cmp n name) None (entry_in spaces space n)
name_gone spaces space name n = go (get spaces space) refl
  where
    nothing : (b : Bool) → None ≡ cond {A = Option Entry} b None None
    nothing true = refl
    nothing false = refl

    go : (o : Option Names) → get spaces space ≡ o
        → entry_in (names_changed spaces space (λ names. remove names name)) space n
        ≡ cond (eq_by_cmp nat_cmp n name) None (entry_in spaces space n)
    go None at =
        let none : entry_in spaces space n ≡ None = ap (option_and_then (λ (m : Names). get m n)) at in
        ap (λ (s : SpaceMap). entry_in s space n) (changed_absent spaces space (λ names. remove names name) at) ∙ none
        ∙ nothing (eq_by_cmp nat_cmp n name) ∙ sym (ap (cond (eq_by_cmp nat_cmp n name) None) none)
    go (Some names) at =
        ap (λ (s : SpaceMap). entry_in s space n) (changed_there spaces space (λ names. remove names name) names at)
        ∙ ap (option_and_then (λ (m : Names). get m n)) (get-here spaces space (remove names name))
        ∙ get-remove nat_cmp_total names name n
        ∙ ap (cond (eq_by_cmp nat_cmp n name) None) (sym (ap (option_and_then (λ (m : Names). get m n)) at))

pub one_emptied : (before spaces : SpaceMap) (space at name : ℕ) (entry : Entry)
    → IsNextEntry (names_of spaces space) at (Some (name, entry)) → Emptied before spaces space at
    → Emptied before (names_changed spaces space (λ names. remove names name)) space (name + 1)
one_emptied before spaces space at name entry next emptied = record {
  others = others_stay spaces space (λ names. remove names name) ∙ emptied.others;
  gone = λ n below. name_gone spaces space name n ∙ go n below (eq_by_cmp nat_cmp n name) refl;
}
  where
    apart : (n : ℕ) → n < name + 1 → eq_by_cmp nat_cmp n name ≡ false → n < name
    apart n below other =
        less_or_not n name (n < name) (λ less. less)
        (λ more. absurd (cc (sym other ∙ ap (λ (k : ℕ). eq_by_cmp nat_cmp k name) (omega (arith, more, below))
        ∙ same_key name)))

    go : (n : ℕ) → n < name + 1 → (b : Bool) → eq_by_cmp nat_cmp n name ≡ b
        → cond b None (entry_in spaces space n) ≡ None
    go n below true _ = refl
    go n below false other =
        let less = apart n below other in
        less_or_not n at (entry_in spaces space n ≡ None) (λ under. emptied.gone n under)
        (λ over. sym (named_in spaces space n) ∙ next.2 n over less)

pub all_emptied : (before spaces : SpaceMap) (space at : ℕ) → IsNextEntry (names_of spaces space) at None
    → Emptied before spaces space at → (names : Names) → get spaces space ≡ Some names → names ≡ empty
all_emptied before spaces space at next emptied names there = alike names empty (λ n.
    sym (ap (option_and_then (λ (m : Names). get m n)) there)
    ∙ less_or_not n at (entry_in spaces space n ≡ None) (λ under. emptied.gone n under)
    (λ over. sym (named_in spaces space n) ∙ next n over)
    ∙ sym (get-empty nat_cmp n))

-- the dead-name notices of the names from a place on
abbrev pub notices_from : ℕ → SpaceMap → ℕ → List Effect
notices_from port spaces at =
    flat_map (λ s. flat_map (λ e. from_on at (place s.0 e.0) (dead_name_of_entry port e.0 e.1)) (entries s.1))
    (entries spaces)

pub notices_first : (port : ℕ) (spaces : SpaceMap)
    → notices_from port spaces 0 ≡ flat_map
    (λ s. flat_map (λ e. dead_name_of_entry port e.0 e.1) (entries s.1)) (entries spaces)
notices_first port spaces =
    entries_alike (λ (s : ℕ × Names). flat_map
    (λ e. from_on 0 (place s.0 e.0) (dead_name_of_entry port e.0 e.1)) (entries s.1))
    (λ (s : ℕ × Names). flat_map (λ e. dead_name_of_entry port e.0 e.1) (entries s.1)) spaces
    (λ space names _. entries_alike (λ (e : ℕ × Entry). from_on 0 (place space e.0) (dead_name_of_entry port e.0 e.1))
    (λ (e : ℕ × Entry). dead_name_of_entry port e.0 e.1) names
    (λ name entry _. above_all 0 (place space name) (dead_name_of_entry port name entry) (omega arith)))

named_alike : (port : ℕ) (entry : Entry) → is_number (port_named entry) port ≡ is_name_of port entry
named_alike port (Port rights) = refl
named_alike port (SendOnce other target) = refl
named_alike port Set = refl
named_alike port (Dead references) = refl

module _ (port : ℕ) (spaces : SpaceMap) (small : AreSmall spaces) where
  stands : (space name : ℕ) (names : Names) (entry : Entry) → get spaces space ≡ Some names
      → get names name ≡ Some entry → entry_in spaces space name ≡ Some entry
  stands space name names entry there here = ap (option_and_then (λ (m : Names). get m name)) there ∙ here

  fits : (space name : ℕ) (names : Names) (entry : Entry) → get spaces space ≡ Some names → get names name ≡ Some entry
      → (space < 2 ^ 32) × (name < 2 ^ 32)
  fits space name names entry there here = small space name (ap is_some (stands space name names entry there here))

  -- a name without a right to the port has no notice about it
  apart : (space name : ℕ) (names : Names) (entry : Entry) → get spaces space ≡ Some names → get names name ≡ Some entry
      → is_number (at_place port_named spaces (place space name)) port ≡ false → dead_name_of_entry port name entry ≡ []
  apart space name names entry there here other =
      ap (λ (b : Bool). cond b (dead_name_notice name (request_of entry)) [])
      (sym (named_alike port entry) ∙ sym looked ∙ other)
    where
      within : (space < 2 ^ 32) × (name < 2 ^ 32)
      within = fits space name names entry there here

      looked : is_number (at_place port_named spaces (place space name)) port ≡ is_number (port_named entry) port
      looked =
          ap (λ (k : ℕ). is_number (option_and_then port_named (entry_in spaces k ((place space name) % 2 ^ 32))) port)
          (parts_of space name within.1).0
          ∙ ap (λ (k : ℕ). is_number (option_and_then port_named (entry_in spaces space k)) port)
          (parts_of space name within.1).1
          ∙ ap (λ (o : Option Entry). is_number (option_and_then port_named o) port)
          (stands space name names entry there here)

  pub notices_end : (at : ℕ) → ((q : ℕ) → at ≤ q → q < 2 ^ 64 → is_number (at_place port_named spaces q) port ≡ false)
      → notices_from port spaces at ≡ []
  notices_end at none =
      entries_none (λ (s : ℕ × Names). flat_map
      (λ e. from_on at (place s.0 e.0) (dead_name_of_entry port e.0 e.1)) (entries s.1)) spaces
      (λ space names there.
      entries_none (λ (e : ℕ × Entry). from_on at (place space e.0) (dead_name_of_entry port e.0 e.1)) names
      (λ name entry here.
      let within = fits space name names entry there here in
      nothing_from at (place space name) (dead_name_of_entry port name entry)
      (λ from. apart space name names entry there here
      (none (place space name) from (omega (arith, within.0, within.1))))))

  -- skipped places have no notices
  pub notices_same : (at next : ℕ) → at ≤ next
      → ((q : ℕ) → at ≤ q → q < next → is_number (at_place port_named spaces q) port ≡ false)
      → notices_from port spaces at ≡ notices_from port spaces next
  notices_same at next le none =
      entries_alike (λ (s : ℕ × Names). flat_map
      (λ e. from_on at (place s.0 e.0) (dead_name_of_entry port e.0 e.1)) (entries s.1))
      (λ (s : ℕ × Names). flat_map (λ e. from_on next (place s.0 e.0) (dead_name_of_entry port e.0 e.1))
      (entries s.1)) spaces
      (λ space names there.
      entries_alike (λ (e : ℕ × Entry). from_on at (place space e.0) (dead_name_of_entry port e.0 e.1))
      (λ (e : ℕ × Entry). from_on next (place space e.0) (dead_name_of_entry port e.0 e.1)) names
      (λ name entry here.
      less_or_not (place space name) next _
      (λ less. nothing_from at (place space name) (dead_name_of_entry port name entry)
      (λ from. apart space name names entry there here (none (place space name) from less))
      ∙ sym (below_none next (place space name) (dead_name_of_entry port name entry) less))
      (λ more. above_all at (place space name) (dead_name_of_entry port name entry) (omega (arith, le, more))
      ∙ sym (above_all next (place space name) (dead_name_of_entry port name entry) more))))

  module _ (space name : ℕ) (names : Names) (entry : Entry) (there : get spaces space ≡ Some names)
      (here : get names name ≡ Some entry) (is : is_name_of port entry ≡ true) (at : ℕ) (from : at ≤ place space name)
      (between : (q : ℕ) → at ≤ q → q < place space name → is_number (at_place port_named spaces q) port ≡ false) where
    abbrev gained : List Effect
    gained = dead_name_notice name (request_of entry)

    within : (space < 2 ^ 32) × (name < 2 ^ 32)
    within = fits space name names entry there here

    -- the notices of a space's names from a place on
    abbrev notices_in : ℕ → ℕ × Names → List Effect
    notices_in start s = flat_map (λ e. from_on start (place s.0 e.0) (dead_name_of_entry port e.0 e.1)) (entries s.1)

    abbrev notice_in : ℕ → ℕ → ℕ × Entry → List Effect
    notice_in start s e = from_on start (place s e.0) (dead_name_of_entry port e.0 e.1)

    passed : (s n : ℕ) (ns : Names) (e : Entry) → get spaces s ≡ Some ns → get ns n ≡ Some e
        → place s n < place space name → (notice_in at s (n, e) ≡ []) × (notice_in (place space name + 1) s (n, e) ≡ [])
    passed s n ns e holds has less = (
      nothing_from at (place s n) (dead_name_of_entry port n e)
          (λ more. apart s n ns e holds has (between (place s n) more less)),
      below_none (place space name + 1) (place s n) (dead_name_of_entry port n e) (omega (arith, less)),
    )

    left : (s n : ℕ) (e : Entry) → place space name < place s n
        → notice_in at s (n, e) ≡ notice_in (place space name + 1) s (n, e)
    left s n e more =
        above_all at (place s n) (dead_name_of_entry port n e) (omega (arith, more, from))
        ∙ sym (above_all (place space name + 1) (place s n) (dead_name_of_entry port n e) (omega (arith, more)))

    this : notices_in at (space, names) ≡ gained ++ notices_in (place space name + 1) (space, names)
    this =
        entries_split (notice_in at space) (notice_in (place space name + 1) space) gained names name entry here
        (above_all at (place space name) (dead_name_of_entry port name entry) from
        ∙ ap (λ (b : Bool). cond b (dead_name_notice name (request_of entry)) []) is
        ∙ sym (append-nil gained)
        ∙ ap (λ (xs : List Effect). gained ++ xs)
        (sym (below_none (place space name + 1) (place space name) (dead_name_of_entry port name entry)
        (omega arith))))
        (λ n e less has. passed space n names e there has (omega (arith, less)))
        (λ n e more has. left space n e (omega (arith, more)))

    pub notices_next : notices_from port spaces at ≡ gained ++ notices_from port spaces (place space name + 1)
    notices_next =
        entries_split (notices_in at) (notices_in (place space name + 1)) gained spaces space names there this
        (λ s ns less holds. (
          entries_none (notice_in at s) ns
              (λ n e has. let small_there = fits s n ns e holds has in
              (passed s n ns e holds has (omega (arith, less, small_there.1))).0),
          entries_none (notice_in (place space name + 1) s) ns
              (λ n e has. let small_there = fits s n ns e holds has in
              (passed s n ns e holds has (omega (arith, less, small_there.1))).1),
        ))
        (λ s ns more holds. entries_alike (notice_in at s) (notice_in (place space name + 1) s) ns
        (λ n e has. left s n e (omega (arith, more, within.1))))

-- the notice of the name at a place
abbrev pub notice_at : SpaceMap → ℕ → List Effect
notice_at spaces number =
    dead_name_notice (number % 2 ^ 32)
    (option_and_then request_of (entry_in spaces (number / 2 ^ 32) (number % 2 ^ 32)))

pub notices_step : (port : ℕ) (spaces : SpaceMap) (at number : ℕ) → AreSmall spaces
    → IsNextAt port_named spaces port at (Some number)
    → notices_from port spaces at ≡ notice_at spaces number ++ notices_from port spaces (number + 1)
notices_step port spaces at number small next = go (get spaces (number / 2 ^ 32)) refl
  where
    whole : number ≡ place (number / 2 ^ 32) (number % 2 ^ 32)
    whole = (parts number).0

    inner : (names : Names) → get spaces (number / 2 ^ 32) ≡ Some names → (o : Option Entry)
        → get names (number % 2 ^ 32) ≡ o
        → notices_from port spaces at ≡ notice_at spaces number ++ notices_from port spaces (number + 1)
    inner names there None here =
        absurd (cc (sym next.2 ∙ ap (λ (o : Option Entry). is_number (option_and_then port_named o) port)
        (ap (option_and_then (λ (m : Names). get m (number % 2 ^ 32))) there ∙ here)))
    inner names there (Some entry) here =
        let stood : entry_in spaces (number / 2 ^ 32) (number % 2 ^ 32) ≡ Some entry =
        ap (option_and_then (λ (m : Names). get m (number % 2 ^ 32))) there ∙ here in
        let is : is_name_of port entry ≡ true =
        sym (named_alike port entry) ∙ sym
        (ap (λ (o : Option Entry). is_number (option_and_then port_named o) port) stood) ∙ next.2 in
        notices_next port spaces small (number / 2 ^ 32) (number % 2 ^ 32) names entry there here is at
        (omega (arith, whole, next.0)) (λ q more less. next.3 q more (omega (arith, whole, less)))
        ∙ ap (λ (k : ℕ). dead_name_notice (number % 2 ^ 32) (request_of entry) ++ notices_from port spaces (k + 1))
        (sym whole)
        ∙ ap (λ (o : Option Entry). dead_name_notice (number % 2 ^ 32) (option_and_then request_of o)
        ++ notices_from port spaces (number + 1)) (sym stood)

    go : (o : Option Names) → get spaces (number / 2 ^ 32) ≡ o
        → notices_from port spaces at ≡ notice_at spaces number ++ notices_from port spaces (number + 1)
    go None none =
        absurd (cc (sym next.2 ∙ ap
        (λ (o : Option Names). is_number
        (option_and_then port_named (option_and_then (λ (m : Names). get m (number % 2 ^ 32)) o)) port) none))
    go (Some names) there = inner names there (get names (number % 2 ^ 32)) refl

-- the notice of the name at a place, if it has a right to the port
abbrev pub notice_of : ℕ → SpaceMap → ℕ → List Effect
notice_of port spaces number =
    elim (entry_in spaces (number / 2 ^ 32) (number % 2 ^ 32)) as (λ _. List Effect)
    [ None ↦ [] | Some entry ↦ dead_name_of_entry port (number % 2 ^ 32) entry ]

pub notices_on : (port : ℕ) (spaces : SpaceMap) (at number : ℕ) → AreSmall spaces → at ≤ number → number < 2 ^ 64
    → ((q : ℕ) → at ≤ q → q < number → is_number (at_place port_named spaces q) port ≡ false)
    → notices_from port spaces at ≡ notice_of port spaces number ++ notices_from port spaces (number + 1)
notices_on port spaces at number small le fits none = go (entry_in spaces (number / 2 ^ 32) (number % 2 ^ 32)) refl
  where
    passed_by : is_number (at_place port_named spaces number) port ≡ false
        → notices_from port spaces at ≡ notices_from port spaces (number + 1)
    passed_by apart =
        notices_same port spaces small at (number + 1) (omega (arith, le)) (λ q from below. less_or_not q number _
        (λ less. none q from less)
        (λ more. ap (λ (k : ℕ). is_number (at_place port_named spaces k) port) (omega (arith, more, below)) ∙ apart))

    named : (entry : Entry) → entry_in spaces (number / 2 ^ 32) (number % 2 ^ 32) ≡ Some entry
        → is_number (at_place port_named spaces number) port ≡ is_name_of port entry
    named entry here =
        ap (λ (o : Option Entry). is_number (option_and_then port_named o) port) here ∙ named_alike port entry

    by : (entry : Entry) → entry_in spaces (number / 2 ^ 32) (number % 2 ^ 32) ≡ Some entry → (b : Bool)
        → is_name_of port entry ≡ b
        → notices_from port spaces at ≡ cond b (dead_name_notice (number % 2 ^ 32) (request_of entry)) []
        ++ notices_from port spaces (number + 1)
    by entry here true is =
        notices_step port spaces at number small (le, fits, named entry here ∙ is, none)
        ∙ ap (λ (o : Option Entry). dead_name_notice (number % 2 ^ 32) (option_and_then request_of o)
        ++ notices_from port spaces (number + 1)) here
    by entry here false is = passed_by (named entry here ∙ is)

    go : (o : Option Entry) → entry_in spaces (number / 2 ^ 32) (number % 2 ^ 32) ≡ o
        → notices_from port spaces at ≡
        (elim o as (λ _. List Effect) [ None ↦ [] | Some entry ↦ dead_name_of_entry port (number % 2 ^ 32) entry ])
        ++ notices_from port spaces (number + 1)
    go None here = passed_by (ap (λ (o : Option Entry). is_number (option_and_then port_named o) port) here)
    go (Some entry) here = by entry here (is_name_of port entry) refl
