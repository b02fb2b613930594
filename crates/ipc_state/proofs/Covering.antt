-- The reported places cover all changes.
use Rattle.std.proofs.Common.{◌≡◌, ◌⊎◌, inl, inr, ℕ, ◌^◌, ◌<◌, ◌≤◌, ◌/◌, ◌%◌, ◌==◌, nat_lt, Bool, true, false, ◌||◌, List, [], ◌∷◌, ◌++◌, length, nat_le, Option, None, Some, is_some, option_map, option_and_then, refl, sym, ◌∙◌, ap, subst, arith}
use Rattle.std.proofs.lemmas.Bool.{ltb-true, ltb-false}
use Rattle.std.proofs.lemmas.Bool.Decides.{nat_tests}
use Rattle.std.specs.Ordering.{nat_cmp, eq_by_cmp}
use Rattle.std.specs.FinMap as finmap
use Rattle.ipc_laws.specs.ListLaws.{some_same}
use Rattle.ipc_laws.specs.MapSums.{key_is}
use Rattle.ipc_model.specs.declared.entry.Entry.{Entry}
use Rattle.ipc_model.specs.declared.message.Message.{Message}
use Rattle.ipc_model.specs.declared.port.PortState.{PortState}
use Rattle.ipc_model.specs.messages.Sending.{is_full}
use Rattle.ipc_model.specs.state.Ipc.{Ipc, entry_at, is_number, received_port}
use Rattle.ipc_state.specs.Members.{set_in, set_place, state_of}
use Rattle.ipc_state.specs.Waking.{IsListedFor, IsPortListed, IsSetListed, is_full_in, same_occupancy}
use Rattle.ports.specs.Passed.{PortNumbers, PortTable, Ports, messages_at, numbers_of}
use Rattle.spaces.specs.Indexes.{AreSmall}
use Rattle.spaces.specs.Looking.{at_place, entry_in, parts_of, place}
use Rattle.spaces.specs.Noted.{entry_at_place}
use Rattle.spaces.specs.Slots.{SpaceMap}
use Rattle.tracked_map.specs.Touched.{is_touched, touched_append}
use Rattle.waiting.specs.Places.{IsMore, Named, all_named, names, place_of_name, place_of_port}
use Rattle.waiting.specs.Waiting.{Covers, IsQuiet, Occupancy, occupancy, occupancy_at}

-- more places are reported

pub more_set : (old new : Named) (spaces : SpaceMap) (ports : Ports) (number : ℕ) → IsMore old new
    → IsSetListed (names old) spaces ports number → IsSetListed (names new) spaces ports number
more_set old new spaces ports number more is =
    record { itself = more number is.itself; set = λ other at. more other (is.set other at) }

more_or : {A : Type 0} (old new : Named) (number : ℕ) → IsMore old new → A ⊎ (names old number ≡ true) → A
    ⊎ (names new number ≡ true)
more_or old new number more (inl a) = inl a
more_or old new number more (inr is) = inr (more number is)

pub more_port : (old new : Named) (spaces : SpaceMap) (ports : Ports) (serial : ℕ) → IsMore old new
    → IsPortListed (names old) spaces ports serial → IsPortListed (names new) spaces ports serial
more_port old new spaces ports serial more is = record {
  room = more_or old new (place_of_port serial) more is.room;
  alone = λ number port fits at there. more_or old new number more (is.alone number port fits at there);
  sets =
      λ number set port fits at there within. more_or old new (place (number / 2 ^ 32) set) more
      (is.sets number set port fits at there within);
}

pub more_for : (old new : Named) (set : Option ℕ) (has : Bool) (number : ℕ) → IsMore old new
    → IsListedFor (names old) set has number → IsListedFor (names new) set has number
more_for old new set has number more is =
    record {
      alone = more_or old new number more is.alone;
      in_set = λ other at. more_or old new (place (number / 2 ^ 32) other) more (is.in_set other at);
    }

pub more_more : (one two three : Named) → IsMore one two → IsMore two three → IsMore one three
more_more one two three first second place is = second place (first place is)

-- the last element of a list is handled

or_cases : (a b : Bool) → (a || (b || false)) ≡ true → (a ≡ true) ⊎ (b ≡ true)
or_cases true b is = inl refl
or_cases false true is = inr refl
or_cases false false is = absurd (cc is)

pub next_off : (P : ℕ → Type 0) (all rest before : List ℕ) (last : ℕ) → rest ≡ before ++ last ∷ [] → P last
    → ((n : ℕ) → is_touched n all ≡ true → (is_touched n rest ≡ true) ⊎ P n)
    → (n : ℕ) → is_touched n all ≡ true → (is_touched n before ≡ true) ⊎ P n
next_off P all rest before last is done each n there =
    elim (each n there) as (λ _. (is_touched n before ≡ true) ⊎ P n) [
      | inl in_rest ↦ elim (or_cases (is_touched n before) (eq_by_cmp nat_cmp n last)
          (sym (ap (is_touched n) is ∙ touched_append n before (last ∷ [])) ∙ in_rest))
          as (λ _. (is_touched n before ≡ true) ⊎ P n) [
            | inl first ↦ inl first
            | inr same ↦ inr (subst P (sym (key_is n last same)) done)
          ]
      | inr holds ↦ inr holds
    ]

none_touched : (rest : List ℕ) (n : ℕ) → length rest ≡ 0 → is_touched n rest ≡ true → ⊥
none_touched [] n none is = cc is
none_touched (r ∷ rs) n none is = absurd (omega (arith, none))

pub all_off : (P : ℕ → Type 0) (all rest : List ℕ) → length rest ≡ 0
    → ((n : ℕ) → is_touched n all ≡ true → (is_touched n rest ≡ true) ⊎ P n) → (n : ℕ) → is_touched n all ≡ true → P n
all_off P all rest none each n there = elim (each n there) as (λ _. P n) [
  | inl in_rest ↦ absurd (none_touched rest n none in_rest)
  | inr holds ↦ holds
]

-- a weaker property of the handled elements
pub later_or : (P Q : ℕ → Type 0) (all rest : List ℕ) → ((n : ℕ) → P n → Q n)
    → ((n : ℕ) → is_touched n all ≡ true → (is_touched n rest ≡ true) ⊎ P n) → (n : ℕ) → is_touched n all ≡ true
    → (is_touched n rest ≡ true) ⊎ Q n
later_or P Q all rest more each n there = elim (each n there) as (λ _. (is_touched n rest ≡ true) ⊎ Q n) [
  | inl in_rest ↦ inl in_rest
  | inr holds ↦ inr (more n holds)
]

-- a weaker property of the unchanged or reported elements
pub kept_or : (A P Q : ℕ → Type 0) → ((n : ℕ) → P n → Q n) → ((n : ℕ) → A n ⊎ P n) → (n : ℕ) → A n ⊎ Q n
kept_or A P Q more each n = elim (each n) as (λ _. A n ⊎ Q n) [
  | inl kept ↦ inl kept
  | inr holds ↦ inr (more n holds)
]

-- a port whose room and receivers are reported
none_left : (messages : List Message) → length messages ≡ 0 → messages ≡ []
none_left [] none = refl
none_left (m ∷ ms) none = absurd (omega (arith, none))

number_itself : (n : ℕ) → (n == n) ≡ true
number_itself n = grind (arith, nat_tests)

within_limit : (a b : ℕ) → a ≤ b → nat_le a b ≡ true
within_limit a b less = grind (arith, nat_tests, less)

pub listed_port : (spaces : SpaceMap) (ports : Ports) (serial held : ℕ) (numbers : PortNumbers) (has : Bool)
    (named : ℕ → Bool) → Some numbers ≡ option_map numbers_of (finmap.get ports serial)
    → held ≡ length (messages_at ports serial)
    → (has ≡ false → held ≡ 0) → ((numbers.limit ≤ held) ⊎ (named (place_of_port serial) ≡ true))
    → ((number : ℕ) → number < 2 ^ 64 → is_number (at_place received_port spaces number) serial ≡ true
    → IsListedFor named numbers.set has number) → IsPortListed named spaces ports serial
listed_port spaces ports serial held numbers has named are long none room listed = go (finmap.get ports serial) refl
  where
    go : (o : Option PortState) → finmap.get ports serial ≡ o → IsPortListed named spaces ports serial
    go None there = absurd (cc (are ∙ ap (option_map numbers_of) there))
    go (Some port) there = record {
      room = elim room as (λ _. (is_full_in ports serial ≡ true) ⊎ (named (place_of_port serial) ≡ true)) [
        | inl full ↦ inl (ap (λ (o : Option PortState). elim o as (λ _. Bool)
            [ None ↦ false | Some p ↦ nat_le p.limit (length p.messages) ]) there
            ∙ within_limit port.limit (length port.messages) (omega (arith, full, limit, many)))
        | inr on ↦ inr on
      ];
      alone =
          λ number other fits at found. elim (listed number fits (here number at)).alone
          as (λ _. IsQuiet other ⊎ (named number ≡ true)) [
            | inl quiet ↦ inl (subst IsQuiet (same other found)
                (sym set ∙ quiet.0, none_left port.messages (sym many ∙ none quiet.1)))
            | inr on ↦ inr on
          ];
      sets =
          λ number name other fits at found within.
          elim ((listed number fits (here number at)).in_set name
          (set ∙ ap (λ (p : PortState). p.set) (same other found) ∙ within))
          as (λ _. (other.messages ≡ []) ⊎ (named (place (number / 2 ^ 32) name) ≡ true)) [
            | inl empty ↦ inl (subst (λ (p : PortState). p.messages ≡ []) (same other found)
                (none_left port.messages (sym many ∙ none empty)))
            | inr on ↦ inr on
          ];
    }
      where
        is : numbers ≡ numbers_of port
        is = some_same numbers (numbers_of port) (are ∙ ap (option_map numbers_of) there)

        set : numbers.set ≡ port.set
        set = ap (λ (n : PortNumbers). n.set) is

        limit : numbers.limit ≡ port.limit
        limit = ap (λ (n : PortNumbers). n.limit) is

        many : held ≡ length port.messages
        many =
            long ∙ ap (λ (o : Option PortState). length
            (elim o as (λ _. List Message) [ None ↦ [] | Some p ↦ p.messages ])) there

        same : (other : PortState) → finmap.get ports serial ≡ Some other → port ≡ other
        same other found = some_same port other (sym there ∙ found)

        here : (number : ℕ) → at_place received_port spaces number ≡ Some serial
            → is_number (at_place received_port spaces number) serial ≡ true
        here number at = ap (λ (o : Option ℕ). is_number o serial) at ∙ number_itself serial

-- elements that aren't in the list are unchanged
pub by_list : (A P : ℕ → Type 0) (all : List ℕ) → ((n : ℕ) → is_touched n all ≡ false → A n)
    → ((n : ℕ) → is_touched n all ≡ true → P n) → (n : ℕ) → A n ⊎ P n
by_list A P all kept done n = go (is_touched n all) refl
  where
    go : (b : Bool) → is_touched n all ≡ b → A n ⊎ P n
    go true there = inr (done n there)
    go false off = inl (kept n off)

-- The names and the ports of two states, and places that cover their changes.
module _ (spaces_before spaces : SpaceMap) (table_before table : PortTable) (named : ℕ → Bool)
    (small_before : AreSmall spaces_before) (small : AreSmall spaces)
    (listed_names : (number : ℕ) → (entry_at_place spaces number ≡ entry_at_place spaces_before number)
    ⊎ IsSetListed named spaces table.ports number)
    (listed_ports : (serial : ℕ) → same_occupancy table_before.ports table.ports serial
    ⊎ IsPortListed named spaces table.ports serial) where
  abbrev old : Ipc
  old = state_of spaces_before table_before

  abbrev new : Ipc
  new = state_of spaces table

  contradiction : {P : Type 0} (place : ℕ) → named place ≡ false → named place ≡ true → P
  contradiction place off on = absurd (cc (sym off ∙ on))

  nothing_there : (m : SpaceMap) → AreSmall m → (space name : ℕ) → (name < 2 ^ 32 → ⊥) → entry_in m space name ≡ None
  nothing_there m are space name large = go (entry_in m space name) refl
    where
      go : (o : Option Entry) → entry_in m space name ≡ o → entry_in m space name ≡ None
      go None at = at
      go (Some entry) at = absurd (large (are space name (ap is_some at)).1)

  at_name : (m : SpaceMap) (space name : ℕ) → name < 2 ^ 32
      → entry_at_place m (place space name) ≡ entry_in m space name
  at_name m space name fits =
      ap (λ (k : ℕ). entry_in m k ((place space name) % 2 ^ 32)) (parts_of space name fits).0
      ∙ ap (entry_in m space) (parts_of space name fits).1

  fits_or : (n : ℕ) (P : Type 0) → (n < 2 ^ 32 → P) → ((n < 2 ^ 32 → ⊥) → P) → P
  fits_or n P first second = go (nat_lt n (2 ^ 32)) refl
    where
      go : (b : Bool) → nat_lt n (2 ^ 32) ≡ b → P
      go true is = first (ltb-true n (2 ^ 32) is)
      go false is = second (λ less. absurd (omega (arith, less, ltb-false n (2 ^ 32) is)))

  same_entry : (space name : ℕ) → (named (place space name) ≡ true → ⊥)
      → entry_at new space name ≡ entry_at old space name
  same_entry space name off =
      fits_or name _ within (λ large. nothing_there spaces small space name large
      ∙ sym (nothing_there spaces_before small_before space name large))
    where
      within : name < 2 ^ 32 → entry_at new space name ≡ entry_at old space name
      within fits = elim (listed_names (place space name)) as (λ _. entry_at new space name ≡ entry_at old space name) [
        | inl same ↦ sym (at_name spaces space name fits) ∙ same ∙ at_name spaces_before space name fits
        | inr listed ↦ absurd (off listed.itself)
      ]

  full_of : Option Occupancy → Bool
  full_of None = false
  full_of (Some o) = nat_le o.limit o.held

  full_is : (ports : Ports) (serial : ℕ)
      → is_full_in ports serial ≡ full_of (option_map occupancy (finmap.get ports serial))
  unfolding full_of
  full_is ports serial =
      elim (finmap.get ports serial)
      as (λ (o : Option PortState). (elim o as (λ _. Bool)
      [ None ↦ false | Some port ↦ nat_le port.limit (length port.messages) ])
      ≡ full_of (option_map occupancy o)) [
        | None ↦ refl
        | Some port ↦ refl
      ]

  -- the place of a name that holds a receive right
  at_receiver : (space name : ℕ) (entry : Entry) (serial : ℕ) → entry_at new space name ≡ Some entry
      → received_port entry ≡ Some serial → (place space name < 2 ^ 64)
      × (at_place received_port spaces (place space name) ≡ Some serial) × (name < 2 ^ 32)
  at_receiver space name entry serial at holds =
      let fits = small space name (ap is_some at) in (
        omega (arith, fits.0, fits.1),
        ap (option_and_then received_port) (at_name spaces space name fits.1 ∙ at) ∙ holds,
        fits.1,
      )

  pub covers : Covers old new named
  covers = record {
    entries = λ space name off. same_entry space name (λ on. cc (sym off ∙ on));
    room = λ serial off full. elim (listed_ports serial) as (λ _. is_full new serial ≡ true) [
      | inl same ↦ full_is table.ports serial ∙ ap full_of same ∙ sym (full_is table_before.ports serial) ∙ full
      | inr listed ↦ elim listed.room as (λ _. is_full new serial ≡ true)
          [ inl is ↦ is | inr on ↦ contradiction (place_of_port serial) off on ]
    ];
    ports =
        λ space name entry serial port off at holds there. elim (listed_ports serial)
        as (λ _. IsQuiet port ⊎ (occupancy_at old serial ≡ occupancy_at new serial)) [
          | inl same ↦ inr (sym same)
          | inr listed ↦
              let q = at_receiver space name entry serial at holds in
              elim (listed.alone (place space name) port q.0 q.1 there)
              as (λ _. IsQuiet port ⊎ (occupancy_at old serial ≡ occupancy_at new serial)) [
                | inl quiet ↦ inl quiet
                | inr on ↦ contradiction (place space name) off on
              ]
        ];
    sets =
        λ space set name entry serial port off at holds there within. set_case space set name entry serial port off at
        holds there within;
  }
    where
      set_case : (space set name : ℕ) (entry : Entry) (serial : ℕ) (port : PortState)
          → named (place_of_name space set) ≡ false → entry_at new space name ≡ Some entry
          → received_port entry ≡ Some serial
          → finmap.get new.ports serial ≡ Some port → port.set ≡ Some set → (port.messages ≡ [])
          ⊎ ((entry_at old space name ≡ Some entry) × (occupancy_at old serial ≡ occupancy_at new serial))
      set_case space set name entry serial port off at holds there within =
          go (listed_names (place space name)) (listed_ports serial)
        where
          R : Type 0
          R =
              (port.messages ≡ []) ⊎ ((entry_at old space name ≡ Some entry)
              × (occupancy_at old serial ≡ occupancy_at new serial))

          q : (place space name < 2 ^ 64) × (at_place received_port spaces (place space name) ≡ Some serial)
              × (name < 2 ^ 32)
          q = at_receiver space name entry serial at holds

          in_set : set_place spaces table.ports (place space name) ≡ Some (place space set)
          in_set =
              ap (λ (o : Option ℕ). option_map (place ((place space name) / 2 ^ 32))
              (option_and_then (set_in table.ports) o)) q.1
              ∙ ap (λ (o : Option PortState). option_map (place ((place space name) / 2 ^ 32))
              (option_and_then (λ (p : PortState). p.set) o)) there
              ∙ ap (option_map (place ((place space name) / 2 ^ 32))) within
              ∙ ap (λ (k : ℕ). Some (place k set)) (parts_of space name q.2).0

          go : (entry_at_place spaces (place space name) ≡ entry_at_place spaces_before (place space name))
              ⊎ IsSetListed named spaces table.ports (place space name)
              → same_occupancy table_before.ports table.ports serial ⊎ IsPortListed named spaces table.ports serial → R
          go (inr listed) ports = contradiction (place space set) off (listed.set (place space set) in_set)
          go (inl same) (inl kept) =
              inr (sym (at_name spaces_before space name q.2) ∙ sym same ∙ at_name spaces space name q.2 ∙ at, sym kept)
          go (inl same) (inr listed) = elim (listed.sets (place space name) set port q.0 q.1 there within) as (λ _. R) [
            | inl none ↦ inl none
            | inr on ↦ contradiction (place space set) off
                (subst (λ (k : ℕ). named (place k set) ≡ true) (parts_of space name q.2).0 on)
          ]

-- If all places are reported, they cover every change.
pub all_cover : (old new : Ipc) (named : Named) → named.are_all ≡ true → Covers old new (names named)
all_cover old new named all = record {
  entries = λ space name off. clash (place_of_name space name) off;
  room = λ serial off full. clash (place_of_port serial) off;
  ports = λ space name entry serial port off there received at. clash (place_of_name space name) off;
  sets = λ space set name entry serial port off there received at is. clash (place_of_name space set) off;
}
  where
    clash : {A : Type 0} (place : ℕ) → names named place ≡ false → A
    clash place off = absurd (cc (sym (all_named named place all) ∙ off))
