-- The members of a set in the order of their names.
use Rattle.std.proofs.Common.{◌≡◌, ℕ, ◌+◌, ◌^◌, ◌<◌, ◌≤◌, ◌/◌, ◌%◌, ◌==◌, Bool, true, false, cond, nat_lt, append-nil, is_some, List, [], ◌∷◌, ◌++◌, map, Option, None, Some, MatchOption, option_map, option_and_then, refl, sym, ◌∙◌, ap, arith}
use Rattle.std.specs.Prelude.{flat_map, filter}
use Rattle.std.specs.List.{filter_map, cons_option}
use Rattle.std.proofs.lemmas.Bool.{eqb-true, eq-eqb, ltb-false, ltb-true}
use Rattle.std.specs.FinMap as finmap
use Rattle.ipc_model.specs.calls.PortCalls.{names_in}
use Rattle.ipc_model.specs.declared.entry.Entry.{Entry}
use Rattle.ipc_model.specs.declared.port.PortState.{PortState}
use Rattle.ipc_model.specs.state.Ipc.{Ipc, Names, is_member, is_number, received_port}
use Rattle.ipc_state.specs.Members.{AreMembers, set_in, set_place, state_of}
use Rattle.ipc_state.specs.There.{entry_named}
use Rattle.ports.specs.Passed.{PortTable}
use Rattle.spaces.specs.Passed.{Numbers, stands_at, IsNext, above_all, below_none, entries_alike, entries_none, entries_split, from_on, nothing_from}
use Rattle.spaces.specs.Indexes.{AreSmall}
use Rattle.spaces.specs.Looking.{entry_in, parts_of, place}
use Rattle.spaces.specs.Slots.{SpaceMap}

-- the port whose receive right an entry holds, if it is a member of the set
abbrev pub member_port : Ipc → ℕ → Option Entry → Option ℕ
member_port state set None = None
member_port state set (Some entry) = cond (is_member state set entry) (received_port entry) None

-- a name with its port, if the port is a member of the set
abbrev pub member_at : Ipc → ℕ → ℕ → Option Entry → List (ℕ × ℕ)
member_at state set name o =
    elim (member_port state set o) as (λ _. List (ℕ × ℕ)) [ None ↦ [] | Some port ↦ (name, port) ∷ [] ]

abbrev pub member_under : Ipc → ℕ → ℕ × Entry → List (ℕ × ℕ)
member_under state set e = member_at state set e.0 (Some e.1)

-- a name from a given one on, with no member's name in between, or None if no member's name follows
abbrev pub IsNextPlace : Ipc → ℕ → ℕ → ℕ → Option ℕ → Type 0
IsNextPlace state space set from found =
    MatchOption found ((q : ℕ) (e : Entry) → from ≤ q → finmap.get (names_in state space) q ≡ Some e
    → member_under state set (q, e) ≡ [])
    (λ name. (from ≤ name) × ((q : ℕ) (e : Entry) → from ≤ q → q < name → finmap.get (names_in state space) q ≡ Some e
    → member_under state set (q, e) ≡ []))

received : (state : Ipc) (set : ℕ) (entry : Entry) → is_member state set entry ≡ true → (serial : ℕ)
    × (received_port entry ≡ Some serial)
received state set entry member = by_case (received_port entry) refl member
  where
    by_case : (o : Option ℕ) → received_port entry ≡ o
        → elim (option_and_then (λ serial. finmap.get state.ports serial) o) as (λ _. Bool)
        [ None ↦ false | Some port ↦ is_number port.set set ] ≡ true → (serial : ℕ)
        × (received_port entry ≡ Some serial)
    by_case None at is = absurd (cc is)
    by_case (Some serial) at is = (serial, at)

one_name : (e : ℕ × Entry) (rest : List (ℕ × ℕ)) (es : List (ℕ × Entry)) → map (λ m. m.0) rest ≡ map (λ f. f.0) es
    → (b : Bool) (o : Option ℕ) → (b ≡ true → (serial : ℕ) × (o ≡ Some serial))
    → map (λ m. m.0) (elim (cond b o None) as (λ _. List (ℕ × ℕ)) [ None ↦ [] | Some port ↦ (e.0, port) ∷ [] ] ++ rest)
    ≡ map (λ f. f.0) (cond b (e ∷ es) es)
one_name e rest es same true None has = absurd (cc (has refl).1)
one_name e rest es same true (Some serial) has = ap (λ (l : List ℕ). e.0 ∷ l) same
one_name e rest es same false o has = same

one_serial : (e : ℕ × Entry) (rest : List (ℕ × ℕ)) (es : List (ℕ × Entry))
    → map (λ m. m.1) rest ≡ filter_map (λ f. received_port f.1) es → (b : Bool) (o : Option ℕ) → received_port e.1 ≡ o
    → map (λ m. m.1) (elim (cond b o None) as (λ _. List (ℕ × ℕ)) [ None ↦ [] | Some port ↦ (e.0, port) ∷ [] ] ++ rest)
    ≡ filter_map (λ f. received_port f.1) (cond b (e ∷ es) es)
one_serial e rest es same true None at =
    same ∙ sym (ap (λ (o : Option ℕ). cons_option o (filter_map (λ f. received_port f.1) es)) at)
one_serial e rest es same true (Some serial) at =
    ap (λ (l : List ℕ). serial ∷ l) same
    ∙ sym (ap (λ (o : Option ℕ). cons_option o (filter_map (λ f. received_port f.1) es)) at)
one_serial e rest es same false o at = same

-- the names of the members, without their ports
pub member_names : (state : Ipc) (set : ℕ) (es : List (ℕ × Entry))
    → map (λ m. m.0) (flat_map (member_under state set) es) ≡ map (λ e. e.0) (filter (λ e. is_member state set e.1) es)
member_names state set [] = refl
member_names state set (e ∷ es) =
    one_name e (flat_map (member_under state set) es) (filter (λ e. is_member state set e.1) es)
    (member_names state set es) (is_member state set e.1) (received_port e.1) (received state set e.1)

pub member_serials : (state : Ipc) (set : ℕ) (es : List (ℕ × Entry))
    → map (λ m. m.1) (flat_map (member_under state set) es) ≡ filter_map
    (λ e. received_port e.1) (filter (λ e. is_member state set e.1) es)
member_serials state set [] = refl
member_serials state set (e ∷ es) =
    one_serial e (flat_map (member_under state set) es) (filter (λ e. is_member state set e.1) es)
    (member_serials state set es) (is_member state set e.1) (received_port e.1) refl

-- the members whose names aren't below a given one
abbrev pub members_from : Ipc → ℕ → Names → ℕ → List (ℕ × ℕ)
members_from state set names at = flat_map (λ e. from_on at e.0 (member_under state set e)) (finmap.entries names)

pub from_all : (state : Ipc) (set : ℕ) (names : Names)
    → members_from state set names 0 ≡ flat_map (member_under state set) (finmap.entries names)
from_all state set names =
    entries_alike (λ e. from_on 0 e.0 (member_under state set e)) (member_under state set) names
    (λ q w _. above_all 0 q (member_under state set (q, w)) (omega arith))

pub from_none : (state : Ipc) (set : ℕ) (names : Names) (at : ℕ)
    → ((q : ℕ) (e : Entry) → at ≤ q → finmap.get names q ≡ Some e → member_under state set (q, e) ≡ [])
    → members_from state set names at ≡ []
from_none state set names at none =
    entries_none (λ e. from_on at e.0 (member_under state set e)) names
    (λ q w is. nothing_from at q (member_under state set (q, w)) (λ more. none q w more is))

module _ (state : Ipc) (set : ℕ) (names : Names) (at name : ℕ) (order : at ≤ name)
    (none : (q : ℕ) (e : Entry) → at ≤ q → q < name → finmap.get names q ≡ Some e
    → member_under state set (q, e) ≡ []) where
  abbrev f : ℕ × Entry → List (ℕ × ℕ)
  f e = from_on at e.0 (member_under state set e)

  abbrev g : ℕ × Entry → List (ℕ × ℕ)
  g e = from_on (name + 1) e.0 (member_under state set e)

  before : (q : ℕ) (w : Entry) → q < name → finmap.get names q ≡ Some w → (f (q, w) ≡ []) × (g (q, w) ≡ [])
  before q w less is = (
    nothing_from at q (member_under state set (q, w)) (λ more. none q w more less is),
    below_none (name + 1) q (member_under state set (q, w)) (omega (arith, less)),
  )

  beyond : (q : ℕ) (w : Entry) → name < q → f (q, w) ≡ g (q, w)
  beyond q w more =
      above_all at q (member_under state set (q, w)) (omega (arith, order, more))
      ∙ sym (above_all (name + 1) q (member_under state set (q, w)) (omega (arith, more)))

  elsewhere : finmap.get names name ≡ None → (q : ℕ) (w : Entry) → finmap.get names q ≡ Some w → f (q, w) ≡ g (q, w)
  elsewhere absent q w is = elim (nat_lt q name) as (λ (b : Bool). nat_lt q name ≡ b → f (q, w) ≡ g (q, w)) [
    | true ↦ λ (low : _). let both = before q w (ltb-true q name low) is in both.0 ∙ sym both.1
    | false ↦ λ (high : _). elim (nat_lt name q) as (λ (b : Bool). nat_lt name q ≡ b → f (q, w) ≡ g (q, w)) [
      | true ↦ λ (more : _). beyond q w (ltb-true name q more)
      | false ↦ λ (no_more : _). absurd
          (cc (sym is ∙ ap (finmap.get names) (omega (arith, ltb-false q name high, ltb-false name q no_more))
          ∙ absent))
    ] refl
  ] refl

  pub from_next : members_from state set names at ≡ member_at state set name (finmap.get names name)
      ++ members_from state set names (name + 1)
  from_next = go (finmap.get names name) refl
    where
      go : (o : Option Entry) → finmap.get names name ≡ o
          → members_from state set names at ≡ member_at state set name o ++ members_from state set names (name + 1)
      go None absent = entries_alike f g names (elsewhere absent)
      go (Some v) there = entries_split f g (member_under state set (name, v)) names name v there
          (above_all at name (member_under state set (name, v)) order
          ∙ sym (ap (λ (l : List (ℕ × ℕ)). member_under state set (name, v) ++ l)
          (below_none (name + 1) name (member_under state set (name, v)) (omega arith))
          ∙ append-nil (member_under state set (name, v)))) before (λ q w more _. beyond q w more)

-- A name whose place isn't listed for the set is no member's.
module _ (spaces : SpaceMap) (table : PortTable) (space set q : ℕ) (e : Entry) where
  abbrev now : Ipc
  now = state_of spaces table

  stood : q < 2 ^ 32 → finmap.get (names_in now space) q ≡ Some e
      → set_place spaces table.ports (place space q)
      ≡ option_map (place space) (option_and_then (set_in table.ports) (received_port e))
  stood small there =
      ap (λ (k : ℕ). option_map (place k)
      (option_and_then (set_in table.ports)
      (option_and_then received_port (entry_in spaces k ((place space q) % 2 ^ 32)))))
      (parts_of space q small).0
      ∙ ap (λ (k : ℕ). option_map (place space)
      (option_and_then (set_in table.ports) (option_and_then received_port (entry_in spaces space k))))
      (parts_of space q small).1
      ∙ ap (λ (o : Option Entry). option_map (place space)
      (option_and_then (set_in table.ports) (option_and_then received_port o))) (entry_named now space q ∙ there)

  by_set : (s : Option ℕ) → is_number (option_map (place space) s) (place space set) ≡ false → is_number s set ≡ false
  by_set None apart = refl
  by_set (Some t) apart = elim (t == set) as (λ (b : Bool). (t == set) ≡ b → b ≡ false) [
    | true ↦ λ (same : _). absurd (cc
        (sym apart ∙ eq-eqb (place space t) (place space set) (ap (place space) (eqb-true t set same))))
    | false ↦ λ (_ : _). refl
  ] refl

  by_state : (o : Option PortState)
      → is_number (option_map (place space) (option_and_then (λ (port : PortState). port.set) o)) (place space set)
      ≡ false → elim o as (λ _. Bool) [ None ↦ false | Some port ↦ is_number port.set set ] ≡ false
  by_state None apart = refl
  by_state (Some port) apart = by_set port.set apart

  by_port : (o : Option ℕ) → is_number (option_map (place space) (option_and_then (set_in table.ports) o))
      (place space set) ≡ false → elim (option_and_then (λ serial. finmap.get table.ports serial) o) as (λ _. Bool)
      [ None ↦ false | Some port ↦ is_number port.set set ] ≡ false
  by_port None apart = refl
  by_port (Some serial) apart = by_state (finmap.get table.ports serial) apart

  pub no_member : q < 2 ^ 32 → finmap.get (names_in now space) q ≡ Some e
      → is_number (set_place spaces table.ports (place space q)) (place space set) ≡ false
      → member_under now set (q, e) ≡ []
  no_member small there apart =
      ap (λ (b : Bool). elim (cond b (received_port e) None) as (λ _. List (ℕ × ℕ))
      [ None ↦ [] | Some port ↦ (q, port) ∷ [] ])
      (by_port (received_port e) (sym (ap (λ (o : Option ℕ). is_number o (place space set)) (stood small there))
      ∙ apart))

-- if no place between two names is listed for the set, no name between them is a member's
pub none_between : (spaces : SpaceMap) (table : PortTable) (members : Numbers) (space set from until : ℕ)
    → space < 2 ^ 32 → AreMembers spaces table.ports members → AreSmall spaces
    → ((p : ℕ) → place space from ≤ p → p < until → p < 2 ^ 64 → stands_at members (place space set) p ≡ false)
    → (q : ℕ) (e : Entry) → from ≤ q → place space q < until
    → finmap.get (names_in (state_of spaces table) space) q ≡ Some e
    → member_under (state_of spaces table) set (q, e) ≡ []
none_between spaces table members space set from until few are small none q e more less there =
    let word : q < 2 ^ 32 = (small space q (ap is_some (entry_named (state_of spaces table) space q ∙ there))).1 in
    let fits : place space q < 2 ^ 64 = omega (arith, word, few) in
    no_member spaces table space set q e word there
    (sym (are (place space set) (place space q) fits) ∙ none (place space q) (omega (arith, more)) less fits)

-- The name that the index lists first is the first such name.
module _ (spaces : SpaceMap) (table : PortTable) (members : Numbers) (space set from : ℕ) (few : space < 2 ^ 32)
    (are : AreMembers spaces table.ports members) (small : AreSmall spaces) where
  abbrev state : Ipc
  state = state_of spaces table

  word : (q : ℕ) (e : Entry) → finmap.get (names_in state space) q ≡ Some e → q < 2 ^ 32
  word q e there = (small space q (ap is_some (entry_named state space q ∙ there))).1

  pub past_names : 2 ^ 32 ≤ from → IsNextPlace state space set from None
  past_names far = λ q e more there. absurd (omega (arith, far, more, word q e there))

  pub none_found : IsNext members (place space set) (place space from) None → IsNextPlace state space set from None
  none_found none = λ q e more there.
      none_between spaces table members space set from (2 ^ 64) few are small
      (λ p after _ fits. none p after fits) q e more (omega (arith, word q e there, few)) there

  pub other_space : (found : ℕ) → IsNext members (place space set) (place space from) (Some found)
      → (found / 2 ^ 32 ≡ space → ⊥) → IsNextPlace state space set from None
  other_space found is apart = λ q e more there.
      none_between spaces table members space set from found few are small
      (λ p after before _. is.3 p after before) q e more
      (elim (nat_lt (place space q) found)
      as (λ (b : Bool). nat_lt (place space q) found ≡ b → place space q < found) [
        | true ↦ λ (less : _). ltb-true (place space q) found less
        | false ↦ λ (high : _). absurd
            (apart (omega (arith, ltb-false (place space q) found high, is.0, word q e there)))
      ] refl) there

  pub name_found : (found : ℕ) → from < 2 ^ 32 → IsNext members (place space set) (place space from) (Some found)
      → found / 2 ^ 32 ≡ space → IsNextPlace state space set from (Some (found % 2 ^ 32))
  name_found found low is same = (
    omega (arith, is.0, same, low),
    λ q e more less there. none_between spaces table members space set from found few are small
        (λ p after before _. is.3 p after before) q e more (omega (arith, same, less)) there,
  )
