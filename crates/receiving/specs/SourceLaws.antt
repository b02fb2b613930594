-- The possible sources of a name, and the one that is found.
use Rattle.std.specs.Prelude.{◌≡◌, ℕ, zero, suc, Bool, true, false, cond, find, map, flat_map, Contains, List, [], ◌∷◌, ◌++◌, T, Option, None, Some, is_some, option_and_then, if◌then◌else◌, refl}
use Rattle.std.proofs.Common.{sym, ◌∙◌, ap, subst, arith}
use Rattle.std.specs.Ordering.{nat_cmp}
use Rattle.std.specs.FinMap as finmap
use Rattle.std.specs.FinMap.{entries_sorted, get-entries, is_sorted}
use Rattle.std.specs.FinMap.Entries.{below_all}
use Rattle.codes.specs.declared.kern_return.KernReturn.TheVariants.{RcvTimedOut, RcvPortChanged, RcvInSet}
use Rattle.ipc_model.specs.declared.entry.Entry.{Entry}
use Rattle.ipc_model.specs.declared.entry.Entry.TheVariants.{Port, SendOnce, Set, Dead}
use Rattle.ipc_model.specs.declared.message.Message.{Message}
use Rattle.ipc_model.specs.declared.port.PortState.{PortState}
use Rattle.ipc_model.specs.messages.Receiving.{ReceiveArguments, HoldsReceiveRight, all_empty, oldest, oldest_under, port_under, receive_refusal, refusal_of_sources, source_names, sources, sources_of_port}
use Rattle.ipc_model.specs.messages.Receiving as machine
use Rattle.ipc_model.specs.state.Ipc.{Ipc, Names, is_member, members_of, received_port}
use Rattle.ipc_laws.specs.Dangling.{later_found, front_of, back_of}
use Rattle.ipc_laws.specs.ListLaws.{some_same}
use Rattle.ipc_laws.specs.MapSums.{same_key}
use Rattle.rights.specs.Passed.{member_under, member_names, messages_at}
use Rattle.receiving.specs.Sources.{IsPreferred, IsSource, giver_of, port_giver, gives, has_message, is_in_set, is_preferred, port_refusal, source_list}
use Rattle.receiving.specs.declared.asked.Preference.{Preference}
use Rattle.receiving.specs.declared.asked.Preference.TheVariants as preference
use Rattle.receiving.specs.declared.source.Giver.{Giver}
use Rattle.receiving.specs.declared.source.Giver.TheVariants as giver

-- a name holds the receive right of one port
pub one_serial : (names : Names) (member serial other : ℕ) → HoldsReceiveRight names member serial
    → HoldsReceiveRight names member other → serial ≡ other
one_serial names member serial other first second =
    let entry : first.0 ≡ second.0 = some_same first.0 second.0 (sym first.1 ∙ second.1) in
    some_same serial other (sym first.2 ∙ ap received_port entry ∙ second.2)

-- lists

here : {X : Type 0} (x : X) (xs : List X) → Contains (x ∷ xs) x
here x xs = (zero, omega arith, refl)

later : {X : Type 0} (x y : X) (xs : List X) → Contains xs y → Contains (x ∷ xs) y
later x y xs at = (suc at.0, omega (arith, at.1), at.2)

split : {X : Type 0} (x y : X) (xs : List X) (P : Type 0) → Contains (x ∷ xs) y → (x ≡ y → P) → (Contains xs y → P) → P
split x y xs P (zero, less, is) first rest = first is
split x y xs P (suc k, less, is) first rest = rest (k, omega (arith, less), is)

in_none : {X : Type 0} (y : X) (P : Type 0) → Contains {X = X} [] y → P
in_none y P at = absurd (omega (arith, at.1))

names_of_pair : (pairs : List (ℕ × ℕ)) (member serial : ℕ) → Contains pairs (member, serial)
    → Contains (map (λ p. p.0) pairs) member
names_of_pair [] member serial at = in_none (member, serial) _ at
names_of_pair (p ∷ pairs) member serial at =
    split p (member, serial) pairs (Contains (map (λ q. q.0) (p ∷ pairs)) member) at
    (λ (is : p ≡ (member, serial)). subst
    (λ (n : ℕ). Contains (map (λ q. q.0) (p ∷ pairs)) n) (ap (λ (q : ℕ × ℕ). q.0) is)
    (here p.0 (map (λ q. q.0) pairs)))
    (λ (rest : Contains pairs (member, serial)). later p.0 member (map (λ q. q.0) pairs)
    (names_of_pair pairs member serial rest))

pair_of_name : (pairs : List (ℕ × ℕ)) (member : ℕ) → Contains (map (λ p. p.0) pairs) member → (serial : ℕ)
    × Contains pairs (member, serial)
pair_of_name [] member at = in_none member _ at
pair_of_name (p ∷ pairs) member at =
    split p.0 member (map (λ q. q.0) pairs) ((serial : ℕ) × Contains (p ∷ pairs) (member, serial)) at
    (λ (is : p.0 ≡ member). (p.1, subst (λ (n : ℕ). Contains (p ∷ pairs) (n, p.1)) is (here p pairs)))
    (λ (rest : Contains (map (λ q. q.0) pairs) member). let found = pair_of_name pairs member rest in
    (found.0, later p (member, found.0) pairs found.1))

-- a search finds an element of the list that passes the test, or nothing if no element passes
pub find_there : (test : ℕ × ℕ → Bool) (pairs : List (ℕ × ℕ)) (pair : ℕ × ℕ) → find test pairs ≡ Some pair
    → Contains pairs pair × (test pair ≡ true)
find_there test [] pair is = absurd (cc is)
find_there test (p ∷ pairs) pair is =
    elim (test p) as (λ (b : Bool). test p ≡ b → cond b (Some p) (find test pairs) ≡ Some pair
    → Contains (p ∷ pairs) pair × (test pair ≡ true)) [
      | true ↦ λ (passes : _) (same : _).
          let is_p : p ≡ pair = some_same p pair same in
          (subst (λ (q : ℕ × ℕ). Contains (p ∷ pairs) q) is_p (here p pairs), ap test (sym is_p) ∙ passes)
      | false ↦ λ (_ : _) (rest : _). let found = find_there test pairs pair rest in
          (later p pair pairs found.0, found.1)
    ] refl is

pub find_none : (test : ℕ × ℕ → Bool) (pairs : List (ℕ × ℕ)) → find test pairs ≡ None → (pair : ℕ × ℕ)
    → Contains pairs pair → test pair ≡ false
find_none test [] is pair at = in_none pair _ at
find_none test (p ∷ pairs) is pair at =
    elim (test p) as (λ (b : Bool). test p ≡ b → cond b (Some p) (find test pairs) ≡ None → test pair ≡ false) [
      | true ↦ λ (_ : _) (none : _). absurd (cc none)
      | false ↦ λ (fails : _) (none : _).
          split p pair pairs (test pair ≡ false) at (λ (same : p ≡ pair). ap test (sym same) ∙ fails)
          (λ (rest : Contains pairs pair). find_none test pairs none pair rest)
    ] refl is

-- the members of a set

abbrev pub member_pairs : Ipc → Names → ℕ → List (ℕ × ℕ)
member_pairs state names set = flat_map (member_under state set) (finmap.entries names)

-- a name that holds a port's receive right
one_pair : (state : Ipc) (set : ℕ) (e : ℕ × Entry) (rest : List (ℕ × ℕ)) (member serial : ℕ) (b : Bool) (o : Option ℕ)
    → received_port e.1 ≡ o
    → (P : Type 0) → Contains (elim (cond b o None) as (λ _. List (ℕ × ℕ)) [ None ↦ [] | Some port ↦ (e.0, port) ∷ [] ]
    ++ rest) (member, serial)
    → (e.0 ≡ member → received_port e.1 ≡ Some serial → P) → (Contains rest (member, serial) → P) → P
one_pair state set e rest member serial true None at P found first others = others found
one_pair state set e rest member serial true (Some port) at P found first others =
    split (e.0, port) (member, serial) rest P found
    (λ (is : (e.0, port) ≡ (member, serial)). first (ap (λ (p : ℕ × ℕ). p.0) is) (at ∙ ap (λ (p : ℕ × ℕ). Some p.1) is))
    others
one_pair state set e rest member serial false o at P found first others = others found

pair_held : (state : Ipc) (set : ℕ) (es : List (ℕ × Entry)) (member serial : ℕ) → T (is_sorted nat_cmp es)
    → Contains (flat_map (member_under state set) es) (member, serial)
    → (entry : Entry) × (finmap.find nat_cmp member es ≡ Some entry) × (received_port entry ≡ Some serial)
pair_held state set [] member serial sorted at = in_none (member, serial) _ at
pair_held state set (e ∷ es) member serial sorted at =
    let P : Type 0 =
    (entry : Entry) × (finmap.find nat_cmp member (e ∷ es) ≡ Some entry) × (received_port entry ≡ Some serial) in
    one_pair state set e (flat_map (member_under state set) es) member serial (is_member state set e.1)
    (received_port e.1) refl P at
    (λ (is : e.0 ≡ member) (holds : received_port e.1 ≡ Some serial). (
      e.1,
      subst (λ (n : ℕ). finmap.find nat_cmp n (e ∷ es) ≡ Some e.1) is
          (ap (λ (b : Bool). cond b (Some e.1) (finmap.find nat_cmp e.0 es)) (same_key e.0)),
      holds,
    ))
    (λ (rest : Contains (flat_map (member_under state set) es) (member, serial)).
    let found =
    pair_held state set es member serial (back_of (below_all nat_cmp e.0 es) (is_sorted nat_cmp es) sorted) rest in (
      found.0,
      later_found member found.0 e es
          (front_of (below_all nat_cmp e.0 es) (is_sorted nat_cmp es) sorted) found.1,
      found.2,
    ))

pub pair_holds : (state : Ipc) (names : Names) (set member serial : ℕ)
    → Contains (member_pairs state names set) (member, serial) → HoldsReceiveRight names member serial
pair_holds state names set member serial at =
    let found = pair_held state set (finmap.entries names) member serial (entries_sorted names) at in
    (found.0, get-entries names member ∙ found.1, found.2)

pub pair_named : (state : Ipc) (names : Names) (set member serial : ℕ)
    → Contains (member_pairs state names set) (member, serial) → Contains (members_of state names set) member
pair_named state names set member serial at =
    subst (λ (l : List ℕ). Contains l member) (member_names state set (finmap.entries names))
    (names_of_pair (member_pairs state names set) member serial at)

pub named_pair : (state : Ipc) (names : Names) (set member serial : ℕ) → Contains (members_of state names set) member
    → HoldsReceiveRight names member serial → Contains (member_pairs state names set) (member, serial)
named_pair state names set member serial at holds =
    let found =
    pair_of_name (member_pairs state names set) member
    (subst (λ (l : List ℕ). Contains l member) (sym (member_names state set (finmap.entries names))) at) in
    subst (λ (s : ℕ). Contains (member_pairs state names set) (member, s))
    (one_serial names member found.0 serial (pair_holds state names set member found.0 found.1) holds) found.1

-- the oldest message of the port whose receive right a name holds

under_held : (state : Ipc) (names : Names) (member serial : ℕ) → HoldsReceiveRight names member serial
    → port_under state names member ≡ finmap.get state.ports serial
under_held state names member serial holds =
    ap (λ (o : Option Entry). option_and_then (λ (s : ℕ). finmap.get state.ports s) (option_and_then received_port o))
    holds.1
    ∙ ap (λ (o : Option ℕ). option_and_then (λ (s : ℕ). finmap.get state.ports s) o) holds.2

pub has_under : (state : Ipc) (names : Names) (member serial : ℕ) → HoldsReceiveRight names member serial
    → is_some (oldest_under state names member) ≡ has_message state serial
has_under state names member serial holds =
    ap (λ (o : Option PortState). is_some (option_and_then (λ (port : PortState). oldest port.messages) o))
    (under_held state names member serial holds)
    ∙ ap is_some (by_port (finmap.get state.ports serial) refl)
  where
    by_port : (o : Option PortState) → finmap.get state.ports serial ≡ o
        → option_and_then (λ (port : PortState). oldest port.messages) o ≡ oldest (messages_at state.ports serial)
    by_port None at =
        ap (λ (p : Option PortState). oldest (elim p as (λ _. List Message) [ None ↦ [] | Some port ↦ port.messages ]))
        (sym at)
    by_port (Some port) at =
        ap (λ (p : Option PortState). oldest (elim p as (λ _. List Message) [ None ↦ [] | Some q ↦ q.messages ]))
        (sym at)

-- some port of a list has a message, or none has

none_empty : (state : Ipc) (names : Names) (among : List ℕ) (member : ℕ) → Contains among member
    → is_some (oldest_under state names member) ≡ true → all_empty state names among ≡ false
none_empty state names [] member at has = in_none member _ at
none_empty state names (name ∷ others) member at has =
    elim (is_some (oldest_under state names name))
    as (λ (b : Bool). is_some (oldest_under state names name) ≡ b
    → (if b then false else all_empty state names others) ≡ false) [
      | true ↦ λ (_ : _). refl
      | false ↦ λ (none : _).
          split name member others (all_empty state names others ≡ false) at
          (λ (same : name ≡ member). absurd
          (cc (sym has ∙ ap (λ (n : ℕ). is_some (oldest_under state names n)) (sym same) ∙ none)))
          (λ (rest : Contains others member). none_empty state names others member rest has)
    ] refl

every_empty : (state : Ipc) (names : Names) (among : List ℕ)
    → ((member : ℕ) → Contains among member → is_some (oldest_under state names member) ≡ false)
    → all_empty state names among ≡ true
every_empty state names [] each = refl
every_empty state names (name ∷ others) each =
    ap (λ (b : Bool). if b then false else all_empty state names others) (each name (here name others))
    ∙ every_empty state names others
    (λ (member : ℕ) (at : Contains others member). each member (later name member others at))

-- By the source of a name's messages.

same_port : (one other : ℕ) → giver.Port one ≡ giver.Port other → one ≡ other
same_port one other e = ap port_in e
  where
    port_in : Giver → ℕ
    port_in giver.Nothing = one
    port_in (giver.Port port) = port
    port_in giver.Set = one

record FromPort (state : Ipc) (names : Names) (name serial : ℕ) (o : Option Entry) : Type 0 where
  entry : Entry
  there : o ≡ Some entry
  received : received_port entry ≡ Some serial
  alone : sources state names name o ≡ Some (name ∷ [])

from_port : (state : Ipc) (names : Names) (name serial : ℕ) (o : Option Entry) → giver_of o ≡ giver.Port serial
    → FromPort state names name serial o
from_port state names name serial None is = absurd (cc is)
from_port state names name serial (Some (Port rights)) is =
    elim rights.receive as (λ (b : Bool). rights.receive ≡ b → port_giver rights.port b ≡ giver.Port serial
    → FromPort state names name serial (Some (Port rights))) [
      | true ↦ λ (receive : _) (same : _). record {
        entry = Port rights;
        there = refl;
        received =
            ap (λ (b : Bool). if b then Some rights.port else None) receive ∙ ap
            (λ (n : ℕ). Some n) (same_port rights.port serial same);
        alone = ap (sources_of_port name) receive;
      }
      | false ↦ λ (_ : _) (e : _). absurd (cc e)
    ] refl is
from_port state names name serial (Some (SendOnce port target)) is = absurd (cc is)
from_port state names name serial (Some Set) is = absurd (cc is)
from_port state names name serial (Some (Dead references)) is = absurd (cc is)

pub port_held : (state : Ipc) (names : Names) (name serial : ℕ) → giver_of (finmap.get names name) ≡ giver.Port serial
    → HoldsReceiveRight names name serial
port_held state names name serial is =
    let from = from_port state names name serial (finmap.get names name) is in (from.entry, from.there, from.received)

pub port_refused : (state : Ipc) (names : Names) (arguments : ReceiveArguments) (serial : ℕ)
    → giver_of (finmap.get names arguments.name) ≡ giver.Port serial
    → receive_refusal state names arguments ≡ port_refusal state arguments serial
port_refused state names arguments serial is =
    let from = from_port state names arguments.name serial (finmap.get names arguments.name) is in
    let holds : HoldsReceiveRight names arguments.name serial = port_held state names arguments.name serial is in
    let within : machine.is_in_set state names arguments.name ≡ is_in_set state serial =
    ap (λ (o : Option PortState). elim o as (λ _. Bool) [ None ↦ false | Some port ↦ is_some port.set ])
    (under_held state names arguments.name serial holds) in
    let has = has_under state names arguments.name serial holds in
    ap (refusal_of_sources state names arguments) from.alone
    ∙ ap (λ (b : Bool). if b then Some (if arguments.waited then RcvPortChanged else RcvInSet)
    else if all_empty state names (arguments.name ∷ []) then Some RcvTimedOut else None) within
    ∙ ap (λ (b : Bool). if is_in_set state serial then Some (if arguments.waited then RcvPortChanged else RcvInSet)
    else if (if b then false else true) then Some RcvTimedOut else None) has
    ∙ turned (has_message state serial)
  where
    turned : (b : Bool) → (if is_in_set state serial then Some (if arguments.waited then RcvPortChanged else RcvInSet)
        else if (if b then false else true) then Some RcvTimedOut else None)
        ≡ (if is_in_set state serial then Some (if arguments.waited then RcvPortChanged else RcvInSet) else if b then
        None else Some RcvTimedOut)
    turned true = refl
    turned false = refl

-- sets

set_there : (o : Option Entry) → giver_of o ≡ giver.Set → o ≡ Some Set
set_there None is = absurd (cc is)
set_there (Some (Port rights)) is =
    elim rights.receive as (λ (b : Bool). port_giver rights.port b ≡ giver.Set → Some (Port rights) ≡ Some Set) [
      | true ↦ λ (e : _). absurd (cc e)
      | false ↦ λ (e : _). absurd (cc e)
    ] is
set_there (Some (SendOnce port target)) is = absurd (cc is)
set_there (Some Set) is = refl
set_there (Some (Dead references)) is = absurd (cc is)

pub set_members : (state : Ipc) (names : Names) (arguments : ReceiveArguments)
    → giver_of (finmap.get names arguments.name) ≡ giver.Set
    → source_list state names arguments ≡ members_of state names arguments.name
set_members state names arguments is =
    ap (λ (o : Option Entry). source_names (sources state names arguments.name o))
    (set_there (finmap.get names arguments.name) is)

set_refused : (state : Ipc) (names : Names) (arguments : ReceiveArguments) → giver_of
    (finmap.get names arguments.name) ≡ giver.Set → receive_refusal state names arguments
    ≡ (if all_empty state names (members_of state names arguments.name) then Some RcvTimedOut else None)
set_refused state names arguments is =
    let there = set_there (finmap.get names arguments.name) is in
    ap (λ (o : Option Entry). refusal_of_sources state names arguments (sources state names arguments.name o)) there
    ∙ ap (λ (o : Option PortState). if (elim o as (λ _. Bool) [ None ↦ false | Some port ↦ is_some port.set ])
    then Some (if arguments.waited then RcvPortChanged else RcvInSet)
    else if all_empty state names (members_of state names arguments.name) then Some RcvTimedOut
    else None) (ap (λ (o : Option Entry). option_and_then
    (λ (s : ℕ). finmap.get state.ports s) (option_and_then received_port o)) there)

pub set_source : (state : Ipc) (names : Names) (arguments : ReceiveArguments) (test : ℕ × ℕ → Bool)
    (member serial : ℕ) → giver_of (finmap.get names arguments.name) ≡ giver.Set
    → find test (member_pairs state names arguments.name) ≡ Some (member, serial)
    → (test (member, serial) ≡ true → has_message state serial ≡ true) → IsSource state names arguments member serial
set_source state names arguments test member serial is found passes =
    let there = find_there test (member_pairs state names arguments.name) (member, serial) found in
    let named : Contains (members_of state names arguments.name) member =
    pair_named state names arguments.name member serial there.0 in
    let holds = pair_holds state names arguments.name member serial there.0 in
    let has = passes there.1 in
    record {
      passes = set_refused state names arguments is
          ∙ ap (λ (b : Bool). if b then Some RcvTimedOut else None)
          (none_empty state names (members_of state names arguments.name) member named
          (has_under state names member serial holds ∙ has));
      among = subst (λ (l : List ℕ). Contains l member) (sym (set_members state names arguments is)) named;
      holds = holds;
      has = has;
    }

pub gives_has : (state : Ipc) (names : Names) (arguments : ReceiveArguments) (preference : Preference)
    (member serial : ℕ)
    → gives state names arguments preference (member, serial) ≡ true → has_message state serial ≡ true
gives_has state names arguments preference member serial is =
    elim (has_message state serial)
    as (λ (b : Bool). (if b then is_preferred state names arguments preference member serial else false) ≡ true
    → b ≡ true) [
      | true ↦ λ (_ : _). refl
      | false ↦ λ (e : _). absurd (cc e)
    ] is

pub gives_preferred : (state : Ipc) (names : Names) (arguments : ReceiveArguments) (preference : Preference)
    (member serial : ℕ) → gives state names arguments preference (member, serial) ≡ true
    → is_preferred state names arguments preference member serial ≡ true
gives_preferred state names arguments preference member serial is =
    elim (has_message state serial)
    as (λ (b : Bool). (if b then is_preferred state names arguments preference member serial else false) ≡ true
    → is_preferred state names arguments preference member serial ≡ true) [
      | true ↦ λ (e : _). e
      | false ↦ λ (e : _). absurd (cc e)
    ] is

both_give : (state : Ipc) (names : Names) (arguments : ReceiveArguments) (preference : Preference) (member serial : ℕ)
    → has_message state serial ≡ true → is_preferred state names arguments preference member serial ≡ true
    → gives state names arguments preference (member, serial) ≡ true
both_give state names arguments preference member serial has preferred =
    ap (λ (b : Bool). if b then is_preferred state names arguments preference member serial else false) has ∙ preferred

-- no member is preferred if the search for a preferred one found none
pub none_preferred : (state : Ipc) (names : Names) (arguments : ReceiveArguments) (preference : Preference)
    (member serial : ℕ) → giver_of (finmap.get names arguments.name) ≡ giver.Set
    → find (gives state names arguments preference) (member_pairs state names arguments.name) ≡ None
    → IsPreferred state names arguments preference member serial
none_preferred state names arguments preference member serial is none = λ other port at holds has preferred.
    let named = subst (λ (l : List ℕ). Contains l other) (set_members state names arguments is) at in
    let fails =
    find_none (gives state names arguments preference) (member_pairs state names arguments.name) none (other, port)
    (named_pair state names arguments.name other port named holds) in
    absurd (cc (sym (both_give state names arguments preference other port has preferred) ∙ fails))

has_none : (b : Bool) → (if b then true else false) ≡ false → b ≡ false
has_none true e = absurd (cc e)
has_none false e = refl

pub set_empty : (state : Ipc) (names : Names) (arguments : ReceiveArguments)
    → giver_of (finmap.get names arguments.name) ≡ giver.Set
    → find (gives state names arguments preference.Least) (member_pairs state names arguments.name) ≡ None
    → receive_refusal state names arguments ≡ Some RcvTimedOut
set_empty state names arguments is none =
    set_refused state names arguments is
    ∙ ap (λ (b : Bool). if b then Some RcvTimedOut else None)
    (every_empty state names (members_of state names arguments.name) each)
  where
    each : (member : ℕ) → Contains (members_of state names arguments.name) member
        → is_some (oldest_under state names member) ≡ false
    each member at =
        let found =
        pair_of_name (member_pairs state names arguments.name) member
        (subst (λ (l : List ℕ). Contains l member)
        (sym (member_names state arguments.name (finmap.entries names))) at) in
        let holds = pair_holds state names arguments.name member found.0 found.1 in
        let fails =
        find_none (gives state names arguments preference.Least) (member_pairs state names arguments.name) none
        (member, found.0) found.1 in
        has_under state names member found.0 holds ∙ has_none (has_message state found.0) fails
