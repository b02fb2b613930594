-- Linked rows are those of a state in which each right is to a live port, each port has one name in a space, and sets
-- are in the space that holds their members' receive rights. Conversely, the rows of a lawful state are linked.
use Rattle.std.proofs.Common.{◌≡◌, ◌≢◌, inl, inr, ℕ, zero, suc, ◌+◌, ◌≤◌, ◌==◌, Bool, true, false, cond, T, ◌&&◌, ◌||◌, not, if◌then◌else◌, All, List, [], ◌∷◌, map, Option, None, Some, is_some, refl, sym, ◌∙◌, ap, subst, arith}
use Rattle.std.specs.List.{list_all, list_any}
use Rattle.std.specs.Ordering.{nat_cmp, eq_by_cmp}
use Rattle.std.specs.FinMap as finmap
use Rattle.std.specs.FinMap.{FinMap, entries, get, find, is_sorted, entries_sorted, get-entries, remove}
use Rattle.std.specs.FinMap.Entries.{below_all}
use Rattle.std.proofs.lemmas.Bool.{eq-eqb}
use Rattle.std.proofs.lemmas.List.Elements.{All-nil, All-cons, All-head, All-tail}
use Rattle.ipc_laws.specs.Dangling.{apart_zero, live_apart, not_equal, front_of, back_of, later_found, total-zero}
use Rattle.ipc_laws.specs.ListLaws.{some_same}
use Rattle.ipc_laws.specs.MapLaws.{get-left}
use Rattle.ipc_laws.specs.MapSums.{key_is, same_key, weigh, total, weight, total-remove}
use Rattle.ipc_laws.specs.Others.{number_decided}
use Rattle.ipc_laws.specs.Weights.{Weight, any_of, carried_weigh, entry_weigh, message_weigh, names_weigh, place_weigh, port_weigh, reply_weigh, state_weigh, target_weigh}
use Rattle.ipc_model.specs.calls.PortCalls.{names_in, stands_elsewhere}
use Rattle.ipc_model.specs.declared.entry.Entry.{Entry}
use Rattle.ipc_model.specs.declared.entry.Entry.TheVariants.{Port, SendOnce, Set, Dead}
use Rattle.ipc_model.specs.declared.message.CarriedRight.{CarriedRight}
use Rattle.ipc_model.specs.declared.message.Message.{Message}
use Rattle.ipc_model.specs.declared.message.PortInMessage.{PortInMessage}
use Rattle.ipc_model.specs.declared.message.PortInMessage.TheVariants as in_message
use Rattle.ipc_model.specs.declared.message.PortInMessage.TheVariants.{Null, Live}
use Rattle.ipc_model.specs.declared.message.RightKind.{RightKind}
use Rattle.ipc_model.specs.declared.message.RightKind.TheVariants as kind
use Rattle.ipc_model.specs.declared.port.PortState.{PortState}
use Rattle.ipc_model.specs.state.Ipc.{Names, Ipc, is_number, lives, port_held}
use Rattle.snapshot.specs.Snapshots.{ipc_snapshot_of}
use Rattle.snapshot.specs.declared.rows.IpcSnapshot.{IpcSnapshot}
use Rattle.snapshot_loading.specs.Linked.{Looks, looks_of, is_linked, is_linked_message, is_linked_name, is_linked_port, is_linked_row, is_linked_space, is_live_place, is_live_target, replies_well, stands_well, travels_well}
use Rattle.snapshot.specs.Rows.{named_row, port_row, space_row}

-- Booleans.

pub first_holds : (a b : Bool) → (a && b) ≡ true → a ≡ true
first_holds true b e = refl
first_holds false b e = absurd (cc e)

pub second_holds : (a b : Bool) → (a && b) ≡ true → b ≡ true
second_holds true b e = e
second_holds false b e = absurd (cc e)

pub both_hold : (a b : Bool) → a ≡ true → b ≡ true → (a && b) ≡ true
both_hold true b p q = q
both_hold false b p q = absurd (cc p)

pub isnt : (b : Bool) → not b ≡ true → b ≡ false
isnt true e = absurd (cc e)
isnt false e = refl

pub is_not : (b : Bool) → b ≡ false → not b ≡ true
is_not true e = absurd (cc e)
is_not false e = refl

-- Lists and maps.

all_mapped : {A B : Type 0} (p : B → Bool) (f : A → B) (xs : List A)
    → list_all p (map f xs) ≡ list_all (λ x. p (f x)) xs
all_mapped p f [] = refl
all_mapped p f (x ∷ xs) = ap (λ (b : Bool). p (f x) && b) (all_mapped p f xs)

module _ {X : Type 0} where
  found_true : (p : ℕ × X → Bool) (es : List (ℕ × X)) (k : ℕ) (x : X) → list_all p es ≡ true
      → find nat_cmp k es ≡ Some x → p (k, x) ≡ true
  found_true p [] k x all there = absurd (cc there)
  found_true p (e ∷ es) k x all there =
      elim (eq_by_cmp nat_cmp k e.0)
      as (λ (b : Bool). eq_by_cmp nat_cmp k e.0 ≡ b → cond b (Some e.1) (find nat_cmp k es) ≡ Some x
      → p (k, x) ≡ true) [
        | true ↦ λ (same : _) (here : _).
            subst (λ (q : ℕ × X). p q ≡ true)
            (ap (λ (n : ℕ). (n, e.1)) (sym (key_is k e.0 same)) ∙ ap (λ (v : X). (k, v)) (some_same e.1 x here))
            (first_holds (p e) (list_all p es) all)
        | false ↦ λ (_ : _) (later : _). found_true p es k x (second_holds (p e) (list_all p es) all) later
      ] refl there

  -- all entries pass a test exactly if each does
  pub each_true : (p : ℕ × X → Bool) (m : FinMap {K = ℕ} nat_cmp X) (k : ℕ) (x : X) → list_all p (entries m) ≡ true
      → get m k ≡ Some x → p (k, x) ≡ true
  each_true p m k x all there = found_true p (entries m) k x all (sym (get-entries m k) ∙ there)

  all_found : (p : ℕ × X → Bool) (es : List (ℕ × X)) → T (is_sorted nat_cmp es)
      → ((k : ℕ) (x : X) → find nat_cmp k es ≡ Some x → p (k, x) ≡ true) → list_all p es ≡ true
  all_found p [] sorted each = refl
  all_found p (e ∷ es) sorted each =
      both_hold (p e) (list_all p es)
      (each e.0 e.1 (ap (λ (b : Bool). cond b (Some e.1) (find nat_cmp e.0 es)) (same_key e.0)))
      (all_found p es (back_of (below_all nat_cmp e.0 es) (is_sorted nat_cmp es) sorted)
      (λ k x there. each k x (later_found k x e es
      (front_of (below_all nat_cmp e.0 es) (is_sorted nat_cmp es) sorted) there)))

  pub all_true : (p : ℕ × X → Bool) (m : FinMap {K = ℕ} nat_cmp X)
      → ((k : ℕ) (x : X) → get m k ≡ Some x → p (k, x) ≡ true) → list_all p (entries m) ≡ true
  all_true p m each = all_found p (entries m) (entries_sorted m) (λ k x there. each k x (get-entries m k ∙ there))

  -- a search finds an entry that passes the test, if there is one
  any_found : (p : ℕ × X → Bool) (es : List (ℕ × X)) (k : ℕ) (x : X) → find nat_cmp k es ≡ Some x → p (k, x) ≡ true
      → list_any p es ≡ true
  any_found p [] k x there passes = absurd (cc there)
  any_found p (e ∷ es) k x there passes =
      elim (eq_by_cmp nat_cmp k e.0)
      as (λ (b : Bool). eq_by_cmp nat_cmp k e.0 ≡ b → cond b (Some e.1) (find nat_cmp k es) ≡ Some x
      → (p e || list_any p es) ≡ true) [
        | true ↦ λ (same : _) (here : _). left (p e) (list_any p es)
            (subst (λ (q : ℕ × X). p q ≡ true)
            (ap (λ (v : X). (k, v)) (sym (some_same e.1 x here)) ∙ ap (λ (n : ℕ). (n, e.1)) (key_is k e.0 same))
            passes)
        | false ↦ λ (_ : _) (later : _). right (p e) (list_any p es) (any_found p es k x later passes)
      ] refl there
    where
      left : (a b : Bool) → a ≡ true → (a || b) ≡ true
      left true b e = refl
      left false b e = absurd (cc e)

      right : (a b : Bool) → b ≡ true → (a || b) ≡ true
      right true b e = refl
      right false b e = e

  pub found_any : (p : ℕ × X → Bool) (es : List (ℕ × X)) → T (is_sorted nat_cmp es) → list_any p es ≡ true → (k : ℕ)
      × (x : X) × (find nat_cmp k es ≡ Some x) × (p (k, x) ≡ true)
  found_any p [] sorted any = absurd (cc any)
  found_any p (e ∷ es) sorted any =
      elim (p e) as (λ (b : Bool). p e ≡ b → (b || list_any p es) ≡ true → (k : ℕ) × (x : X)
      × (find nat_cmp k (e ∷ es) ≡ Some x) × (p (k, x) ≡ true)) [
        | true ↦ λ (is : _) (_ : _). (
          e.0,
          e.1,
          ap (λ (b : Bool). cond b (Some e.1) (find nat_cmp e.0 es)) (same_key e.0),
          is,
        )
        | false ↦ λ (_ : _) (later : _).
            let rest = found_any p es (back_of (below_all nat_cmp e.0 es) (is_sorted nat_cmp es) sorted) later in (
              rest.0,
              rest.1,
              later_found rest.0 rest.1 e es
                  (front_of (below_all nat_cmp e.0 es) (is_sorted nat_cmp es) sorted) rest.2,
              rest.3,
            )
      ] refl any

  -- a positive sum has a positive part
  some_found : (f : ℕ → X → ℕ) (es : List (ℕ × X)) → T (is_sorted nat_cmp es) → 1 ≤ weigh (λ e. f e.0 e.1) es → (k : ℕ)
      × (x : X) × (find nat_cmp k es ≡ Some x) × (1 ≤ f k x)
  some_found f [] sorted some = absurd (omega (arith, some))
  some_found f (e ∷ es) sorted some =
      elim (f e.0 e.1) as (λ (n : ℕ). f e.0 e.1 ≡ n → (k : ℕ) × (x : X) × (find nat_cmp k (e ∷ es) ≡ Some x)
      × (1 ≤ f k x)) [
        | zero ↦ λ (none : _).
            let rest =
            some_found f es (back_of (below_all nat_cmp e.0 es) (is_sorted nat_cmp es) sorted)
            (omega (arith, some, none)) in (
              rest.0,
              rest.1,
              later_found rest.0 rest.1 e es
                  (front_of (below_all nat_cmp e.0 es) (is_sorted nat_cmp es) sorted) rest.2,
              rest.3,
            )
        | suc n ↦ λ (is : _). (
          e.0,
          e.1,
          ap (λ (b : Bool). cond b (Some e.1) (find nat_cmp e.0 es)) (same_key e.0),
          omega (arith, is),
        )
      ] refl

  pub some_entry : (f : ℕ → X → ℕ) (m : FinMap {K = ℕ} nat_cmp X) → 1 ≤ total f m → (k : ℕ) × (x : X)
      × (get m k ≡ Some x) × (1 ≤ f k x)
  some_entry f m some =
      let found = some_found f (entries m) (entries_sorted m) some in
      (found.0, found.1, get-entries m found.0 ∙ found.2, found.3)

  -- the part of one entry in a sum, and the parts of two
  pub one_part : (f : ℕ → X → ℕ) (m : FinMap {K = ℕ} nat_cmp X) (k : ℕ) (x : X) → get m k ≡ Some x → f k x ≤ total f m
  one_part f m k x there =
      let taken : total f (remove m k) + f k x ≡ total f m =
      subst (λ (o : Option X). total f (remove m k) + weight f k o ≡ total f m) there (total-remove f m k) in
      omega (arith, taken)

  pub two_parts : (f : ℕ → X → ℕ) (m : FinMap {K = ℕ} nat_cmp X) (k q : ℕ) (x y : X) → k ≢ q → get m k ≡ Some x
      → get m q ≡ Some y → f k x + f q y ≤ total f m
  two_parts f m k q x y apart here there =
      let taken : total f (remove m k) + f k x ≡ total f m =
      subst (λ (o : Option X). total f (remove m k) + weight f k o ≡ total f m) here (total-remove f m k) in
      let other : f q y ≤ total f (remove m k) =
      one_part f (remove m k) q y (get-left m k q (λ same. apart (sym same)) ∙ there) in
      omega (arith, taken, other)

-- a positive sum has a positive element
pub some_of : {A : Type 0} (f : A → ℕ) (P : A → Type 0) (xs : List A) → All P xs → 1 ≤ weigh f xs → (x : A) × (1 ≤ f x)
    × P x
some_of f P [] all some = absurd (omega (arith, some))
some_of {A = A} f P (x ∷ xs) all some = elim (f x) as (λ (n : ℕ). f x ≡ n → (y : A) × (1 ≤ f y) × P y) [
  | zero ↦ λ (none : _). some_of f P xs (All-tail P x xs all) (omega (arith, some, none))
  | suc n ↦ λ (is : _). (x, omega (arith, is), All-head P x xs all)
] refl

pub true_of : {A : Type 0} (p : A → Bool) (xs : List A) → list_all p xs ≡ true → All (λ x. p x ≡ true) xs
true_of p [] all = All-nil (λ x. p x ≡ true)
true_of p (x ∷ xs) all =
    All-cons (λ y. p y ≡ true) x xs (first_holds (p x) (list_all p xs) all)
    (true_of p xs (second_holds (p x) (list_all p xs) all))

none_of : {A : Type 0} (f : A → ℕ) (p : A → Bool) (xs : List A) → ((x : A) → p x ≡ true → f x ≡ 0)
    → list_all p xs ≡ true → weigh f xs ≡ 0
none_of f p [] none all = refl
none_of f p (x ∷ xs) none all =
    omega (
      arith,
      none x (first_holds (p x) (list_all p xs) all),
      none_of f p xs none (second_holds (p x) (list_all p xs) all),
    )

-- a fact about each part of a list that weighs no more than the whole
pub parts_true : {A : Type 0} (f : Weight → A → ℕ) (p : A → Bool) (bound : Weight → ℕ) (xs : List A)
    → ((x : A) → ((w : Weight) → f w x ≤ bound w) → p x ≡ true) → ((w : Weight) → weigh (f w) xs ≤ bound w)
    → list_all p xs ≡ true
parts_true f p bound [] each within = refl
parts_true f p bound (x ∷ xs) each within =
    both_hold (p x) (list_all p xs) (each x (λ w. omega (arith, within w)))
    (parts_true f p bound xs each (λ w. omega (arith, within w)))

-- The rows of a state.

-- each entry, and the state of each port, is linked
abbrev pub AreWell : Ipc → Type 0
AreWell state =
    (space name : ℕ) (names : Names) (entry : Entry) → get state.spaces space ≡ Some names → get names name ≡ Some entry
    → stands_well (looks_of state) space name entry ≡ true

abbrev pub AreTight : Ipc → Type 0
AreTight state =
    (serial : ℕ) (port : PortState) → get state.ports serial ≡ Some port → is_linked_port (looks_of state) port ≡ true

module _ (state : Ipc) (snapshot : IpcSnapshot) (same : snapshot ≡ ipc_snapshot_of state) where
  abbrev looks : Looks
  looks = looks_of state

  spaces_are : snapshot.spaces ≡ map space_row (entries state.spaces)
  unfolding ipc_snapshot_of
  spaces_are = ap (λ (s : IpcSnapshot). s.spaces) same

  ports_are : snapshot.ports ≡ map port_row (entries state.ports)
  unfolding ipc_snapshot_of
  ports_are = ap (λ (s : IpcSnapshot). s.ports) same

  pub all_well : is_linked (looks_of state) snapshot ≡ true → AreWell state × AreTight state
  all_well linked = (
    λ space name names entry there at.
        each_true (λ (e : ℕ × Entry). is_linked_name looks space (named_row e)) names name entry
        (sym (all_mapped (is_linked_name looks space) named_row (entries names)) ∙ each_true
        (λ (e : ℕ × Names). is_linked_space looks (space_row e)) state.spaces space names
        (sym (all_mapped (is_linked_space looks) space_row (entries state.spaces))
        ∙ ap (list_all (is_linked_space looks)) (sym spaces_are)
        ∙ first_holds (list_all (is_linked_space looks) snapshot.spaces)
        (list_all (is_linked_row looks) snapshot.ports) linked) there) at,
    λ serial port there.
        each_true (λ (e : ℕ × PortState). is_linked_row looks (port_row e)) state.ports serial port
        (sym (all_mapped (is_linked_row looks) port_row (entries state.ports))
        ∙ ap (list_all (is_linked_row looks)) (sym ports_are)
        ∙ second_holds (list_all (is_linked_space looks) snapshot.spaces)
        (list_all (is_linked_row looks) snapshot.ports) linked) there,
  )

  pub well_all : AreWell state → AreTight state → is_linked (looks_of state) snapshot ≡ true
  well_all well tight =
      both_hold (list_all (is_linked_space looks) snapshot.spaces) (list_all (is_linked_row looks) snapshot.ports)
      (ap (list_all (is_linked_space looks)) spaces_are
      ∙ all_mapped (is_linked_space looks) space_row (entries state.spaces)
      ∙ all_true (λ (e : ℕ × Names). is_linked_space looks (space_row e)) state.spaces (λ space names there.
      all_mapped (is_linked_name looks space) named_row (entries names) ∙ all_true
      (λ (e : ℕ × Entry). is_linked_name looks space (named_row e)) names
      (λ name entry at. well space name names entry there at)))
      (ap (list_all (is_linked_row looks)) ports_are ∙ all_mapped (is_linked_row looks) port_row (entries state.ports)
      ∙ all_true (λ (e : ℕ × PortState). is_linked_row looks (port_row e)) state.ports
      (λ serial port there. tight serial port there))

-- Linked rows: each right is to a live port.

module _ (state : Ipc) where
  abbrev seen : Looks
  seen = looks_of state

  module _ (well : AreWell state) (tight : AreTight state) (q : ℕ) (dead : lives state q ≡ false) where
    blind : (what : RightKind) (serial : ℕ) → lives state serial ≡ true → any_of q what serial ≡ 0
    blind what serial live = apart_zero q serial what (live_apart state serial q live dead)

    target_blind : (target : Option ℕ) → is_live_target seen target ≡ true → target_weigh (any_of q) target ≡ 0
    target_blind None live = refl
    target_blind (Some serial) live = blind kind.SendOnce serial live

    zero_if : (b : Bool) (n : ℕ) → n ≡ 0 → (if b then n else 0) ≡ 0
    zero_if true n e = e
    zero_if false n e = refl

    zero_unless : (b : Bool) (n : ℕ) → n ≡ 0 → (if b then 0 else n) ≡ 0
    zero_unless true n e = refl
    zero_unless false n e = e

    entry_blind : (space name : ℕ) (entry : Entry) → stands_well seen space name entry ≡ true
        → entry_weigh (any_of q) entry ≡ 0
    entry_blind space name (Port rights) stands =
        let live : lives state rights.port ≡ true = first_holds (lives state rights.port) _ stands in
        let target : is_live_target seen rights.dead_name_target ≡ true =
        first_holds (is_live_target seen rights.dead_name_target) _
        (second_holds (lives state rights.port) _ stands) in
        omega (
          arith,
          zero_if rights.receive (any_of q kind.Receive rights.port) (blind kind.Receive rights.port live),
          zero_unless (rights.send == 0) (any_of q kind.Send rights.port) (blind kind.Send rights.port live),
          target_blind rights.dead_name_target target,
        )
    entry_blind space name (SendOnce port target) stands =
        omega (
          arith,
          blind kind.SendOnce port (first_holds (lives state port) _ stands),
          target_blind target (second_holds (lives state port) _ stands),
        )
    entry_blind space name Set stands = refl
    entry_blind space name (Dead references) stands = refl

    place_blind : (what : RightKind) (port : PortInMessage) → is_live_place seen port ≡ true
        → place_weigh (any_of q) what port ≡ 0
    place_blind what Null live = refl
    place_blind what in_message.Dead live = refl
    place_blind what (Live serial) live = blind what serial live

    carried_blind : (right : CarriedRight) → travels_well seen right ≡ true → carried_weigh (any_of q) right ≡ 0
    carried_blind right travels =
        place_blind right.kind right.port (first_holds (is_live_place seen right.port) _ travels)

    reply_blind : (reply : Option CarriedRight) → replies_well seen reply ≡ true → reply_weigh (any_of q) reply ≡ 0
    reply_blind None live = refl
    reply_blind (Some right) live = place_blind right.kind right.port live

    message_blind : (queue : ℕ) → lives state queue ≡ true → (message : Message) → is_linked_message seen message ≡ true
        → message_weigh (any_of q) queue message ≡ 0
    message_blind queue live message linked = omega (
      arith,
      blind message.destination queue live,
      reply_blind message.reply (first_holds (replies_well seen message.reply) _ linked),
      none_of (carried_weigh (any_of q)) (travels_well seen) message.rights carried_blind
          (second_holds (replies_well seen message.reply) _ linked),
    )

    port_blind : (queue : ℕ) (port : PortState) → lives state queue ≡ true → is_linked_port seen port ≡ true
        → port_weigh (any_of q) queue port ≡ 0
    port_blind queue port live linked =
        let rest = second_holds (is_live_target seen port.no_senders_target) _ linked in
        omega (
          arith,
          none_of (message_weigh (any_of q) queue) (is_linked_message seen) port.messages (message_blind queue live)
              (second_holds (is_live_target seen port.port_destroyed_target) _ rest),
          target_blind port.no_senders_target (first_holds (is_live_target seen port.no_senders_target) _ linked),
          target_blind port.port_destroyed_target (first_holds (is_live_target seen port.port_destroyed_target) _ rest),
        )

    pub none_dangle : state_weigh (any_of q) state ≡ 0
    unfolding state_weigh
    none_dangle = omega (
      arith,
      total-zero (λ space names. names_weigh (any_of q) names) state.spaces
          (λ space names there. total-zero (λ name entry. entry_weigh (any_of q) entry) names
          (λ name entry at. entry_blind space name entry (well space name names entry there at))),
      total-zero (port_weigh (any_of q)) state.ports
          (λ queue port there. port_blind queue port (ap is_some there) (tight queue port there)),
    )

  -- A port has one name in a space.
  pub names_there : (space : ℕ) (names : Names) → get state.spaces space ≡ Some names → names_in state space ≡ names
  names_there space names there =
      ap (λ (o : Option Names). elim o as (λ _. Names) [ None ↦ finmap.empty | Some n ↦ n ]) there

  held_number : (entry : Entry) (serial : ℕ) → port_held entry ≡ Some serial → is_number (port_held entry) serial ≡ true
  held_number entry serial held = ap (λ (o : Option ℕ). is_number o serial) held ∙ eq-eqb serial serial refl

  pub one_named : AreWell state → (space : ℕ) (names : Names) → get state.spaces space ≡ Some names
      → (one other serial : ℕ) (first second : Entry) → get names one ≡ Some first → get names other ≡ Some second
      → port_held first ≡ Some serial → port_held second ≡ Some serial → one ≡ other
  one_named well space names there one other serial (Port rights) second at also held also_held =
      elim (number_decided other one) as (λ _. one ≡ other) [
        | inl apart ↦
            let stands = well space one names (Port rights) there at in
            let alone : not (stands_elsewhere (names_in state space) one rights.port) ≡ true =
            first_holds (not (stands_elsewhere (names_in state space) one rights.port)) _
            (second_holds (is_live_target seen rights.dead_name_target) _
            (second_holds (lives state rights.port) _ stands)) in
            let alone_here : stands_elsewhere names one serial ≡ false =
            subst (λ (n : Names). stands_elsewhere n one serial ≡ false) (names_there space names there)
            (subst (λ (s : ℕ). stands_elsewhere (names_in state space) one s ≡ false)
            (some_same rights.port serial held)
            (isnt (stands_elsewhere (names_in state space) one rights.port) alone)) in
            let found : stands_elsewhere names one serial ≡ true =
            any_found (λ (e : ℕ × Entry). is_number (port_held e.1) serial && not (e.0 == one))
            (entries names) other second (sym (get-entries names other) ∙ also)
            (both_hold (is_number (port_held second) serial) (not (other == one)) (held_number second serial also_held)
            (is_not (other == one) (not_equal other one apart))) in
            absurd (cc (sym found ∙ alone_here))
        | inr same ↦ sym same
      ]
  one_named well space names there one other serial (SendOnce port target) second at also held also_held =
      absurd (cc held)
  one_named well space names there one other serial Set second at also held also_held = absurd (cc held)
  one_named well space names there one other serial (Dead references) second at also held also_held = absurd (cc held)
