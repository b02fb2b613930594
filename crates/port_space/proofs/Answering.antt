-- A space's answers, from its indexes.
use Rattle.std.proofs.Common.{◌≡◌, ℕ, ◌+◌, ◌-◌, ◌^◌, ◌<◌, ◌≤◌, ◌==◌, Bool, true, false, not, ◌&&◌, nat_lt, Option, None, Some, MatchOption, MatchBool, IsSome, is_some, option_and_then, option_map, refl, sym, ◌∙◌, ap, subst, arith}
use Rattle.std.proofs.lemmas.Bool.{ltb-false, ltb-true, eqb-true, eq-eqb}
use Rattle.std.specs.FinMap.{get, len}
use Rattle.codes.specs.declared.limits.TheConstants.{MAX_NAMES}
use Rattle.codes.specs.declared.name.TheConstants.{FIRST_NAME}
use Rattle.ipc_model.specs.declared.entry.Entry.{Entry}
use Rattle.ipc_model.specs.calls.PortCalls.{stands_elsewhere}
use Rattle.ipc_model.specs.state.Ipc.{Names, IsUnused, is_number, name_of_port, port_held}
use Rattle.port_space.specs.Alongside.{Numbers, has, holds, StandAlongside}
use Rattle.port_space.specs.Crowded.{crowded}
use Rattle.port_space.specs.Finding.{first_entry, no_entry, some_entry, not_any}
use Rattle.port_space.specs.Tables.{AreSmall}

pub not_less : (a b : ℕ) → (a < b → ⊥) → b ≤ a
not_less a b never = elim (nat_lt a b) as (λ (t : Bool). nat_lt a b ≡ t → b ≤ a) [
  | true ↦ λ (less : _). absurd (never (ltb-true a b less))
  | false ↦ λ (more : _). ltb-false a b more
] refl

-- a name that holds a right of a port is in use
held : (names : Names) (serial name : ℕ) → holds names serial name ≡ true → (entry : Entry)
    × (get names name ≡ Some entry) × (is_number (port_held entry) serial ≡ true)
held names serial name is = go (get names name) refl is
  where
    go : (o : Option Entry) → get names name ≡ o → is_number (option_and_then port_held o) serial ≡ true
        → (entry : Entry) × (get names name ≡ Some entry) × (is_number (port_held entry) serial ≡ true)
    go None found is = absurd (cc is)
    go (Some entry) found is = (entry, found, is)

not_held : (names : Names) (serial name : ℕ) (entry : Entry) → get names name ≡ Some entry
    → holds names serial name ≡ false → is_number (port_held entry) serial ≡ false
not_held names serial name entry found is =
    sym (ap (λ (o : Option Entry). is_number (option_and_then port_held o) serial) found) ∙ is

small_name : (names : Names) (name : ℕ) (entry : Entry) → AreSmall names → get names name ≡ Some entry → name < 2 ^ 32
small_name names name entry small found = small name (ap is_some found)

-- no name above 32 bits holds a right
beyond : (names : Names) (serial name : ℕ) → AreSmall names → 2 ^ 32 ≤ name → holds names serial name ≡ false
beyond names serial name small past = go (get names name) refl
  where
    go : (o : Option Entry) → get names name ≡ o → is_number (option_and_then port_held o) serial ≡ false
    go None found = refl
    go (Some entry) found = absurd (omega (arith, past, small_name names name entry small found))

-- the result of searching the next name of a port
abbrev pub NextName : Names → ℕ → ℕ → Option ℕ → Type 0
NextName names serial from found =
    MatchOption found ((name : ℕ) → from ≤ name → name < 2 ^ 32 → holds names serial name ≡ false)
    (λ f. (from ≤ f) × (holds names serial f ≡ true)
    × ((name : ℕ) → from ≤ name → name < f → holds names serial name ≡ false))

pub name_is : (names : Names) (serial : ℕ) (found : Option ℕ) → AreSmall names → NextName names serial 0 found
    → found ≡ name_of_port names serial
name_is names serial None small next =
    sym (ap (option_map (λ e. e.0))
    (no_entry (λ e. is_number (port_held e.1) serial) names
    (λ q w is. not_held names serial q w is (next q (omega arith) (small_name names q w small is)))))
name_is names serial (Some f) small next =
    let there = held names serial f next.1 in
    sym (first_entry (λ e. is_number (port_held e.1) serial) names f there.0 there.1 there.2
    (λ q w less is. not_held names serial q w is (next.2 q (omega arith) less)))

-- the result of asking if a greater name holds a right of the port
abbrev pub StandsAbove : Names → ℕ → ℕ → Bool → Type 0
StandsAbove names serial name b =
    MatchBool b ((other : ℕ) × (name < other) × (holds names serial other ≡ true))
    ((other : ℕ) → name < other → holds names serial other ≡ false)

pub above_is : (names : Names) (serial name next : ℕ) (found : Option ℕ) (b : Bool) → AreSmall names → next ≡ name + 1
    → NextName names serial next found → b ≡ is_some found → StandsAbove names serial name b
above_is names serial name next found b small after is same =
    subst (StandsAbove names serial name) (sym same) (go found is)
  where
    go : (o : Option ℕ) → NextName names serial next o → StandsAbove names serial name (is_some o)
    go None none =
        λ other more. elim (nat_lt other (2 ^ 32))
        as (λ (t : Bool). nat_lt other (2 ^ 32) ≡ t → holds names serial other ≡ false) [
          | true ↦ λ (fits : _). none other (omega (arith, after, more)) (ltb-true other (2 ^ 32) fits)
          | false ↦ λ (past : _). beyond names serial other small (ltb-false other (2 ^ 32) past)
        ] refl
    go (Some f) there = (f, omega (arith, after, there.0), there.1)

pub last_is : (names : Names) (serial name : ℕ) → AreSmall names → 2 ^ 32 ≤ name + 1
    → StandsAbove names serial name false
last_is names serial name small last other more = beyond names serial other small (omega (arith, last, more))

pub differ : (other name : ℕ) → (other ≡ name → ⊥) → not (other == name) ≡ true
differ other name apart = elim (other == name) as (λ (b : Bool). (other == name) ≡ b → not b ≡ true) [
  | true ↦ λ (same : _). absurd (apart (eqb-true other name same))
  | false ↦ λ (_ : _). refl
] refl

and_true : (a b : Bool) → a ≡ true → b ≡ true → (a && b) ≡ true
and_true true b p q = q
and_true false b p q = absurd (cc p)

and_false : (a b : Bool) → a ≡ false → (a && b) ≡ false
and_false true b p = absurd (cc p)
and_false false b p = refl

elsewhere_true : (names : Names) (serial name other : ℕ) → (other ≡ name → ⊥) → holds names serial other ≡ true
    → stands_elsewhere names name serial ≡ true
elsewhere_true names serial name other apart holding =
    let there = held names serial other holding in
    some_entry (λ e. is_number (port_held e.1) serial && not (e.0 == name)) names other there.0 there.1
    (and_true _ _ there.2 (differ other name apart))

elsewhere_false : (names : Names) (serial name : ℕ)
    → ((other : ℕ) → (other ≡ name → ⊥) → holds names serial other ≡ false) → stands_elsewhere names name serial ≡ false
elsewhere_false names serial name none =
    not_any (λ e. is_number (port_held e.1) serial && not (e.0 == name)) names (λ q w is. go q w is (q == name) refl)
  where
    second_false : (a : Bool) → (a && false) ≡ false
    second_false true = refl
    second_false false = refl

    go : (q : ℕ) (w : Entry) → get names q ≡ Some w → (b : Bool) → (q == name) ≡ b
        → (is_number (port_held w) serial && not (q == name)) ≡ false
    go q w is true same =
        ap (λ (b : Bool). is_number (port_held w) serial && not b) same ∙ second_false (is_number (port_held w) serial)
    go q w is false apart =
        and_false _ _ (not_held names serial q w is (none q (λ same. cc (sym (eq-eqb q name same) ∙ apart))))

-- if this name is the first that holds a right of the port, another one does exactly if a greater one does
pub elsewhere_above : (names : Names) (serial name : ℕ) (b : Bool) → NextName names serial 0 (Some name)
    → StandsAbove names serial name b → b ≡ stands_elsewhere names name serial
elsewhere_above names serial name true first above =
    sym (elsewhere_true names serial name above.0 (λ same. absurd (omega (arith, same, above.1))) above.2)
elsewhere_above names serial name false first above =
    sym (elsewhere_false names serial name
    (λ other apart. elim (nat_lt other name)
    as (λ (t : Bool). nat_lt other name ≡ t → holds names serial other ≡ false) [
      | true ↦ λ (less : _). first.2 other (omega arith) (ltb-true other name less)
      | false ↦ λ (more : _). above other (omega (arith, ltb-false other name more, apart))
    ] refl))

-- if another name is the first, another one does; if there is none, no name does
pub elsewhere_first : (names : Names) (serial name : ℕ) (found : Option ℕ) → AreSmall names
    → NextName names serial 0 found → (found ≡ Some name → ⊥) → is_some found ≡ stands_elsewhere names name serial
elsewhere_first names serial name None small next apart =
    sym (elsewhere_false names serial name
    (λ other _. elim (nat_lt other (2 ^ 32))
    as (λ (t : Bool). nat_lt other (2 ^ 32) ≡ t → holds names serial other ≡ false) [
      | true ↦ λ (fits : _). next other (omega arith) (ltb-true other (2 ^ 32) fits)
      | false ↦ λ (past : _). beyond names serial other small (ltb-false other (2 ^ 32) past)
    ] refl))
elsewhere_first names serial name (Some f) small next apart =
    sym (elsewhere_true names serial name f (λ same. apart (ap Some same)) next.1)

-- The least unused name that may be given to a right.
pub record IsFreeName (names : Names) (name : ℕ) : Type 0 where
  pub fits : name < 2 ^ 32
  pub unused : IsUnused names name
  pub from : FIRST_NAME ≤ name
  pub least : (k : ℕ) → FIRST_NAME ≤ k → k < name → IsSome (get names k)

free_where : (names : Names) (name : ℕ) → len names ≤ MAX_NAMES → FIRST_NAME ≤ name → get names name ≡ None
    → ((k : ℕ) → FIRST_NAME ≤ k → k < name → is_some (get names k) ≡ true) → IsFreeName names name
free_where names name few from none used =
    let all = crowded (name - FIRST_NAME) names FIRST_NAME (λ k le lt. used k le (omega (arith, lt, from))) in
    record {
      fits = omega (arith, all, few, from);
      unused = record { least = omega (arith, from); below_dead = omega (arith, all, few, from); free = none };
      from = from;
      least = used;
    }

no_value : (o : Option Entry) → is_some o ≡ false → o ≡ None
no_value None e = refl
no_value (Some entry) e = absurd (cc e)

no_number : (o : Option (Unit {0})) → o ≡ None → is_some o ≡ false
no_number None e = refl
no_number (Some x) e = absurd (cc e)

-- it is the least gap
pub gap_is_free : (names : Names) (by_port gaps : Numbers) (low gap : ℕ) → StandAlongside names by_port gaps low
    → get gaps gap ≡ Some tt → ((k : ℕ) → 0 ≤ k → k < gap → get gaps k ≡ None) → IsFreeName names gap
gap_is_free names by_port gaps low gap alongside there least =
    let within = alongside.free.within gap (ap is_some there) in
    free_where names gap alongside.bounded.few within.0
    (no_value (get names gap) (alongside.free.below gap within.0 within.1 ∙ ap
    (λ (o : Option (Unit {0})). not (is_some o)) there))
    (λ k le lt. alongside.free.below k le (omega (arith, lt, within.1))
    ∙ ap not (no_number (get gaps k) (least k (omega arith) lt)))

-- it is `low` if there is no gap
pub low_is_free : (names : Names) (by_port gaps : Numbers) (low : ℕ) → StandAlongside names by_port gaps low
    → ((k : ℕ) → 0 ≤ k → k < 2 ^ 128 → get gaps k ≡ None) → IsFreeName names low
low_is_free names by_port gaps low alongside none =
    free_where names low alongside.bounded.few alongside.free.from alongside.free.next
    (λ k le lt. alongside.free.below k le lt ∙ ap not (no_gap k))
  where
    -- there are at most MAX_NAMES names below `low`
    dense : (n : ℕ) → n ≤ low - FIRST_NAME → n < 2 ^ 32 → n ≤ MAX_NAMES
    dense n le small = omega (
      arith,
      alongside.bounded.few,
      crowded n names FIRST_NAME (λ k from lt.
          alongside.free.below k from (omega (arith, lt, le, alongside.free.from))
          ∙ ap not (no_number (get gaps k) (none k (omega arith) (omega (arith, lt, small))))),
    )

    short : low < 2 ^ 128
    short = elim (nat_lt low (2 ^ 128)) as (λ (b : Bool). nat_lt low (2 ^ 128) ≡ b → low < 2 ^ 128) [
      | true ↦ λ (less : _). ltb-true low (2 ^ 128) less
      | false ↦ λ (more : _). absurd
          (omega (arith, dense 5000 (omega (arith, ltb-false low (2 ^ 128) more)) (omega arith)))
    ] refl

    no_gap : (k : ℕ) → has gaps k ≡ false
    no_gap k = elim (has gaps k) as (λ (b : Bool). has gaps k ≡ b → b ≡ false) [
      | true ↦ λ (there : _). absurd
          (cc (sym there ∙ no_number (get gaps k)
          (none k (omega arith) (omega (arith, (alongside.free.within k there).1, short)))))
      | false ↦ λ (_ : _). refl
    ] refl

pub same_free : (names other : Names) (name : ℕ) → names ≡ other → IsFreeName names name → IsFreeName other name
same_free names other name same free = subst (λ (n : Names). IsFreeName n name) same free
