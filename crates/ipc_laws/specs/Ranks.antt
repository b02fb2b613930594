-- Effects keep ports ranked: no ports come to carry one another in a circle.
use Rattle.std.specs.Prelude.{◌≡◌, ◌≢◌, ℕ, zero, suc, ◌+◌, ◌<◌, ◌≤◌, Bool, true, false, cond, ◌==◌, ◌&&◌, ◌||◌, nat_lt, T, find, List, [], ◌∷◌, length, Option, None, Some, option_map, refl}
use Rattle.std.proofs.Common.{sym, ◌∙◌, ap, subst, inl, inr, arith}
use Rattle.std.proofs.lemmas.Bool.{eq-eqb, ltb-true, lt-ltb}
use Rattle.std.specs.List.{list_any}
use Rattle.std.specs.Ordering.{nat_cmp, eq_by_cmp}
use Rattle.std.specs.FinMap as finmap
use Rattle.std.specs.FinMap.{FinMap, entries_sorted, get-entries, len-entries, is_sorted}
use Rattle.std.specs.FinMap.Entries.{below_all}
use Rattle.ipc_model.specs.declared.message.CarriedRight.{CarriedRight}
use Rattle.ipc_model.specs.declared.message.Message.{Message}
use Rattle.ipc_model.specs.declared.message.PortInMessage.{PortInMessage}
use Rattle.ipc_model.specs.declared.message.PortInMessage.TheVariants as in_message
use Rattle.ipc_model.specs.declared.message.PortInMessage.TheVariants.{Null, Live}
use Rattle.ipc_model.specs.declared.message.RightKind.TheVariants as kind
use Rattle.ipc_model.specs.declared.port.PortState.{PortState}
use Rattle.ipc_model.specs.state.Circular.{carries, carrier_of, meets, is_receive_right, is_port, Carries}
use Rattle.ipc_laws.specs.Dangling.{later_found, front_of, back_of}
use Rattle.ipc_laws.specs.ListLaws.{some_same}
use Rattle.ipc_laws.specs.MapLaws.{get-left}
use Rattle.ipc_laws.specs.MapSums.{weigh, total, weight, weigh-le, total-remove, same_key, key_is}
use Rattle.ipc_laws.specs.Others.{number_same, number_decided}
use Rattle.ipc_model.specs.state.Placed.{same_kind}
use Rattle.ipc_model.specs.state.Ipc.{Ipc}
use Rattle.ipc_laws.specs.Weights.{place_weigh, carried_weigh, message_weigh, port_weigh, receive_of}

-- which entry a search finds

pub found_by : {X : Type 0} (test : ℕ × X → Bool) (es : List (ℕ × X)) (e : ℕ × X) → T (is_sorted nat_cmp es)
    → find test es ≡ Some e → (finmap.find nat_cmp e.0 es ≡ Some e.1) × (test e ≡ true)
found_by test [] e sorted is = absurd (cc is)
found_by {X = X} test (x ∷ es) e sorted is =
    elim (test x) as (λ (b : Bool). test x ≡ b → cond b (Some x) (find test es) ≡ Some e
    → (finmap.find nat_cmp e.0 (x ∷ es) ≡ Some e.1) × (test e ≡ true)) [
      | true ↦ λ (passes : _) (same : _).
          let here : x ≡ e = some_same x e same in (
            subst (λ (y : ℕ × X). finmap.find nat_cmp y.0 (x ∷ es) ≡ Some y.1) here
                (ap (λ (b : Bool). cond b (Some x.1) (finmap.find nat_cmp x.0 es)) (same_key x.0)),
            ap test (sym here) ∙ passes,
          )
      | false ↦ λ (passes : _) (later : _).
          let rest = found_by test es e (back_of (below_all nat_cmp x.0 es) (is_sorted nat_cmp es) sorted) later in
          (later_found e.0 e.1 x es (front_of (below_all nat_cmp x.0 es) (is_sorted nat_cmp es) sorted) rest.0, rest.1)
    ] refl is

-- a search that an entry passes finds one
pub finds_one : {X : Type 0} (test : ℕ × X → Bool) (es : List (ℕ × X)) (k : ℕ) (x : X)
    → ((q : ℕ) → (q ≡ k) → test (q, x) ≡ true) → finmap.find nat_cmp k es ≡ Some x → (e : ℕ × X)
    × (find test es ≡ Some e)
finds_one test [] k x passes there = absurd (cc there)
finds_one {X = X} test (y ∷ es) k x passes there =
    elim (test y) as (λ (b : Bool). test y ≡ b → (e : ℕ × X) × (cond b (Some y) (find test es) ≡ Some e)) [
      | true ↦ λ (is : _). (y, refl)
      | false ↦ λ (is : _). elim (eq_by_cmp nat_cmp k y.0)
          as (λ (b : Bool). eq_by_cmp nat_cmp k y.0 ≡ b → cond b (Some y.1) (finmap.find nat_cmp k es) ≡ Some x
          → (e : ℕ × X) × (find test es ≡ Some e)) [
            | true ↦ λ (tie : _) (same : _). absurd
                (cc (sym (passes y.0 (sym (key_is k y.0 tie))) ∙ ap (λ (v : X). test (y.0, v))
                (sym (some_same y.1 x same))
                ∙ is))
            | false ↦ λ (tie : _) (later : _). finds_one test es k x passes later
          ] refl there
    ] refl

-- the carrier of a port carries it
pub carrier_carries : (state : Ipc) (inner outer : ℕ) → carrier_of state inner ≡ Some outer
    → Carries state outer inner
carrier_carries state inner outer is =
    elim (find (λ e. carries inner e.1) (finmap.entries state.ports))
    as (λ (o : Option (ℕ × PortState)). find (λ e. carries inner e.1) (finmap.entries state.ports) ≡ o
    → option_map (λ e. e.0) o ≡ Some outer → Carries state outer inner) [
      | None ↦ λ (none : _) (e : _). absurd (cc e)
      | Some entry ↦ λ (found : _) (e : _).
          let at =
          found_by (λ (x : ℕ × PortState). carries inner x.1) (finmap.entries state.ports) entry
          (entries_sorted state.ports) found in
          subst (λ (k : ℕ). Carries state k inner) (some_same entry.0 outer e)
          (entry.1, get-entries state.ports entry.0 ∙ at.0, at.1)
    ] refl is

-- a port that carries a receive right has weight from it

pub no_and : (b : Bool) → (b && false) ≡ true → ⊥
no_and true e = cc e
no_and false e = cc e

right_weighs : (q : ℕ) (right : CarriedRight) → is_receive_right q right ≡ true → 1 ≤ carried_weigh (receive_of q) right
right_weighs q right is =
    elim right.port as (λ (port : PortInMessage). (same_kind right.kind kind.Receive && is_port port q) ≡ true
    → 1 ≤ place_weigh (receive_of q) right.kind port) [
      | Null ↦ λ (e : _). absurd (no_and (same_kind right.kind kind.Receive) e)
      | in_message.Dead ↦ λ (e : _). absurd (no_and (same_kind right.kind kind.Receive) e)
      | Live serial ↦ λ (e : _). omega (arith, ap {B = ℕ} (λ (b : Bool). cond b 1 0) e)
    ] is

any_weighs : {A : Type 0} (test : A → Bool) (f : A → ℕ) → ((x : A) → test x ≡ true → 1 ≤ f x) → (xs : List A)
    → list_any test xs ≡ true → 1 ≤ weigh f xs
any_weighs test f each [] is = absurd (cc is)
any_weighs test f each (x ∷ xs) is =
    elim (test x) as (λ (b : Bool). test x ≡ b → (b || list_any test xs) ≡ true → 1 ≤ f x + weigh f xs) [
      | true ↦ λ (e : _) (_ : _). omega (arith, each x e)
      | false ↦ λ (e : _) (later : _). omega (arith, any_weighs test f each xs later)
    ] refl is

port_weighs : (q queue : ℕ) (port : PortState) → carries q port ≡ true → 1 ≤ port_weigh (receive_of q) queue port
port_weighs q queue port is =
    omega (
      arith,
      any_weighs (λ (m : Message). list_any (is_receive_right q) m.rights) (message_weigh (receive_of q) queue)
          (λ (m : Message) (e : _).
          omega (arith, any_weighs (is_receive_right q) (carried_weigh (receive_of q)) (right_weighs q) m.rights e))
          port.messages is,
    )

-- a total is at least the parts of two of its ports
two_parts : (f : ℕ → PortState → ℕ) (ports : FinMap nat_cmp PortState) (one other : ℕ) (first second : PortState)
    → one ≢ other → finmap.get ports one ≡ Some first → finmap.get ports other ≡ Some second
    → f one first + f other second ≤ total f ports
two_parts f ports one other first second apart here there =
    let left : FinMap nat_cmp PortState = finmap.remove ports one in
    let without : total f left + f one first ≡ total f ports =
    subst (λ (o : Option PortState). total f left + weight f one o ≡ total f ports) here
    (total-remove f ports one) in
    let still : finmap.get left other ≡ Some second =
    get-left ports one other (λ (same : _). apart (sym same)) ∙ there in
    let without_both : total f (finmap.remove left other) + f other second ≡ total f left =
    subst (λ (o : Option PortState). total f (finmap.remove left other) + weight f other o ≡ total f left) still
    (total-remove f left other) in
    omega (arith, without, without_both)

-- each receive right travels in one queue at most
abbrev pub TravelsOnce : Ipc → Type 0
TravelsOnce state = (q : ℕ) → total (port_weigh (receive_of q)) state.ports ≤ 1

pub one_carrier : (state : Ipc) → TravelsOnce state → (inner outer : ℕ) → Carries state outer inner
    → carrier_of state inner ≡ Some outer
one_carrier state once inner outer (port, at, is) =
    let found =
    finds_one (λ (x : ℕ × PortState). carries inner x.1) (finmap.entries state.ports) outer port
    (λ (q : ℕ) (_ : _). is) (sym (get-entries state.ports outer) ∙ at) in
    let named : carrier_of state inner ≡ Some found.0.0 =
    ap (λ (o : Option (ℕ × PortState)). option_map (λ e. e.0) o) found.1 in
    let other : Carries state found.0.0 inner = carrier_carries state inner found.0.0 named in
    elim (number_decided outer found.0.0) as (λ _. carrier_of state inner ≡ Some outer) [
      | inl apart ↦ absurd (omega (
        arith,
        once inner,
        port_weighs inner outer port is,
        port_weighs inner found.0.0 other.0 other.2,
        two_parts (port_weigh (receive_of inner)) state.ports outer found.0.0 port other.0 apart at other.1,
      ))
      | inr same ↦ named ∙ ap (λ (k : ℕ). Some k) (sym same)
    ]

-- how many live ports rank above a rank; each hop up leaves fewer
abbrev counts : ℕ → ℕ → ℕ
counts r n = cond (nat_lt r n) 1 0

counts_one : (r n : ℕ) → r < n → counts r n ≡ 1
counts_one r n less = ap {B = ℕ} (λ (b : Bool). cond b 1 0) (lt-ltb r n less)

counts_none : (r n : ℕ) → n ≤ r → counts r n ≡ 0
counts_none r n le = elim (nat_lt r n) as (λ (b : Bool). nat_lt r n ≡ b → ◌≡◌ {A = ℕ} (cond b 1 0) 0) [
  | true ↦ λ (e : _). absurd (omega (arith, ltb-true r n e, le))
  | false ↦ λ (e : _). refl
] refl

counts_fewer : (r higher n : ℕ) → r ≤ higher → counts higher n ≤ counts r n
counts_fewer r higher n le =
    elim (nat_lt higher n) as (λ (b : Bool). nat_lt higher n ≡ b → cond {A = ℕ} b 1 0 ≤ cond (nat_lt r n) 1 0) [
      | true ↦ λ (e : _). omega (
        arith,
        ap {B = ℕ} (λ (b : Bool). cond b 1 0) (lt-ltb r n (omega (arith, ltb-true higher n e, le))),
      )
      | false ↦ λ (e : _). omega arith
    ] refl

one_at_most : (r n : ℕ) → counts r n ≤ 1
one_at_most r n =
    elim (nat_lt r n) as (λ (b : Bool). cond {A = ℕ} b 1 0 ≤ 1) [ true ↦ omega arith | false ↦ omega arith ]

unfoldable pub above : (ℕ → ℕ) → ℕ → Ipc → ℕ
above rank r state = total (λ k port. counts r (rank k)) state.ports

fewer_above : (rank : ℕ → ℕ) (state : Ipc) (outer : ℕ) (port : PortState) (r : ℕ)
    → finmap.get state.ports outer ≡ Some port → r < rank outer → above rank (rank outer) state + 1 ≤ above rank r state
unfolding above
fewer_above rank state outer port r at less =
    let high : ℕ → PortState → ℕ = λ k p. counts (rank outer) (rank k) in
    let low : ℕ → PortState → ℕ = λ k p. counts r (rank k) in
    let left : FinMap nat_cmp PortState = finmap.remove state.ports outer in
    let high_is : total high left + counts (rank outer) (rank outer) ≡ total high state.ports =
    subst (λ (o : Option PortState). total high left + weight high outer o ≡ total high state.ports) at
    (total-remove high state.ports outer) in
    let low_is : total low left + counts r (rank outer) ≡ total low state.ports =
    subst (λ (o : Option PortState). total low left + weight low outer o ≡ total low state.ports) at
    (total-remove low state.ports outer) in
    omega (
      arith,
      high_is,
      low_is,
      counts_none (rank outer) (rank outer) (omega arith),
      counts_one r (rank outer) less,
      weigh-le (λ (e : ℕ × PortState). high e.0 e.1) (λ (e : ℕ × PortState). low e.0 e.1)
          (λ (e : ℕ × PortState). counts_fewer r (rank outer) (rank e.0) (omega (arith, less))) (finmap.entries left),
    )

each_one : (rank : ℕ → ℕ) (r : ℕ) (es : List (ℕ × PortState)) → weigh (λ e. counts r (rank e.0)) es ≤ length es
each_one rank r [] = omega arith
each_one rank r (e ∷ es) =
    omega (arith, each_one rank r es, counts_fewer 0 r (rank e.0) (omega arith), one_at_most r (rank e.0))

pub few_above : (rank : ℕ → ℕ) (r : ℕ) (state : Ipc) → above rank r state ≤ finmap.len state.ports
unfolding above
few_above rank r state =
    omega (arith, len-entries state.ports, each_one rank r (finmap.entries state.ports))

-- (the climb, one hop on)
abbrev climbs : Ipc → ℕ → ℕ → Option ℕ → Bool
climbs state hops wanted None = false
climbs state hops wanted (Some carrier) = meets state hops wanted carrier

or_true : (b c : Bool) → c ≡ true → (b || c) ≡ true
or_true true c e = refl
or_true false c e = e

pub meets_itself : (state : Ipc) (hops serial : ℕ) → meets state hops serial serial ≡ true
meets_itself state zero serial = eq-eqb serial serial refl
meets_itself state (suc hops) serial =
    ap (λ (b : Bool). b || climbs state hops serial (carrier_of state serial)) (eq-eqb serial serial refl)

-- what is met from a port by going up, and the port that carries it
pub met_more : (rank : ℕ → ℕ) (state : Ipc)
    → ((outer inner : ℕ) → Carries state outer inner → rank inner < rank outer)
    → (hops from inner outer : ℕ) → above rank (rank from) state ≤ hops → meets state hops inner from ≡ true
    → carrier_of state inner ≡ Some outer → meets state hops outer from ≡ true
met_more rank state grows zero from inner outer few met carried =
    let here : from ≡ inner = number_same from inner met in
    let up = carrier_carries state inner outer carried in
    absurd (omega (
      arith,
      few,
      fewer_above rank state outer up.0 (rank from) up.1
          (subst (λ (n : ℕ). rank n < rank outer) (sym here) (grows outer inner up)),
    ))
met_more rank state grows (suc hops) from inner outer few met carried =
    elim (from == inner) as (λ (b : Bool). (from == inner) ≡ b
    → (b || climbs state hops inner (carrier_of state from)) ≡ true
    → (from == outer || climbs state hops outer (carrier_of state from)) ≡ true) [
      | true ↦ λ (same : _) (_ : _).
          let here : from ≡ inner = number_same from inner same in
          let up : carrier_of state from ≡ Some outer = ap (carrier_of state) here ∙ carried in
          ap (λ (o : Option ℕ). from == outer || climbs state hops outer o) up
          ∙ or_true (from == outer) (meets state hops outer outer) (meets_itself state hops outer)
      | false ↦ λ (apart : _) (later : _).
          elim (carrier_of state from) as (λ (o : Option ℕ). carrier_of state from ≡ o
          → climbs state hops inner o ≡ true → (from == outer || climbs state hops outer o) ≡ true) [
            | None ↦ λ (none : _) (e : _). absurd (cc e)
            | Some next ↦ λ (is : _) (e : _).
                let up = carrier_carries state from next is in
                or_true (from == outer) (meets state hops outer next)
                (met_more rank state grows hops next inner outer
                (omega (arith, few, fewer_above rank state next up.0 (rank from) up.1 (grows next from up))) e
                carried)
          ] refl later
    ] refl met
