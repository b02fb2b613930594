-- No ports carry one another in a cycle exactly if hops that are doubled fifteen times lead nowhere.
use Rattle.std.proofs.Common.{◌≡◌, ℕ, zero, suc, ◌+◌, ◌<◌, ◌≤◌, nat_lt, Bool, true, false, cond, ◌||◌, List, [], ◌∷◌, Option, None, Some, option_and_then, option_map, refl, sym, ◌∙◌, ap, subst, arith}
use Rattle.std.specs.Prelude.{find}
use Rattle.std.specs.List.{list_all, list_any}
use Rattle.std.specs.FinMap as finmap
use Rattle.std.specs.FinMap.{FinMap, entries, entries_sorted, get, get-entries, remove}
use Rattle.std.specs.Ordering.{nat_cmp}
use Rattle.std.proofs.lemmas.Bool.{lt-ltb, ltb-true}
use Rattle.codes.specs.declared.limits.TheConstants.{MAX_PORTS}
use Rattle.ipc_laws.specs.EffectRanks.{travels_once}
use Rattle.ipc_laws.specs.LawfulLaws.{at_rest}
use Rattle.ipc_laws.specs.ListLaws.{some_same}
use Rattle.ipc_laws.specs.MapSums.{weigh-le, weight, total, total-remove}
use Rattle.ipc_laws.specs.Others.{number_same}
use Rattle.ipc_laws.specs.Ranks.{above, few_above, found_by, one_carrier}
use Rattle.ipc_model.specs.declared.message.CarriedRight.{CarriedRight}
use Rattle.ipc_model.specs.declared.message.Message.{Message}
use Rattle.ipc_model.specs.declared.message.PortInMessage.{PortInMessage}
use Rattle.ipc_model.specs.declared.message.PortInMessage.TheVariants as in_message
use Rattle.ipc_model.specs.declared.message.PortInMessage.TheVariants.{Null, Live}
use Rattle.ipc_model.specs.declared.message.RightKind.TheVariants as kind
use Rattle.ipc_model.specs.declared.port.PortState.{PortState}
use Rattle.ipc_model.specs.state.Circular.{Carries, Acyclic, carrier_of, carries, is_port, is_receive_right}
use Rattle.ipc_model.specs.state.Lawful.{Lawful}
use Rattle.ipc_model.specs.state.Placed.{same_kind}
use Rattle.ipc_model.specs.state.Ipc.{Ipc, lives}
use Rattle.snapshot_loading.specs.Climbing.{doubled, twice, up_of}
use Rattle.snapshot_loading.specs.Holding.{lawful_tight}
use Rattle.snapshot_loading.specs.Linked.{looks_of, is_linked_message, is_linked_port, is_live_place, is_live_target, replies_well, travels_well}
use Rattle.snapshot_loading.specs.LinkLaws.{AreTight, first_holds, second_holds}

-- Ranks that each hop increases, all below a bound.
pub record Ranked (f : ℕ → Option ℕ) : Type 0 where
  pub rank : ℕ → ℕ
  pub bound : ℕ
  pub below : (q : ℕ) → rank q < bound
  pub up : (q t : ℕ) → f q ≡ Some t → rank q < rank t

nowhere : (f : ℕ → Option ℕ) → ((q : ℕ) → f q ≡ None) → Ranked f
nowhere f none =
    record { rank = λ q. 0; bound = 1; below = λ q. omega arith; up = λ q t is. absurd (cc (sym is ∙ none q)) }

-- the rank of the next port, or the bound at the last port of a climb
above_or : ℕ → (ℕ → ℕ) → Option ℕ → ℕ
above_or bound rank None = bound
above_or bound rank (Some t) = rank t

halved : (f : ℕ → Option ℕ) → Ranked (twice f) → Ranked f
unfolding above_or
halved f ranked = record {
  rank = λ q. ranked.rank q + above_or ranked.bound ranked.rank (f q);
  bound = ranked.bound + ranked.bound;
  below = λ q. omega (arith, ranked.below q, within (f q));
  up =
      λ q t is. subst (λ (o : Option ℕ). ranked.rank q + above_or ranked.bound ranked.rank o
      < ranked.rank t + above_or ranked.bound ranked.rank (f t)) (sym is) (higher q t is (f t) refl);
}
  where
    within : (o : Option ℕ) → above_or ranked.bound ranked.rank o ≤ ranked.bound
    within None = omega arith
    within (Some t) = omega (arith, ranked.below t)

    higher : (q t : ℕ) → f q ≡ Some t → (o : Option ℕ) → f t ≡ o
        → ranked.rank q + ranked.rank t < ranked.rank t + above_or ranked.bound ranked.rank o
    higher q t is None top = omega (arith, ranked.below q)
    higher q t is (Some next) on = omega (arith, ranked.up q next (ap (option_and_then f) is ∙ on))

lowered : (k : ℕ) (f : ℕ → Option ℕ) → Ranked (doubled k f) → Ranked f
lowered zero f ranked = ranked
lowered (suc k) f ranked = lowered k f (halved (doubled k f) ranked)

-- The number of ports with a higher rank, which each hop decreases.

counts : ℕ → ℕ → ℕ
counts r n = cond (nat_lt r n) 1 0

counts_one : (r n : ℕ) → r < n → counts r n ≡ 1
unfolding counts
counts_one r n less = ap {B = ℕ} (λ (b : Bool). cond b 1 0) (lt-ltb r n less)

counts_fewer : (r higher n : ℕ) → r ≤ higher → counts higher n ≤ counts r n
unfolding counts
counts_fewer r higher n le =
    elim (nat_lt higher n) as (λ (b : Bool). nat_lt higher n ≡ b → cond {A = ℕ} b 1 0 ≤ cond (nat_lt r n) 1 0) [
      | true ↦ λ (e : _). omega (
        arith,
        ap {B = ℕ} (λ (b : Bool). cond b 1 0) (lt-ltb r n (omega (arith, ltb-true higher n e, le))),
      )
      | false ↦ λ (e : _). omega arith
    ] refl

counts_none : (r : ℕ) → counts r r ≡ 0
unfolding counts
counts_none r = elim (nat_lt r r) as (λ (b : Bool). nat_lt r r ≡ b → ◌≡◌ {A = ℕ} (cond b 1 0) 0) [
  | true ↦ λ (e : _). absurd (omega (arith, ltb-true r r e))
  | false ↦ λ (e : _). refl
] refl

fewer_above : (rank : ℕ → ℕ) (state : Ipc) (outer : ℕ) (port : PortState) (r : ℕ) → get state.ports outer ≡ Some port
    → r < rank outer → above rank (rank outer) state + 1 ≤ above rank r state
unfolding above counts
fewer_above rank state outer port r at less =
    let high : ℕ → PortState → ℕ = λ k p. counts (rank outer) (rank k) in
    let low : ℕ → PortState → ℕ = λ k p. counts r (rank k) in
    let left : FinMap nat_cmp PortState = remove state.ports outer in
    let high_is : total high left + counts (rank outer) (rank outer) ≡ total high state.ports =
    subst (λ (o : Option PortState). total high left + weight high outer o ≡ total high state.ports) at
    (total-remove high state.ports outer) in
    let low_is : total low left + counts r (rank outer) ≡ total low state.ports =
    subst (λ (o : Option PortState). total low left + weight low outer o ≡ total low state.ports) at
    (total-remove low state.ports outer) in
    omega (
      arith,
      high_is,
      low_is,
      counts_none (rank outer),
      counts_one r (rank outer) less,
      weigh-le (λ (e : ℕ × PortState). high e.0 e.1) (λ (e : ℕ × PortState). low e.0 e.1)
          (λ (e : ℕ × PortState). counts_fewer r (rank outer) (rank e.0) (omega (arith, less))) (entries left),
    )

two : ℕ → ℕ
two zero = 1
two (suc k) = two k + two k

module _ (state : Ipc) where
  -- a port is carried by its carrier
  carrier_carries : (inner outer : ℕ) → carrier_of state inner ≡ Some outer → Carries state outer inner
  carrier_carries inner outer is =
      elim (find (λ e. carries inner e.1) (entries state.ports))
      as (λ (o : Option (ℕ × PortState)). find (λ e. carries inner e.1) (entries state.ports) ≡ o
      → option_map (λ e. e.0) o ≡ Some outer → Carries state outer inner) [
        | None ↦ λ (none : _) (e : _). absurd (cc e)
        | Some entry ↦ λ (found : _) (e : _).
            let at =
            found_by (λ (x : ℕ × PortState). carries inner x.1) (entries state.ports) entry
            (entries_sorted state.ports) found in
            subst (λ (k : ℕ). Carries state k inner) (some_same entry.0 outer e)
            (entry.1, get-entries state.ports entry.0 ∙ at.0, at.1)
      ] refl is

  up_carries : (inner outer : ℕ) → up_of state inner ≡ Some outer → Carries state outer inner
  up_carries inner outer is = by (lives state inner) is
    where
      by : (b : Bool) → cond b (carrier_of state inner) None ≡ Some outer → Carries state outer inner
      by true is = carrier_carries inner outer is
      by false is = absurd (cc is)

  module _ (acyclic : Acyclic state) where
    higher : ℕ → ℕ
    higher q = above acyclic.0 (acyclic.0 q) state

    climbs : (k q t : ℕ) → doubled k (up_of state) q ≡ Some t → higher t + two k ≤ higher q
    unfolding two higher
    climbs zero q t is =
        let up = up_carries q t is in fewer_above acyclic.0 state t up.0 (acyclic.0 q) up.1 (acyclic.1 t q up)
    climbs (suc k) q t is =
        elim (doubled k (up_of state) q)
        as (λ (o : Option ℕ). doubled k (up_of state) q ≡ o → option_and_then (doubled k (up_of state)) o ≡ Some t
        → higher t + (two k + two k) ≤ higher q) [
          | None ↦ λ (_ : _) (none : _). absurd (cc none)
          | Some next ↦ λ (first : _) (second : _). omega (arith, climbs k q next first, climbs k next t second)
        ] refl is

    -- in an acyclic state the hops end
    pub hops_end : finmap.len state.ports ≤ MAX_PORTS → (q : ℕ) → doubled 15 (up_of state) q ≡ None
    unfolding two higher
    hops_end few q =
        elim (doubled 15 (up_of state) q) as (λ (o : Option ℕ). doubled 15 (up_of state) q ≡ o → o ≡ None) [
          | None ↦ λ (_ : _). refl
          | Some t ↦ λ (is : _). absurd (omega
              (arith, climbs 15 q t is, many, few_above acyclic.0 (acyclic.0 q) state, few))
        ] refl
      where
        many : two 15 ≡ 32768
        many = refl

  -- a carried port is live

  any_all : {A : Type 0} (p q : A → Bool) (xs : List A) → list_any p xs ≡ true → list_all q xs ≡ true → (x : A)
      × (p x ≡ true) × (q x ≡ true)
  any_all p q [] any all = absurd (cc any)
  any_all {A = A} p q (x ∷ xs) any all =
      elim (p x) as (λ (b : Bool). p x ≡ b → (b || list_any p xs) ≡ true → (y : A) × (p y ≡ true) × (q y ≡ true)) [
        | true ↦ λ (is : _) (_ : _). (x, is, first_holds (q x) (list_all q xs) all)
        | false ↦ λ (_ : _) (later : _). any_all p q xs later (second_holds (q x) (list_all q xs) all)
      ] refl any

  right_lives : (inner : ℕ) (right : CarriedRight) → is_receive_right inner right ≡ true
      → travels_well (looks_of state) right ≡ true → lives state inner ≡ true
  right_lives inner right is travels =
      by right.port (second_holds (same_kind right.kind kind.Receive) (is_port right.port inner) is)
      (first_holds (is_live_place (looks_of state) right.port) _ travels)
    where
      by : (port : PortInMessage) → is_port port inner ≡ true → is_live_place (looks_of state) port ≡ true
          → lives state inner ≡ true
      by Null is live = absurd (cc is)
      by in_message.Dead is live = absurd (cc is)
      by (Live serial) is live = subst (λ (s : ℕ). lives state s ≡ true) (number_same serial inner is) live

  carried_lives : AreTight state → (outer inner : ℕ) → Carries state outer inner → lives state inner ≡ true
  carried_lives tight outer inner carried =
      let linked : is_linked_port (looks_of state) carried.0 ≡ true = tight outer carried.0 carried.1 in
      let message =
      any_all (λ (m : Message). list_any (is_receive_right inner) m.rights)
      (is_linked_message (looks_of state)) carried.0.messages carried.2
      (second_holds (is_live_target (looks_of state) carried.0.port_destroyed_target) _
      (second_holds (is_live_target (looks_of state) carried.0.no_senders_target) _ linked)) in
      let right =
      any_all (is_receive_right inner) (travels_well (looks_of state)) message.0.rights message.1
      (second_holds (replies_well (looks_of state) message.0.reply) _ message.2) in
      right_lives inner right.0 right.1 right.2

  -- If hops lead nowhere in the end, no ports carry one another in a cycle.
  pub hops_ground : Lawful state → (k : ℕ) → ((q : ℕ) → doubled k (up_of state) q ≡ None) → Acyclic state
  hops_ground lawful k none =
      let ranked : Ranked (up_of state) = lowered k (up_of state) (nowhere (doubled k (up_of state)) none) in (
        ranked.rank,
        λ outer inner carried. ranked.up inner outer
            (ap (λ (b : Bool). cond b (carrier_of state inner) None)
            (carried_lives (lawful_tight state lawful) outer inner carried)
            ∙ one_carrier state (travels_once state [] (at_rest state lawful)) inner outer carried),
      )
