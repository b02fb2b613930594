-- A state in the middle of a call: some rights are in the call's hand, and stand in no place.
use Rattle.std.specs.Prelude.{◌≡◌, ℕ, ◌+◌, ◌<◌, ◌≤◌, Bool, true, false, List, [], Option, Some, is_some, refl}
use Rattle.std.proofs.Common.{sym, ◌∙◌, ap, subst, inl, inr, arith}
use Rattle.std.specs.FinMap as finmap
use Rattle.codes.specs.declared.limits.TheConstants.{MAX_SPACES}
use Rattle.ipc_model.specs.declared.entry.Entry.{Entry}
use Rattle.ipc_model.specs.declared.entry.Entry.TheVariants.{Set}
use Rattle.ipc_model.specs.declared.port.PortState.{PortState}
use Rattle.ipc_laws.specs.CallsKeep.{Kept}
use Rattle.ipc_model.specs.state.Circular.{Acyclic}
use Rattle.ipc_laws.specs.Dangling.{NoneDangles, dead_before, port_part}
use Rattle.ipc_model.specs.effects.Effects.{Effect}
use Rattle.ipc_laws.specs.EffectParts.{Parts, with_port_there, inserted_parts}
use Rattle.ipc_laws.specs.EffectRanks.{receive_is_any, ports_in_state, ports_less}
use Rattle.ipc_laws.specs.EffectWeights.{with_port_weigh}
use Rattle.ipc_laws.specs.EffectsKeep.{dangles_none, parts_of}
use Rattle.ipc_laws.specs.EntryChanges.{changed, under, received_under, changed_weight, changed_here, changed_there, entry_of}
use Rattle.ipc_model.specs.state.Lawful.{LawfulNames, LawfulPort, AllWaiting, IsHeldAlongsideSet}
use Rattle.ipc_laws.specs.LawfulLaws.{LawfulAtRest}
use Rattle.ipc_laws.specs.ListLaws.{some_same}
use Rattle.ipc_laws.specs.MapLaws.{get-here, get-there}
use Rattle.ipc_laws.specs.MapSums.{weigh, total, weight, total-remove}
use Rattle.ipc_laws.specs.NameChanges.{names_change, first_there, one_space}
use Rattle.ipc_laws.specs.Others.{number_decided, with_port_spaces}
use Rattle.ipc_laws.specs.Ranks.{TravelsOnce}
use Rattle.ipc_laws.specs.ReferencesKeep.{none_released}
use Rattle.ipc_model.specs.state.Ipc.{Ipc, Names, with_names, with_port, lives}
use Rattle.ipc_laws.specs.Weights.{Weight, names_weigh, port_weigh, state_weigh, effect_weigh, receive_of, any_of, count-receive, count-any}

-- what the rights in hand weigh; their order doesn't matter
abbrev pub Hand : Type 0
Hand = Weight → ℕ

abbrev pub empty_hand : Hand
empty_hand w = 0

-- The state is lawful, if the rights in hand count as placed: each live port has one receive right, and no right
-- that is placed or in hand names a port that isn't live.
pub record MidCall (state : Ipc) (hand : Hand) : Type 0 where
  pub parts : Parts state
  pub one_receive : (q : ℕ) → lives state q ≡ true → state_weigh (receive_of q) state + hand (receive_of q) ≡ 1
  pub none_dangles : NoneDangles state
  pub in_hand : (q : ℕ) → lives state q ≡ false → hand (any_of q) ≡ 0
  pub members : (serial set : ℕ) (port : PortState) → finmap.get state.ports serial ≡ Some port → port.set ≡ Some set
      → IsHeldAlongsideSet state serial set
  pub acyclic : Acyclic state

-- a call begins with nothing in hand
pub mid_of : (state : Ipc) → LawfulAtRest state → Acyclic state → MidCall state empty_hand
mid_of state lawful acyclic = record {
  parts = parts_of state [] lawful;
  one_receive = λ (q : ℕ) (live : _). omega (arith, count-receive state [] q, lawful.one_receive q live);
  none_dangles = dangles_none state [] lawful;
  in_hand = λ (q : ℕ) (dead : _). refl;
  members =
      λ (serial set : ℕ) (port : PortState) (at : _) (is : _). elim (lawful.sets serial set port at is)
      as (λ _. IsHeldAlongsideSet state serial set) [
        | inl held ↦ held
        | inr waits ↦ absurd (none_released serial waits)
      ];
  acyclic = acyclic;
}

-- and ends where all receive rights in hand wait among its effects
pub kept_of_mid : (state : Ipc) (hand : Hand) (effects : List Effect) → MidCall state hand → AllWaiting effects
    → ((q : ℕ) → weigh (effect_weigh (receive_of q)) effects ≡ hand (receive_of q)) → Kept state effects
kept_of_mid state hand effects mid waits receives = record {
  lawful = record {
    first_space = mid.parts.first_space;
    spaces = mid.parts.spaces;
    ports = mid.parts.ports;
    few_ports = mid.parts.few_ports;
    next = mid.parts.next;
    one_receive =
        λ (q : ℕ) (live : _). count-receive state effects q ∙ omega (arith, mid.one_receive q live, receives q);
    live = λ (q : ℕ) (dead : _). count-any state q ∙ mid.none_dangles q dead;
    waits = waits;
    sets = λ (serial set : ℕ) (port : PortState) (at : _) (is : _). inl (mid.members serial set port at is);
  };
  acyclic = mid.acyclic;
}

-- another hand over the same state
pub mid_hand : (state : Ipc) (hand later : Hand) → MidCall state hand
    → ((q : ℕ) → later (receive_of q) ≡ hand (receive_of q))
    → ((q : ℕ) → lives state q ≡ false → later (any_of q) ≤ hand (any_of q)) → MidCall state later
mid_hand state hand later mid receives less = record {
  parts = mid.parts;
  one_receive = λ (q : ℕ) (live : _). omega (arith, mid.one_receive q live, receives q);
  none_dangles = mid.none_dangles;
  in_hand = λ (q : ℕ) (dead : _). omega (arith, mid.in_hand q dead, less q dead);
  members = mid.members;
  acyclic = mid.acyclic;
}

-- what stands under names weighs no more than the state
names_part : (w : Weight) (state : Ipc) (space : ℕ) (names : Names) → finmap.get state.spaces space ≡ Some names
    → names_weigh w names ≤ state_weigh w state
unfolding state_weigh
names_part w state space names there =
    let in_spaces : total (λ s n. names_weigh w n) (finmap.remove state.spaces space) + names_weigh w names ≡ total
    (λ s n. names_weigh w n) state.spaces =
    subst (λ (o : Option Names). total (λ s n. names_weigh w n) (finmap.remove state.spaces space) + weight
    (λ s n. names_weigh w n) space o ≡ total (λ s n. names_weigh w n) state.spaces) there
    (total-remove (λ s n. names_weigh w n) state.spaces space) in
    omega (arith, in_spaces)

-- each receive right travels in one queue at most
pub mid_travels_once : (state : Ipc) (hand : Hand) → MidCall state hand → TravelsOnce state
mid_travels_once state hand mid q =
    elim (lives state q) as (λ (b : Bool). lives state q ≡ b → total (port_weigh (receive_of q)) state.ports ≤ 1) [
      | true ↦ λ (live : _). omega (arith, mid.one_receive q live, ports_in_state (receive_of q) state)
      | false ↦ λ (dead : _).
          omega (
            arith,
            mid.none_dangles q dead,
            ports_in_state (any_of q) state,
            ports_less (receive_of q) (any_of q) (receive_is_any q) state.ports,
          )
    ] refl

-- Names change, and rights go between them and the hand.

pub record NamesStep (state : Ipc) (space : ℕ) (names after : Names) (hand later : Hand) : Type 0 where
  pub there : finmap.get state.spaces space ≡ Some names
  pub lawful : LawfulNames after
  pub receives : (q : ℕ) → names_weigh (receive_of q) after + later (receive_of q)
      ≡ names_weigh (receive_of q) names + hand (receive_of q)
  pub none_dead : (q : ℕ) → lives state q ≡ false
      → names_weigh (any_of q) after + later (any_of q) ≤ names_weigh (any_of q) names + hand (any_of q)
  pub members : (serial set : ℕ) (port : PortState) → finmap.get state.ports serial ≡ Some port → port.set ≡ Some set
      → IsHeldAlongsideSet state serial set → IsHeldAlongsideSet (with_names state space after) serial set

pub named_parts : (state : Ipc) (space : ℕ) (names after : Names) → finmap.get state.spaces space ≡ Some names
    → LawfulNames after → Parts state → Parts (with_names state space after)
named_parts state space names after there lawful parts = record {
  first_space = first_there state space after parts.first_space.0 parts.first_space.1;
  spaces =
      λ (other : ℕ) (n : Names) (at : _). elim (one_space state space other after n at)
      as (λ _. (0 < other) × (other ≤ MAX_SPACES) × LawfulNames n) [
        | inl here ↦
            let own = parts.spaces space names there in (
              subst (λ (k : ℕ). 0 < k) (sym here.0) own.0,
              subst (λ (k : ℕ). k ≤ MAX_SPACES) (sym here.0) own.1,
              subst LawfulNames here.1 lawful,
            )
        | inr before ↦ parts.spaces other n before
      ];
  ports = parts.ports;
  few_ports = parts.few_ports;
  next = parts.next;
}

pub mid_names : (state : Ipc) (space : ℕ) (names after : Names) (hand later : Hand)
    → NamesStep state space names after hand later → MidCall state hand → MidCall (with_names state space after) later
mid_names state space names after hand later step mid = record {
  parts = named_parts state space names after step.there step.lawful mid.parts;
  one_receive =
      λ (q : ℕ) (live : _). omega (
        arith,
        mid.one_receive q live,
        step.receives q,
        names_change (receive_of q) state space names after step.there,
      );
  none_dangles = λ (q : ℕ) (dead : _).
      omega (
        arith,
        mid.none_dangles q dead,
        mid.in_hand q dead,
        step.none_dead q dead,
        names_change (any_of q) state space names after step.there,
        names_part (any_of q) state space names step.there,
      );
  in_hand = λ (q : ℕ) (dead : _).
      omega (
        arith,
        mid.none_dangles q dead,
        mid.in_hand q dead,
        step.none_dead q dead,
        names_part (any_of q) state space names step.there,
      );
  members =
      λ (serial set : ℕ) (port : PortState) (at : _) (is : _). step.members serial set port at is
      (mid.members serial set port at is);
  acyclic = mid.acyclic;
}

-- Another entry under one name.

pub record EntryStep (state : Ipc) (space name : ℕ) (names : Names) (before after : Option Entry)
    (hand later : Hand) : Type 0 where
  pub there : finmap.get state.spaces space ≡ Some names
  pub at : finmap.get names name ≡ before
  pub lawful : LawfulNames (changed names name after)
  pub receives : (q : ℕ) → under (receive_of q) after + later (receive_of q)
      ≡ under (receive_of q) before + hand (receive_of q)
  pub none_dead : (q : ℕ) → lives state q ≡ false
      → under (any_of q) after + later (any_of q) ≤ under (any_of q) before + hand (any_of q)
  pub held : (serial set : ℕ) (port : PortState) → finmap.get state.ports serial ≡ Some port → port.set ≡ Some set
      → received_under before ≡ Some serial → received_under after ≡ Some serial
  pub set : before ≡ Some Set → after ≡ Some Set

alongside_still : (state : Ipc) (space name : ℕ) (names : Names) (before after : Option Entry) (hand later : Hand)
    → EntryStep state space name names before after hand later
    → (serial set : ℕ) (port : PortState) → finmap.get state.ports serial ≡ Some port → port.set ≡ Some set
    → IsHeldAlongsideSet state serial set
    → IsHeldAlongsideSet (with_names state space (changed names name after)) serial set
alongside_still state space name names before after hand later step serial set port live is_in
    (other, held_names, held_name, entry, there, at, is, alongside) =
    elim (number_decided other space)
    as (λ _. IsHeldAlongsideSet (with_names state space (changed names name after)) serial set) [
      | inl apart ↦ (
        other,
        held_names,
        held_name,
        entry,
        get-there state.spaces space (changed names name after) other apart ∙ there,
        at,
        is,
        alongside,
      )
      | inr same ↦
          let same_names : held_names ≡ names =
          some_same held_names names (sym there ∙ ap (finmap.get state.spaces) same ∙ step.there) in
          let alongside_here : finmap.get names set ≡ Some Set =
          ap (λ (n : Names). finmap.get n set) (sym same_names) ∙ alongside in
          let at_here : finmap.get names held_name ≡ Some entry =
          ap (λ (n : Names). finmap.get n held_name) (sym same_names) ∙ at in
          let space_there : finmap.get (finmap.insert state.spaces space (changed names name after)) space
          ≡ Some (changed names name after) = get-here state.spaces space (changed names name after) in
          let set_stays : finmap.get (changed names name after) set ≡ Some Set =
          elim (number_decided set name) as (λ _. finmap.get (changed names name after) set ≡ Some Set) [
            | inl apart ↦ changed_there names name set after apart ∙ alongside_here
            | inr named ↦ ap (finmap.get (changed names name after)) named ∙ changed_here names name after
                ∙ step.set (sym step.at ∙ ap (finmap.get names) (sym named) ∙ alongside_here)
          ] in
          elim (number_decided held_name name)
          as (λ _. IsHeldAlongsideSet (with_names state space (changed names name after)) serial set) [
            | inl apart ↦ (
              space,
              changed names name after,
              held_name,
              entry,
              space_there,
              changed_there names name held_name after apart ∙ at_here,
              is,
              set_stays,
            )
            | inr named ↦
                let was : before ≡ Some entry = sym step.at ∙ ap (finmap.get names) (sym named) ∙ at_here in
                let now = entry_of after serial (step.held serial set port live is_in (ap received_under was ∙ is)) in (
                  space,
                  changed names name after,
                  name,
                  now.0,
                  space_there,
                  changed_here names name after ∙ now.1,
                  now.2,
                  set_stays,
                )
          ]
    ]

pub mid_entry : (state : Ipc) (space name : ℕ) (names : Names) (before after : Option Entry) (hand later : Hand)
    → EntryStep state space name names before after hand later → MidCall state hand
    → MidCall (with_names state space (changed names name after)) later
mid_entry state space name names before after hand later step mid =
    mid_names state space names (changed names name after) hand later (record {
      there = step.there;
      lawful = step.lawful;
      receives =
          λ (q : ℕ). omega (arith, changed_weight (receive_of q) names name before after step.at, step.receives q);
      none_dead =
          λ (q : ℕ) (dead : _). omega (
            arith,
            changed_weight (any_of q) names name before after step.at,
            step.none_dead q dead,
          );
      members = alongside_still state space name names before after hand later step;
    }) mid

-- Another state of one live port.

pub record PortStep (state : Ipc) (serial : ℕ) (change : PortState → PortState) (hand later : Hand) : Type 0 where
  pub port : PortState
  pub there : finmap.get state.ports serial ≡ Some port
  pub lawful : LawfulPort (change port)
  pub receives : (q : ℕ) → port_weigh (receive_of q) serial (change port) + later (receive_of q)
      ≡ port_weigh (receive_of q) serial port + hand (receive_of q)
  pub none_dead : (q : ℕ) → lives state q ≡ false
      → port_weigh (any_of q) serial (change port) + later (any_of q)
      ≤ port_weigh (any_of q) serial port + hand (any_of q)
  pub set : (set : ℕ) → (change port).set ≡ Some set → port.set ≡ Some set
  pub acyclic : Acyclic (with_port state serial change)

live_before : (state : Ipc) (serial q : ℕ) (change : PortState → PortState) (port : PortState)
    → finmap.get state.ports serial ≡ Some port → lives (with_port state serial change) q ≡ true → lives state q ≡ true
live_before state serial q change port there live = elim (number_decided q serial) as (λ _. lives state q ≡ true) [
  | inl apart ↦ sym (ap (λ (s : Ipc). lives s q) (with_port_there state serial change port there)
      ∙ ap is_some (get-there state.ports serial (change port) q apart)) ∙ live
  | inr same ↦ ap (lives state) same ∙ ap is_some there
]

members_still : (state : Ipc) (serial : ℕ) (change : PortState → PortState) (hand later : Hand)
    → PortStep state serial change hand later → MidCall state hand
    → (other set : ℕ) (port : PortState) → finmap.get (with_port state serial change).ports other ≡ Some port
    → port.set ≡ Some set → IsHeldAlongsideSet (with_port state serial change) other set
members_still state serial change hand later step mid other set port at is =
    let at_there : finmap.get (finmap.insert state.ports serial (change step.port)) other ≡ Some port =
    ap (λ (s : Ipc). finmap.get s.ports other) (sym (with_port_there state serial change step.port step.there))
    ∙ at in
    let before : IsHeldAlongsideSet state other set =
    elim (number_decided other serial) as (λ _. IsHeldAlongsideSet state other set) [
      | inl apart ↦ mid.members other set port
          (sym (get-there state.ports serial (change step.port) other apart) ∙ at_there) is
      | inr same ↦
          let changed : change step.port ≡ port =
          some_same (change step.port) port
          (sym (get-here state.ports serial (change step.port))
          ∙ ap (finmap.get (finmap.insert state.ports serial (change step.port))) (sym same) ∙ at_there) in
          subst (λ (k : ℕ). IsHeldAlongsideSet state k set) (sym same)
          (mid.members serial set step.port step.there (step.set set (ap (λ (p : PortState). p.set) changed ∙ is)))
    ] in
    subst (λ (s : finmap.FinMap _ Names). IsHeldAlongsideSet (record state { spaces = s }) other set)
    (sym (with_port_spaces state serial change)) before

pub mid_port : (state : Ipc) (serial : ℕ) (change : PortState → PortState) (hand later : Hand)
    → PortStep state serial change hand later → MidCall state hand → MidCall (with_port state serial change) later
mid_port state serial change hand later step mid = record {
  parts =
      subst Parts (sym (with_port_there state serial change step.port step.there))
      (inserted_parts state serial step.port (change step.port) step.there step.lawful mid.parts);
  one_receive = λ (q : ℕ) (live : _).
      omega (
        arith,
        mid.one_receive q (live_before state serial q change step.port step.there live),
        step.receives q,
        with_port_weigh (receive_of q) state serial change step.port step.there,
      );
  none_dangles = λ (q : ℕ) (dead : _).
      let before : lives state q ≡ false = dead_before state serial q change dead in
      omega (
        arith,
        mid.none_dangles q before,
        mid.in_hand q before,
        step.none_dead q before,
        with_port_weigh (any_of q) state serial change step.port step.there,
        port_part (any_of q) state serial step.port step.there,
      );
  in_hand = λ (q : ℕ) (dead : _).
      let before : lives state q ≡ false = dead_before state serial q change dead in
      omega (
        arith,
        mid.none_dangles q before,
        mid.in_hand q before,
        step.none_dead q before,
        port_part (any_of q) state serial step.port step.there,
      );
  members = members_still state serial change hand later step mid;
  acyclic = step.acyclic;
}
