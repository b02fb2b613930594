-- A space that goes with all its names leaves a state that is lawful with the effects.
use Rattle.std.specs.Prelude.{◌≡◌, ℕ, ◌+◌, Bool, true, false, cond, ◌==◌, filter_map, flat_map, List, [], ◌∷◌, Option, None, Some, refl}
use Rattle.std.proofs.Common.{sym, ◌∙◌, ap, subst, inl, inr, arith}
use Rattle.std.proofs.lemmas.Bool.{eqb-false}
use Rattle.std.specs.List.{cons_option}
use Rattle.std.specs.Ordering.{nat_cmp, eq_by_cmp}
use Rattle.std.specs.FinMap as finmap
use Rattle.std.specs.FinMap.{find, get-entries}
use Rattle.codes.specs.declared.kern_return.KernReturn.TheVariants.{Failure}
use Rattle.ipc_model.specs.declared.plain_call.PlainCall.TheVariants as call
use Rattle.ipc_model.specs.declared.plain_reply.PlainReply.{PlainReply}
use Rattle.ipc_model.specs.declared.entry.Entry.{Entry}
use Rattle.ipc_model.specs.declared.port.PortState.{PortState}
use Rattle.ipc_model.specs.calls.Actions as actions
use Rattle.ipc_model.specs.calls.Actions.{Done}
use Rattle.ipc_laws.specs.CallsKeep.{Kept, first_passes}
use Rattle.ipc_model.specs.state.Circular.{Acyclic}
use Rattle.ipc_model.specs.effects.Effects.{Effect}
use Rattle.ipc_laws.specs.EffectsKeep.{waiting-flat_map}
use Rattle.ipc_laws.specs.Hands.{MidCall, empty_hand, mid_of, kept_of_mid}
use Rattle.ipc_laws.specs.Dangling.{left_apart}
use Rattle.ipc_model.specs.state.Lawful.{IsHeldAlongsideSet}
use Rattle.ipc_laws.specs.LawfulLaws.{LawfulAtRest}
use Rattle.ipc_laws.specs.ListLaws.{some_same}
use Rattle.ipc_laws.specs.MapLaws.{get-left}
use Rattle.ipc_laws.specs.MapSums.{weigh, total, weight, weigh-flat_map, weigh-same, total-remove}
use Rattle.ipc_laws.specs.Others.{number_decided}
use Rattle.ipc_model.specs.calls.PortCalls.{tests_of}
use Rattle.ipc_laws.specs.ReferencesKeep.{name_weighs, name_waits}
use Rattle.ipc_laws.specs.SetsKeep.{Among, among_more, taken_out, all_out_kept, all_out_spaces, still_in}
use Rattle.ipc_model.specs.state.Ipc.{Ipc, Names, received_port}
use Rattle.ipc_model.specs.calls.Tests.{first_failing}
use Rattle.ipc_laws.specs.Weights.{Weight, entry_weigh, names_weigh, state_weigh, effect_weigh, receive_of, any_of}

-- every port whose receive right a name of the space holds is among those that are taken out of their sets
held_among : (es : List (ℕ × Entry)) (name serial : ℕ) (entry : Entry) → find nat_cmp name es ≡ Some entry
    → received_port entry ≡ Some serial → Among serial (filter_map (λ e. received_port e.1) es)
held_among [] name serial entry there is = absurd (cc there)
held_among (e ∷ es) name serial entry there is =
    elim (eq_by_cmp nat_cmp name e.0)
    as (λ (b : Bool). cond b (Some e.1) (find nat_cmp name es) ≡ Some entry
    → Among serial (filter_map (λ x. received_port x.1) (e ∷ es))) [
      | true ↦ λ (same : _). subst
          (λ (o : Option ℕ). Among serial (cons_option o (filter_map (λ x. received_port x.1) es)))
          (sym (ap received_port (some_same e.1 entry same) ∙ is)) (inl refl)
      | false ↦ λ (later : _). among_more serial (received_port e.1) (filter_map (λ x. received_port x.1) es)
          (held_among es name serial entry later is)
    ] there

without_weighs : (w : Weight) (state : Ipc) (space : ℕ) (names : Names) → finmap.get state.spaces space ≡ Some names
    → state_weigh w (record state { spaces = finmap.remove state.spaces space }) + names_weigh w names
    ≡ state_weigh w state
unfolding state_weigh
without_weighs w state space names there =
    let taken : total (λ s n. names_weigh w n) (finmap.remove state.spaces space) + names_weigh w names ≡ total
    (λ s n. names_weigh w n) state.spaces =
    subst (λ (o : Option Names). total (λ s n. names_weigh w n) (finmap.remove state.spaces space) + weight
    (λ s n. names_weigh w n) space o ≡ total (λ s n. names_weigh w n) state.spaces) there
    (total-remove (λ s n. names_weigh w n) state.spaces space) in
    omega (arith, taken)

space_still : (state : Ipc) (space other : ℕ) (names : Names)
    → finmap.get (finmap.remove state.spaces space) other ≡ Some names → finmap.get state.spaces other ≡ Some names
space_still state space other names at =
    sym (get-left state.spaces space other (left_apart state.spaces space other names at)) ∙ at

-- members in other spaces stay in the spaces of their sets
alongside_left : (state : Ipc) (space : ℕ) (names : Names) (serial set : ℕ)
    → finmap.get state.spaces space ≡ Some names
    → ((name : ℕ) (entry : Entry) → finmap.get names name ≡ Some entry → received_port entry ≡ Some serial → ⊥)
    → IsHeldAlongsideSet state serial set
    → IsHeldAlongsideSet (record state { spaces = finmap.remove state.spaces space }) serial set
alongside_left state space names serial set there none_in
    (other, held_names, name, entry, at_space, at, is, alongside) = elim (number_decided other space)
    as (λ _. IsHeldAlongsideSet (record state { spaces = finmap.remove state.spaces space }) serial set) [
      | inl apart ↦ (
        other,
        held_names,
        name,
        entry,
        get-left state.spaces space other apart
            ∙ at_space,
        at,
        is,
        alongside,
      )
      | inr same ↦
          let same_names : held_names ≡ names =
          some_same held_names names (sym at_space ∙ ap (finmap.get state.spaces) same ∙ there) in
          absurd (none_in name entry (ap (λ (n : Names). finmap.get n name) (sym same_names) ∙ at) is)
    ]

-- the space goes, and its names' rights are in hand
space_gone_mid : (state : Ipc) (space : ℕ) (names : Names) → (space == 1) ≡ false
    → finmap.get state.spaces space ≡ Some names → MidCall state empty_hand
    → ((serial set : ℕ) (port : PortState) → finmap.get state.ports serial ≡ Some port → port.set ≡ Some set
    → (name : ℕ) (entry : Entry) → finmap.get names name ≡ Some entry → received_port entry ≡ Some serial → ⊥)
    → MidCall (record state { spaces = finmap.remove state.spaces space }) (λ w. names_weigh w names)
space_gone_mid state space names not_first there mid none_in = record {
  parts = record {
    first_space = (
      mid.parts.first_space.0,
      get-left state.spaces space 1
          (λ (same : _). omega (arith, eqb-false space 1 not_first, same)) ∙ mid.parts.first_space.1,
    );
    spaces = λ (other : ℕ) (n : Names) (at : _). mid.parts.spaces other n (space_still state space other n at);
    ports = mid.parts.ports;
    few_ports = mid.parts.few_ports;
    next = mid.parts.next;
  };
  one_receive =
      λ (q : ℕ) (live : _). omega (
        arith,
        mid.one_receive q live,
        without_weighs (receive_of q) state space names there,
      );
  none_dangles =
      λ (q : ℕ) (dead : _). omega (arith, mid.none_dangles q dead, without_weighs (any_of q) state space names there);
  in_hand =
      λ (q : ℕ) (dead : _). omega (arith, mid.none_dangles q dead, without_weighs (any_of q) state space names there);
  members = λ (serial set : ℕ) (port : PortState) (at : _) (is : _).
      let held = mid.members serial set port at is in
      alongside_left state space names serial set there
      (λ (name : ℕ) (entry : Entry) (named : _) (receives : _). none_in serial set port at is name entry named
      receives) held;
  acyclic = mid.acyclic;
}

-- (every name's effects, by receive rights)
all_weigh : (q : ℕ) (names : Names)
    → weigh (effect_weigh (receive_of q)) (flat_map (λ e. actions.effects_of_name e.0 e.1) (finmap.entries names))
    ≡ names_weigh (receive_of q) names
all_weigh q names =
    weigh-flat_map (effect_weigh (receive_of q))
    (λ (e : ℕ × Entry). actions.effects_of_name e.0 e.1) (finmap.entries names)
    ∙ weigh-same (λ (e : ℕ × Entry). weigh (effect_weigh (receive_of q)) (actions.effects_of_name e.0 e.1))
    (λ (e : ℕ × Entry). entry_weigh (receive_of q) e.1)
    (λ (e : ℕ × Entry). name_weighs q e.0 e.1) (finmap.entries names)

pub space_destroy_kept : (old : Ipc) (space : ℕ) (names : Names) (answer : PlainReply) (new : Ipc)
    (effects : List Effect) → LawfulAtRest old → Acyclic old → finmap.get old.spaces space ≡ Some names
    → first_failing (tests_of old space names call.SpaceDestroy) ≡ None
    → Done old space names call.SpaceDestroy answer new effects → Kept new effects
unfolding Done tests_of
space_destroy_kept old space names answer new effects lawful acyclic there passes done =
    let not_first : (space == 1) ≡ false = (first_passes (space == 1, Failure) [] passes).0 in
    let outside : Ipc = actions.with_ports old (actions.received_serials names) taken_out in
    let kept = all_out_kept old (actions.received_serials names) lawful acyclic in
    let spaces : outside.spaces ≡ old.spaces = all_out_spaces old (actions.received_serials names) in
    let there_still : finmap.get outside.spaces space ≡ Some names =
    ap (λ (s : finmap.FinMap nat_cmp Names). finmap.get s space) spaces ∙ there in
    let later : List Effect = flat_map (λ e. actions.effects_of_name e.0 e.1) (finmap.entries names) in
    let gone : MidCall (record outside { spaces = finmap.remove outside.spaces space }) (λ w. names_weigh w names) =
    space_gone_mid outside space names not_first there_still (mid_of outside kept.lawful kept.acyclic)
    (λ (serial set : ℕ) (port : PortState) (at : _) (is : _) (name : ℕ) (entry : Entry) (named : _) (receives : _).
    (still_in old (actions.received_serials names) serial set port at is).0
    (held_among (finmap.entries names) name serial entry (sym (get-entries names name) ∙ named) receives)) in
    let as_said : MidCall (record outside { spaces = finmap.remove old.spaces space }) (λ w. names_weigh w names) =
    subst (λ (s : finmap.FinMap nat_cmp Names). MidCall (record outside { spaces = finmap.remove s space })
    (λ w. names_weigh w names)) spaces gone in
    subst (λ (s : Ipc). Kept s effects) (sym done.1)
    (subst (λ (l : List Effect). Kept (record outside { spaces = finmap.remove old.spaces space }) l) (sym done.2)
    (kept_of_mid _ (λ w. names_weigh w names) later as_said
    (waiting-flat_map (λ (e : ℕ × Entry). actions.effects_of_name e.0 e.1) (finmap.entries names)
    (λ (e : ℕ × Entry). name_waits e.0 e.1)) (λ (q : ℕ). all_weigh q names)))
