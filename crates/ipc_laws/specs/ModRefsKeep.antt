-- mach_port_mod_refs leaves lawful and acyclic states.
use Rattle.std.specs.Prelude.{◌≡◌, ℕ, zero, suc, ◌+◌, ◌≤◌, Bool, true, false, not, nat_lt, ◌||◌, ◌==◌, List, [], ◌∷◌, None, Some, is_some, if◌then◌else◌, refl}
use Rattle.std.proofs.Common.{sym, ◌∙◌, ap, subst, inr, arith}
use Rattle.std.proofs.lemmas.Bool.{ltb-false}
use Rattle.std.specs.FinMap as finmap
use Rattle.codes.specs.declared.kern_return.KernReturn.TheVariants.{InvalidValue, UrefsOverflow}
use Rattle.codes.specs.declared.limits.TheConstants.{MAX_SEND_REFERENCES, MAX_DEAD_REFERENCES}
use Rattle.codes.specs.declared.right.Right.TheVariants as right
use Rattle.ipc_model.specs.declared.entry.Entry.{Entry}
use Rattle.ipc_model.specs.declared.entry.Entry.TheVariants.{Port, SendOnce, Set, Dead}
use Rattle.ipc_model.specs.declared.entry.PortRights.{PortRights}
use Rattle.ipc_model.specs.declared.message.RightKind.TheVariants as kind
use Rattle.ipc_model.specs.declared.port.PortState.{PortState}
use Rattle.ipc_model.specs.calls.Actions as actions
use Rattle.ipc_laws.specs.CallsKeep.{Kept, first_passes}
use Rattle.ipc_model.specs.state.Circular.{Acyclic}
use Rattle.ipc_model.specs.rights.CopyIn.{notices_of_left}
use Rattle.ipc_model.specs.effects.Effects.{Effect, release}
use Rattle.ipc_laws.specs.EntryChanges.{EntryMove, changed, under}
use Rattle.ipc_model.specs.state.Lawful.{LawfulNames, IsReleased}
use Rattle.ipc_laws.specs.LawfulLaws.{LawfulAtRest}
use Rattle.ipc_laws.specs.ListLaws.{some_same}
use Rattle.ipc_model.specs.calls.PortCalls.{one_if, has_receive, is_right, is_no_right, references_of, sum_of, sum_is_negative, bound_of, minus_one, tests_of_delta, is_none_or_minus_one}
use Rattle.ipc_laws.specs.ReferencesKeep.{entry_kept, left_of, left_state, left_receive, left_waits, left_weighs, port_weighs, left_lawful, not_empty, not_set, none_released, first_released, send_left_kept, dead_left_kept, gone_kept, changed_space}
use Rattle.ipc_laws.specs.SetsKeep.{set_gone_kept}
use Rattle.ipc_model.specs.state.Ipc.{Ipc, Names, with_names}
use Rattle.ipc_model.specs.calls.Tests.{first_failing}
use Rattle.ipc_laws.specs.Weights.{Weight, target_weigh, entry_weigh, receive_of, any_of}

-- The receive right goes: it is released, and send references stay with the name.

without_receive : (w : Weight) (rights : PortRights)
    → under w (left_of (Port (record rights { receive = false }))) ≤ entry_weigh w (Port rights)
without_receive w rights =
    elim (rights.send == 0) as (λ (b : Bool). under w
    (if b then None else Some (Port (record rights { receive = false })))
    ≤ (if rights.receive then w kind.Receive rights.port else 0) +
    ((if rights.send == 0 then 0 else w kind.Send rights.port) + target_weigh w rights.dead_name_target)) [
      | true ↦ omega arith
      | false ↦ omega arith
    ]

pub receive_gone_kept : (old : Ipc) (space name : ℕ) (names : Names) (rights : PortRights) → LawfulAtRest old
    → Acyclic old → finmap.get old.spaces space ≡ Some names → finmap.get names name ≡ Some (Port rights)
    → rights.receive ≡ true
    → Kept (actions.receive_gone old space name rights).state (actions.receive_gone old space name rights).effects
receive_gone_kept old space name names rights lawful acyclic there at holds =
    let entry : Entry = Port (record rights { receive = false }) in
    let later : List Effect = release kind.Receive rights.port ∷ notices_of_left name entry in
    let move : EntryMove old space name names (Some (Port rights)) (left_of entry) [] later = record {
      there = there;
      at = at;
      receives = λ (q : ℕ). omega (
        arith,
        left_weighs q rights.port rights.send false rights.dead_name_target,
        port_weighs q rights.port rights.send rights.receive rights.dead_name_target,
        ap (λ (b : Bool). if b then receive_of q kind.Receive rights.port else 0) holds,
        left_receive q name entry,
      );
      none_dead = λ (q : ℕ) (dead : _). without_receive (any_of q) rights;
      waits = (tt, left_waits name entry);
      held = λ (serial : ℕ) (is : _).
          let here : rights.port ≡ serial =
          some_same rights.port serial (sym (ap (λ (b : Bool). if b then Some rights.port else None) holds) ∙ is) in
          inr (subst (λ (s : ℕ). IsReleased (release kind.Receive s ∷ notices_of_left name entry) serial) (sym here)
          (first_released serial (notices_of_left name entry)));
      set = λ (e : _). absurd (not_set rights e);
      released = λ (serial set : ℕ) (port : PortState) (_ : _) (_ : _) (r : _). absurd (none_released serial r);
    } in
    let own = lawful.spaces space names there in
    let bounds = (own.2.named name (Port rights) at).2 in
    let lawful_names : LawfulNames (changed names name (left_of entry)) =
    left_lawful names name rights entry own.2 at refl
    (λ (some_left : _). (not_empty false rights.send some_left, bounds.1)) in
    subst (λ (s : Ipc). Kept s later) (sym (left_state old space name names entry there))
    (entry_kept old space name names (Some (Port rights)) (left_of entry) later lawful acyclic move lawful_names)

-- what the tests of a delta have shown

delta_bound : (which references delta : ℕ) → (is_right which right.Send || is_right which right.DeadName) ≡ true
    → first_failing (tests_of_delta which references delta) ≡ None → sum_of references delta ≤ bound_of which
delta_bound which references delta counted passes =
    let tests : first_failing ((sum_is_negative references delta, InvalidValue) ∷
    (nat_lt (bound_of which) (sum_of references delta), UrefsOverflow) ∷ []) ≡ None =
    sym (ap (λ (b : Bool). first_failing
    (if b then (sum_is_negative references delta, InvalidValue) ∷
    (nat_lt (bound_of which) (sum_of references delta), UrefsOverflow) ∷ []
    else (not (is_none_or_minus_one delta), InvalidValue) ∷ [])) counted) ∙ passes in
    let second =
    (first_passes (sum_is_negative references delta, InvalidValue)
    ((nat_lt (bound_of which) (sum_of references delta), UrefsOverflow) ∷ []) tests).1 in
    ltb-false (bound_of which) (sum_of references delta)
    (first_passes (nat_lt (bound_of which) (sum_of references delta), UrefsOverflow) [] second).0

same_kept : (old : Ipc) → LawfulAtRest old → Acyclic old → Kept old []
same_kept old lawful acyclic = record { lawful = lawful; acyclic = acyclic }

if_kept : (b : Bool) (one other : actions.Action) → (b ≡ true → Kept one.state one.effects)
    → (b ≡ false → Kept other.state other.effects)
    → Kept (if b then one else other).state (if b then one else other).effects
if_kept true one other first second = first refl
if_kept false one other first second = second refl

nothing_counts : (a b c : Bool) → ((if a then 0 else if b then 0 else if c then 0 else 0) == 0) ≡ true
nothing_counts true b c = refl
nothing_counts false true c = refl
nothing_counts false false true = refl
nothing_counts false false false = refl

abbrev references_unless : ℕ → PortRights → ℕ
references_unless which rights =
    if is_right which right.Receive then one_if (has_receive (Port rights)) else if is_right which right.SendOnce then 0
    else if is_right which right.PortSet then 0 else 0

-- a name of a port holds the right that is asked for: its send right, or its receive right
port_holds : (rights : PortRights) (which : ℕ) → (references_of which (Port rights) == 0) ≡ false
    → is_right which right.Send ≡ false → rights.receive ≡ true
port_holds rights which some other =
    let counted : ((if is_right which right.Receive then one_if (has_receive (Port rights))
    else if is_right which right.SendOnce then 0 else if is_right which right.PortSet then 0 else 0) == 0) ≡ false =
    sym (ap (λ (b : Bool). (if b then rights.send else if is_right which right.Receive
    then one_if (has_receive (Port rights)) else if is_right which right.SendOnce then 0
    else if is_right which right.PortSet then 0 else 0) == 0) other) ∙ some in
    elim rights.receive as (λ (r : Bool).
    ((if is_right which right.Receive then one_if (is_some (if r then Some rights.port else None))
    else if is_right which right.SendOnce then 0 else if is_right which right.PortSet then 0 else 0) == 0)
    ≡ false → r ≡ true) [
      | true ↦ λ (_ : _). refl
      | false ↦ λ (e : _). absurd (cc
          (sym e ∙ nothing_counts (is_right which right.Receive) (is_right which right.SendOnce)
          (is_right which right.PortSet)))
    ] counted

-- a dead name has no other right
dead_holds : (references which : ℕ) → (references_of which (Dead references) == 0) ≡ false → is_no_right which ≡ false
    → (is_right which right.DeadName ≡ true) × (is_right which right.Send ≡ false)
    × (references_of which (Dead references) ≡ references)
dead_holds references zero some known = absurd (cc some)
dead_holds references (suc zero) some known = absurd (cc some)
dead_holds references (suc (suc zero)) some known = absurd (cc some)
dead_holds references (suc (suc (suc zero))) some known = absurd (cc some)
dead_holds references (suc (suc (suc (suc zero)))) some known = (refl, refl, refl)
dead_holds references (suc (suc (suc (suc (suc k))))) some known =
    absurd (omega (arith, ltb-false 4 (suc (suc (suc (suc (suc k))))) known))

either_way : (b c : Bool) → c ≡ true → (b || c) ≡ true
either_way true c e = refl
either_way false c e = e

pub modified_kept : (old : Ipc) (space name : ℕ) (names : Names) (entry : Entry) (which delta : ℕ) → LawfulAtRest old
    → Acyclic old → finmap.get old.spaces space ≡ Some names → finmap.get names name ≡ Some entry
    → is_no_right which ≡ false → (references_of which entry == 0) ≡ false
    → first_failing (tests_of_delta which (references_of which entry) delta) ≡ None
    → Kept (actions.modified old space names name entry which delta).state
    (actions.modified old space names name entry which delta).effects
modified_kept old space name names (Port rights) which delta lawful acyclic there at known some passes =
    if_kept (is_right which right.Send) (actions.send_left old space name rights (sum_of rights.send delta) 9)
    (if delta == minus_one then actions.receive_gone old space name rights else actions.done_with 9 old [])
    (λ (send : _).
    let counted : references_of which (Port rights) ≡ rights.send =
    ap (λ (b : Bool). if b then rights.send else references_unless which rights) send in
    let bound : sum_of (references_of which (Port rights)) delta ≤ bound_of which =
    delta_bound which (references_of which (Port rights)) delta
    (ap (λ (b : Bool). b || is_right which right.DeadName) send) passes in
    send_left_kept old space name names rights (sum_of rights.send delta) 9 lawful acyclic there at
    (sym (ap (λ (n : ℕ). n == 0) counted) ∙ some)
    (subst (λ (n : ℕ). sum_of n delta ≤ MAX_SEND_REFERENCES) counted
    (subst (λ (m : ℕ). sum_of (references_of which (Port rights)) delta ≤ m)
    (ap (λ (b : Bool). if b then MAX_SEND_REFERENCES else MAX_DEAD_REFERENCES) send) bound)))
    (λ (other : _). if_kept (delta == minus_one) (actions.receive_gone old space name rights)
    (actions.done_with 9 old [])
    (λ (_ : _). receive_gone_kept old space name names rights lawful acyclic there at
    (port_holds rights which some other)) (λ (_ : _). same_kept old lawful acyclic))
modified_kept old space name names (SendOnce port target) which delta lawful acyclic there at known some passes =
    if_kept (delta == minus_one) (actions.send_once_gone old space name port target 9) (actions.done_with 9 old [])
    (λ (_ : _). subst (λ (s : Ipc). Kept s (actions.effects_of_name name (SendOnce port target)))
    (sym (changed_space old space names (λ (n : Names). finmap.remove n name) there))
    (gone_kept old space name names (SendOnce port target) lawful acyclic there at tt))
    (λ (_ : _). same_kept old lawful acyclic)
modified_kept old space name names Set which delta lawful acyclic there at known some passes =
    if_kept (delta == minus_one) (actions.done_with 9
    (with_names (actions.members_in old names name None) space (finmap.remove names name)) [])
    (actions.done_with 9 old [])
    (λ (_ : _). set_gone_kept old space name names lawful acyclic there at) (λ (_ : _). same_kept old lawful acyclic)
modified_kept old space name names (Dead references) which delta lawful acyclic there at known some passes =
    let is = dead_holds references which some known in
    let bound : sum_of references delta ≤ bound_of which =
    delta_bound which references delta (either_way (is_right which right.Send) (is_right which right.DeadName) is.0)
    (sym (ap (λ (n : ℕ). first_failing (tests_of_delta which n delta)) is.2) ∙ passes) in
    dead_left_kept old space name names references (sum_of references delta) 9 lawful acyclic there at
    (subst (λ (m : ℕ). sum_of references delta ≤ m)
    (ap (λ (b : Bool). if b then MAX_SEND_REFERENCES else MAX_DEAD_REFERENCES) is.1) bound)
