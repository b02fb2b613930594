-- The calls whose steps are shown to leave lawful and acyclic states.
use Rattle.std.specs.Prelude.{◌^◌, not, ◌≡◌, ◌⊎◌, ℕ, zero, suc, ◌-◌, ◌<◌, Bool, true, false, ◌&&◌, ◌||◌, ◌==◌, List, [], ◌∷◌, Option, None, Some, is_some, if◌then◌else◌, refl}
use Rattle.std.proofs.Common.{sym, subst, inl, inr, arith}
use Rattle.std.specs.FinMap as finmap
use Rattle.codes.specs.declared.kern_return.KernReturn.{KernReturn}
use Rattle.codes.specs.declared.kern_return.KernReturn.TheVariants.{InvalidName, InvalidRight, InvalidValue, NoSpace, NameExists, ResourceShortage}
use Rattle.codes.specs.declared.right.Right.TheVariants as right
use Rattle.ipc_model.specs.declared.plain_call.PlainCall.{PlainCall}
use Rattle.ipc_model.specs.declared.plain_call.PlainCall.TheVariants as call
use Rattle.ipc_model.specs.declared.plain_reply.PlainReply.{PlainReply}
use Rattle.ipc_model.specs.declared.entry.Entry.{Entry}
use Rattle.ipc_model.specs.declared.entry.Entry.TheVariants.{Port, SendOnce, Set, Dead}
use Rattle.ipc_model.specs.declared.entry.PortRights.{PortRights}
use Rattle.ipc_model.specs.calls.Actions as actions
use Rattle.ipc_model.specs.calls.Actions.{ActsOn, Done}
use Rattle.ipc_laws.specs.AllocateKeep.{allocated_kept, chosen_unused}
use Rattle.ipc_laws.specs.CallsKeep.{Kept, kept_as, first_passes, simple_kept}
use Rattle.ipc_model.specs.state.Circular.{Acyclic}
use Rattle.ipc_laws.specs.EffectRanks.{settled_is_lawful}
use Rattle.ipc_laws.specs.Dangling.{not_equal}
use Rattle.ipc_model.specs.effects.Effects.{Effect}
use Rattle.ipc_model.specs.state.Lawful.{Lawful, LawfulEntry}
use Rattle.ipc_laws.specs.LawfulLaws.{LawfulAtRest, at_rest}
use Rattle.ipc_laws.specs.ModRefsKeep.{modified_kept}
use Rattle.ipc_model.specs.calls.PortCalls.{is_no_right, references_of, tests_of_delta, tests_of, is_allocatable, names_are_used_up, is_in_use, is_right, is_no_name, entry_is, name_is, is_set, has_receive, send_references}
use Rattle.ipc_laws.specs.ReceiveKeep.{receive_kept}
use Rattle.ipc_laws.specs.RenameKeep.{rename_kept}
use Rattle.ipc_laws.specs.RequestsKeep.{request_kept}
use Rattle.ipc_laws.specs.RightsKeep.{insert_kept, extract_kept, create_kept}
use Rattle.ipc_laws.specs.SentKeep.{send_kept}
use Rattle.ipc_laws.specs.SpacesKeep.{space_destroy_kept}
use Rattle.ipc_laws.specs.ReferencesKeep.{send_left_kept, dead_left_kept, gone_kept, changed_space}
use Rattle.ipc_laws.specs.SetsKeep.{destroyed_kept}
use Rattle.ipc_model.specs.state.Ipc.{Ipc, Names, is_null_or_dead, ports_are_used_up}
use Rattle.ipc_model.specs.calls.PlainStep.{PlainStep, ActsIn, ActsFrom}
use Rattle.ipc_laws.specs.StepLaws.{Called}
use Rattle.ipc_model.specs.calls.Tests.{Tests, first_failing}
use Rattle.ipc_model.specs.encodings.PlainCalls.{FitsCall}

-- mach_port_deallocate

-- the name holds more than a receive right
some_left : (receive : Bool) (port send : ℕ) → (receive ≡ true) ⊎ (0 < send)
    → (is_some (if receive then Some port else None) && send == 0) ≡ false → (send == 0) ≡ false
some_left true port send either passes = passes
some_left false port send (inl receive) passes = absurd (cc receive)
some_left false port zero (inr less) passes = absurd (omega (arith, less))
some_left false port (suc send) (inr less) passes = not_equal (suc send) 0 (λ (e : _). absurd (omega (arith, e)))

has_references : (rights : PortRights) → LawfulEntry (Port rights)
    → (false || (has_receive (Port rights) && rights.send == 0)) ≡ false → (rights.send == 0) ≡ false
has_references rights lawful passes = some_left rights.receive rights.port rights.send lawful.0 passes

deallocated_kept : (old : Ipc) (space name : ℕ) (names : Names) (entry : Entry) → LawfulAtRest old → Acyclic old
    → finmap.get old.spaces space ≡ Some names → finmap.get names name ≡ Some entry
    → (is_set entry || (has_receive entry && send_references entry == 0)) ≡ false
    → Kept (actions.deallocated old space names name entry).state
    (actions.deallocated old space names name entry).effects
deallocated_kept old space name names (Port rights) lawful acyclic there at passes =
    let own = ((lawful.spaces space names there).2.named name (Port rights) at).2 in
    send_left_kept old space name names rights (rights.send - 1) 7 lawful acyclic there at
    (has_references rights own passes) (omega (arith, own.1))
deallocated_kept old space name names (SendOnce port target) lawful acyclic there at passes =
    subst (λ (s : Ipc). Kept s (actions.effects_of_name name (SendOnce port target)))
    (sym (changed_space old space names (λ (n : Names). finmap.remove n name) there))
    (gone_kept old space name names (SendOnce port target) lawful acyclic there at tt)
deallocated_kept old space name names Set lawful acyclic there at passes = absurd (cc passes)
deallocated_kept old space name names (Dead references) lawful acyclic there at passes =
    let own = ((lawful.spaces space names there).2.named name (Dead references) at).2 in
    dead_left_kept old space name names references (references - 1) 7 lawful acyclic there at (omega (arith, own.1))

deallocate_kept : (old : Ipc) (space name : ℕ) (names : Names) (answer : PlainReply) (new : Ipc) (effects : List Effect)
    → LawfulAtRest old → Acyclic old → finmap.get old.spaces space ≡ Some names
    → first_failing (tests_of old space names (call.Deallocate name)) ≡ None
    → Done old space names (call.Deallocate name) answer new effects → Kept new effects
unfolding Done tests_of
deallocate_kept old space name names answer new effects lawful acyclic there passes done =
    let barred : Bool =
    name_is (λ entry. is_set entry || (has_receive entry && send_references entry == 0)) names name in
    let second : first_failing ((barred, InvalidRight) ∷ []) ≡ None =
    (first_passes (is_no_name names name, InvalidName) ((barred, InvalidRight) ∷ []) passes).1 in
    let free : barred ≡ false = (first_passes (barred, InvalidRight) [] second).0 in
    elim (finmap.get names name) as (λ (o : Option Entry). finmap.get names name ≡ o
    → entry_is (λ entry. is_set entry || (has_receive entry && send_references entry == 0)) o ≡ false
    → ActsOn o (actions.deallocated old space names name) answer new effects → Kept new effects) [
      | None ↦ λ (_ : _) (_ : _) (acts : _). absurd acts
      | Some entry ↦ λ (at : _) (allowed : _) (acts : _).
          subst (λ (s : Ipc). Kept s effects) (sym acts.1)
          (subst (λ (l : List Effect). Kept (actions.deallocated old space names name entry).state l) (sym acts.2)
          (deallocated_kept old space name names entry lawful acyclic there at allowed))
    ] refl free done

-- mach_port_allocate and mach_port_allocate_name

given_as : (state new : Ipc) (effects : List Effect) → Kept state [] → new ≡ state → effects ≡ [] → Kept new effects
given_as state new effects kept same none =
    subst (λ (s : Ipc). Kept s effects) (sym same) (subst (λ (l : List Effect). Kept state l) (sym none) kept)

allocate_kept : (old : Ipc) (space which : ℕ) (names : Names) (answer : PlainReply) (new : Ipc) (effects : List Effect)
    → LawfulAtRest old → Acyclic old → finmap.get old.spaces space ≡ Some names
    → first_failing (tests_of old space names (call.Allocate which)) ≡ None
    → Done old space names (call.Allocate which) answer new effects → Kept new effects
unfolding Done tests_of
allocate_kept old space which names answer new effects lawful acyclic there passes done =
    let second : first_failing ((names_are_used_up names, NoSpace) ∷
    (is_right which right.Receive && ports_are_used_up old, ResourceShortage) ∷ []) ≡ None =
    (first_passes (not (is_allocatable which), InvalidValue)
    ((names_are_used_up names, NoSpace) ∷
    (is_right which right.Receive && ports_are_used_up old, ResourceShortage) ∷ []) passes).1 in
    let room =
    first_passes (names_are_used_up names, NoSpace)
    ((is_right which right.Receive && ports_are_used_up old, ResourceShortage) ∷ []) second in
    let ports = first_passes (is_right which right.Receive && ports_are_used_up old, ResourceShortage) [] room.1 in
    given_as (actions.allocated old space names which done.0) new effects
    (allocated_kept old space names which done.0 lawful acyclic there done.1 room.0 ports.0) done.3 done.4

allocate_name_kept : (old : Ipc) (space which name : ℕ) (names : Names) (answer : PlainReply) (new : Ipc)
    (effects : List Effect) → name < 2 ^ 32 → LawfulAtRest old → Acyclic old → finmap.get old.spaces space ≡ Some names
    → first_failing (tests_of old space names (call.AllocateName which name)) ≡ None
    → Done old space names (call.AllocateName which name) answer new effects → Kept new effects
unfolding Done tests_of
allocate_name_kept old space which name names answer new effects fits lawful acyclic there passes done =
    let last : Tests = (is_right which right.Receive && ports_are_used_up old, ResourceShortage) ∷ [] in
    let real =
    first_passes (is_null_or_dead name, InvalidValue)
    ((not (is_allocatable which), InvalidValue) ∷ (is_in_use names name, NameExists) ∷
    (names_are_used_up names, NoSpace) ∷ last) passes in
    let allowed =
    first_passes (not (is_allocatable which), InvalidValue)
    ((is_in_use names name, NameExists) ∷ (names_are_used_up names, NoSpace) ∷ last) real.1 in
    let free = first_passes (is_in_use names name, NameExists) ((names_are_used_up names, NoSpace) ∷ last) allowed.1 in
    let room = first_passes (names_are_used_up names, NoSpace) last free.1 in
    let ports = first_passes (is_right which right.Receive && ports_are_used_up old, ResourceShortage) [] room.1 in
    given_as (actions.allocated old space names which name) new effects
    (allocated_kept old space names which name lawful acyclic there
    (chosen_unused names name real.0 free.0 fits) room.0 ports.0) done.1 done.2

-- mach_port_destroy

destroy_kept : (old : Ipc) (space name : ℕ) (names : Names) (answer : PlainReply) (new : Ipc) (effects : List Effect)
    → LawfulAtRest old → Acyclic old → finmap.get old.spaces space ≡ Some names
    → Done old space names (call.Destroy name) answer new effects → Kept new effects
unfolding Done
destroy_kept old space name names answer new effects lawful acyclic there done =
    elim (finmap.get names name) as (λ (o : Option Entry). finmap.get names name ≡ o
    → ActsOn o (actions.destroyed old space names name) answer new effects → Kept new effects) [
      | None ↦ λ (_ : _) (acts : _). absurd acts
      | Some entry ↦ λ (at : _) (acts : _).
          subst (λ (s : Ipc). Kept s effects) (sym acts.1)
          (subst (λ (l : List Effect). Kept (actions.destroyed old space names name entry).state l) (sym acts.2)
          (destroyed_kept old space name names entry lawful acyclic there at))
    ] refl done

-- mach_port_mod_refs

abbrev references_in : ℕ → Option Entry → ℕ
references_in which None = 0
references_in which (Some entry) = references_of which entry

modify_kept : (old : Ipc) (space name which delta : ℕ) (names : Names) (answer : PlainReply) (new : Ipc)
    (effects : List Effect) → LawfulAtRest old → Acyclic old → finmap.get old.spaces space ≡ Some names
    → first_failing (tests_of old space names (call.ModRefs name which delta)) ≡ None
    → Done old space names (call.ModRefs name which delta) answer new effects → Kept new effects
unfolding Done tests_of
modify_kept old space name which delta names answer new effects lawful acyclic there passes done =
    elim (finmap.get names name) as (λ (o : Option Entry). finmap.get names name ≡ o
    → first_failing ((is_no_right which, InvalidValue) ∷ (is_no_name names name, InvalidName) ∷
    (references_in which o == 0, InvalidRight) ∷ tests_of_delta which (references_in which o) delta) ≡ None
    → ActsOn o (λ entry. actions.modified old space names name entry which delta) answer new effects
    → Kept new effects) [
      | None ↦ λ (_ : _) (_ : _) (acts : _). absurd acts
      | Some entry ↦ λ (at : _) (tests : _) (acts : _).
          let last : Tests = tests_of_delta which (references_of which entry) delta in
          let known =
          first_passes (is_no_right which, InvalidValue)
          ((is_no_name names name, InvalidName) ∷ (references_of which entry == 0, InvalidRight) ∷ last) tests
          in
          let named =
          first_passes (is_no_name names name, InvalidName)
          ((references_of which entry == 0, InvalidRight) ∷ last) known.1 in
          let some = first_passes (references_of which entry == 0, InvalidRight) last named.1 in
          subst (λ (s : Ipc). Kept s effects) (sym acts.1)
          (subst (λ (l : List Effect). Kept (actions.modified old space names name entry which delta).state l)
          (sym acts.2)
          (modified_kept old space name names entry which delta lawful acyclic there at known.0 some.0 some.1))
    ] refl passes done

-- every call that passes its tests
done_kept : (old : Ipc) (space : ℕ) (names : Names) (c : PlainCall) (answer : PlainReply) (new : Ipc) (effects : List Effect)
    → FitsCall c → LawfulAtRest old → Acyclic old → finmap.get old.spaces space ≡ Some names
    → first_failing (tests_of old space names c) ≡ None → Done old space names c answer new effects → Kept new effects
unfolding Done
done_kept old space names (call.Rename from to) answer new effects fits lawful acyclic there passes done =
    rename_kept old space from to names answer new effects fits.1 lawful acyclic there passes done
done_kept old space names (call.AllocateName which name) answer new effects fits lawful acyclic there passes done =
    allocate_name_kept old space which name names answer new effects fits.1 lawful acyclic there passes done
done_kept old space names (call.Allocate which) answer new effects fits lawful acyclic there passes done =
    allocate_kept old space which names answer new effects lawful acyclic there passes done
done_kept old space names (call.Destroy name) answer new effects fits lawful acyclic there passes done =
    destroy_kept old space name names answer new effects lawful acyclic there done
done_kept old space names (call.Deallocate name) answer new effects fits lawful acyclic there passes done =
    deallocate_kept old space name names answer new effects lawful acyclic there passes done
done_kept old space names (call.ModRefs name which delta) answer new effects fits lawful acyclic there passes done =
    modify_kept old space name which delta names answer new effects lawful acyclic there passes done
done_kept old space names (call.RequestNotification name variant sync notify disposition) answer new effects fits lawful
    acyclic there passes done =
    request_kept old space name variant sync notify disposition names answer new effects lawful acyclic there passes
    done
done_kept old space names (call.InsertRight name right_name disposition) answer new effects fits lawful acyclic there
    passes done =
    insert_kept old space name right_name disposition names answer new effects fits.0 lawful acyclic there passes done
done_kept old space names (call.ExtractRight name disposition) answer new effects fits lawful acyclic there passes
    done = extract_kept old space name disposition names answer new effects lawful acyclic there passes done
done_kept old space names (call.SpaceCreate name disposition) answer new effects fits lawful acyclic there passes done =
    create_kept old space name disposition names answer new effects lawful acyclic there passes done
done_kept old space names call.SpaceDestroy answer new effects fits lawful acyclic there passes done =
    space_destroy_kept old space names answer new effects lawful acyclic there passes done
done_kept old space names (call.Send message) answer new effects fits lawful acyclic there passes done = absurd done
done_kept old space names (call.Receive limit large name waited) answer new effects fits lawful acyclic there passes
    done = absurd done
done_kept old space names (call.Attach other) answer new effects fits lawful acyclic there passes done =
    simple_kept old space names (call.Attach other) answer new effects refl fits lawful acyclic there passes done
done_kept old space names call.Names answer new effects fits lawful acyclic there passes done =
    simple_kept old space names call.Names answer new effects refl fits lawful acyclic there passes done
done_kept old space names (call.Type name) answer new effects fits lawful acyclic there passes done =
    simple_kept old space names (call.Type name) answer new effects refl fits lawful acyclic there passes done
done_kept old space names (call.GetRefs name which) answer new effects fits lawful acyclic there passes done =
    simple_kept old space names (call.GetRefs name which) answer new effects refl fits lawful acyclic there passes done
done_kept old space names (call.SetQlimit name limit) answer new effects fits lawful acyclic there passes done =
    simple_kept old space names (call.SetQlimit name limit) answer new effects refl fits lawful acyclic there passes
    done
done_kept old space names (call.SetMscount name count) answer new effects fits lawful acyclic there passes done =
    simple_kept old space names (call.SetMscount name count) answer new effects refl fits lawful acyclic there passes
    done
done_kept old space names (call.SetSeqno name seqno) answer new effects fits lawful acyclic there passes done =
    simple_kept old space names (call.SetSeqno name seqno) answer new effects refl fits lawful acyclic there passes done
done_kept old space names (call.GetReceiveStatus name) answer new effects fits lawful acyclic there passes done =
    simple_kept old space names (call.GetReceiveStatus name) answer new effects refl fits lawful acyclic there passes
    done
done_kept old space names (call.GetSetStatus name) answer new effects fits lawful acyclic there passes done =
    simple_kept old space names (call.GetSetStatus name) answer new effects refl fits lawful acyclic there passes done
done_kept old space names (call.MoveMember member after) answer new effects fits lawful acyclic there passes done =
    simple_kept old space names (call.MoveMember member after) answer new effects refl fits lawful acyclic there passes
    done

called_kept : (refusal : Option KernReturn) (old : Ipc) (space : ℕ) (names : Names) (c : PlainCall) (answer : PlainReply)
    (new : Ipc) (effects : List Effect) → refusal ≡ first_failing (tests_of old space names c) → FitsCall c
    → LawfulAtRest old → Acyclic old → finmap.get old.spaces space ≡ Some names
    → Called refusal old space names c answer new effects → Kept new effects
called_kept None old space names c answer new effects is fits lawful acyclic there called =
    done_kept old space names c answer new effects fits lawful acyclic there (sym is) called
called_kept (Some code) old space names c answer new effects is fits lawful acyclic there called =
    kept_as old new effects lawful acyclic called.1 called.2

acts_kept : (old : Ipc) (space : ℕ) (names : Names) (c : PlainCall) (answer : PlainReply) (new : Ipc) (effects : List Effect)
    → FitsCall c → LawfulAtRest old → Acyclic old → finmap.get old.spaces space ≡ Some names
    → ActsIn old space names c answer new effects → Kept new effects
acts_kept old space names (call.Send message) answer new effects fits lawful acyclic there acts =
    send_kept old space names message answer new effects fits lawful acyclic there acts
acts_kept old space names (call.Receive limit large name waited) answer new effects fits lawful acyclic there acts =
    receive_kept old space names (record { limit = limit; large = large; name = name; waited = waited }) answer new
    effects lawful acyclic there acts
acts_kept old space names c answer new effects fits lawful acyclic there acts =
    called_kept (first_failing (tests_of old space names c)) old space names c answer new effects refl fits lawful
    acyclic there acts

from_kept : (old : Ipc) (space : ℕ) (o : Option Names) (c : PlainCall) (answer : PlainReply) (new : Ipc)
    (effects : List Effect) → finmap.get old.spaces space ≡ o → FitsCall c → LawfulAtRest old → Acyclic old
    → ActsFrom old space o c answer new effects → Kept new effects
from_kept old space None c answer new effects there fits lawful acyclic acts =
    kept_as old new effects lawful acyclic acts.1 acts.2
from_kept old space (Some names) c answer new effects there fits lawful acyclic acts =
    acts_kept old space names c answer new effects fits lawful acyclic there acts

-- Every plain step keeps a state lawful and acyclic, if the call's arguments are in range.
abbrev pub PlainStepsKeepLawful : Type 0
PlainStepsKeepLawful =
    (old : Ipc) (space : ℕ) (c : PlainCall) (answer : PlainReply) (new : Ipc) → FitsCall c → Lawful old → Acyclic old
    → PlainStep old space c answer new → Lawful new × Acyclic new

pub plain_steps_keep_lawful : PlainStepsKeepLawful
unfolding PlainStep
plain_steps_keep_lawful old space c answer new fits lawful acyclic step =
    let acted =
    from_kept old space (finmap.get old.spaces space) c answer step.0 step.1 refl fits
    (at_rest old lawful) acyclic step.2 in
    settled_is_lawful step.0 step.1 new acted.lawful acted.acyclic step.3
