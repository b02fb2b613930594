-- Facts that the tests of a request establish, and the number of names after it.
use Rattle.std.proofs.Common.{◌≡◌, ℕ, ◌+◌, ◌<◌, Bool, true, false, cond, ◌==◌, ◌&&◌, List, [], ◌∷◌, ◌++◌, Option, None, Some, is_some, refl, sym, ◌∙◌, ap}
use Rattle.std.proofs.lemmas.Bool.{leb-false}
use Rattle.std.specs.Prelude.{is_none, not, option_and_then, if◌then◌else◌}
use Rattle.std.specs.Cmp.{nat_cmp_total}
use Rattle.std.specs.Ordering.{nat_cmp}
use Rattle.std.specs.FinMap as finmap
use Rattle.std.specs.FinMap.{FinMap, len-insert}
use Rattle.codes.specs.declared.kern_return.KernReturn.{KernReturn}
use Rattle.codes.specs.declared.kern_return.KernReturn.TheVariants.{NoSpace, InvalidCapability, InvalidValue, InvalidName}
use Rattle.codes.specs.declared.limits.TheConstants.{MAX_NAMES}
use Rattle.ipc_model.specs.declared.entry.Entry.{Entry}
use Rattle.ipc_model.specs.declared.entry.Entry.TheVariants.{Port, SendOnce, Set, Dead}
use Rattle.ipc_model.specs.calls.Actions.{dead_name_request_set, lacks_senders, port_request_set, request_set, request_set_under}
use Rattle.ipc_laws.specs.CallsKeep.{first_passes}
use Rattle.ipc_model.specs.rights.CopyIn.{Taken, copy_in}
use Rattle.ipc_model.specs.rights.Dispositions.{Disposition}
use Rattle.ipc_laws.specs.ListLaws.{some_same}
use Rattle.ipc_model.specs.messages.Sending.{live_port}
use Rattle.ipc_model.specs.declared.plain_call.PlainCall.TheVariants as call
use Rattle.ipc_model.specs.declared.message.CarriedRight.{CarriedRight}
use Rattle.ipc_model.specs.declared.message.PortInMessage.TheVariants.{Live}
use Rattle.codes.specs.declared.name.TheConstants.{MACH_PORT_NULL}
use Rattle.rights.specs.Taking.{Takes}
use Rattle.ipc_model.specs.effects.Effects.{Effect}
use Rattle.ipc_laws.specs.Others.{with_port_spaces}
use Rattle.ipc_model.specs.calls.PortCalls.{names_are_used_up, is_no_name, is_variant, names_in, notify_disposition, target_under, tests_of, tests_of_copy_in, tests_of_request, tests_of_taken, tests_of_variant}
use Rattle.ipc_model.specs.state.Ipc.{Ipc, Names, entry_at, received_port, with_entry, with_names}
use Rattle.ipc_model.specs.calls.Tests.{Tests, first_failing}
use Rattle.rights.specs.Passed.{names_added}
use Rattle.rights.specs.Passed.{or_empty}

-- tests that follow other tests

pub fails_first : (xs ys : Tests) (code : KernReturn) → first_failing xs ≡ Some code
    → first_failing (xs ++ ys) ≡ Some code
fails_first [] ys code fails = absurd (cc fails)
fails_first (test ∷ xs) ys code fails =
    elim test.0 as (λ (b : Bool). (if b then Some test.1 else first_failing xs) ≡ Some code
    → (if b then Some test.1 else first_failing (xs ++ ys)) ≡ Some code) [
      | true ↦ λ (here : _). here
      | false ↦ λ (later : _). fails_first xs ys code later
    ] fails

pub passes_first : (xs ys : Tests) → first_failing xs ≡ None → first_failing (xs ++ ys) ≡ first_failing ys
passes_first [] ys passes = refl
passes_first (test ∷ xs) ys passes =
    elim test.0 as (λ (b : Bool). (if b then Some test.1 else first_failing xs) ≡ None
    → (if b then Some test.1 else first_failing (xs ++ ys)) ≡ first_failing ys) [
      | true ↦ λ (here : _). absurd (cc here)
      | false ↦ λ (later : _). passes_first xs ys later
    ] passes

none_fails : (xs ys : Tests) → first_failing (xs ++ ys) ≡ None → first_failing xs ≡ None
none_fails [] ys passes = refl
none_fails (test ∷ xs) ys passes =
    elim test.0 as (λ (b : Bool). (if b then Some test.1 else first_failing (xs ++ ys)) ≡ None
    → (if b then Some test.1 else first_failing xs) ≡ None) [
      | true ↦ λ (here : _). absurd (cc here)
      | false ↦ λ (later : _). none_fails xs ys later
    ] passes

module _ (state : Ipc) (space name variant sync : ℕ) (cancels : Bool)
    (passes : first_failing (tests_of_request state space name variant sync cancels) ≡ None) where
  named_tests : first_failing (tests_of_variant (names_in state space) name variant sync cancels
      ++ ((
        is_some (target_under state (names_in state space) variant name) && names_are_used_up (names_in state space),
        NoSpace,
      ) ∷ [])) ≡ None
  named_tests =
      (first_passes (is_no_name (names_in state space) name, InvalidName)
      (tests_of_variant (names_in state space) name variant sync cancels
      ++ ((
        is_some (target_under state (names_in state space) variant name) && names_are_used_up
            (names_in state space),
        NoSpace,
      ) ∷ [])) passes).1

  variant_passes : first_failing (tests_of_variant (names_in state space) name variant sync cancels) ≡ None
  variant_passes =
      none_fails (tests_of_variant (names_in state space) name variant sync cancels)
      ((
        is_some (target_under state (names_in state space) variant name) && names_are_used_up
            (names_in state space),
        NoSpace,
      ) ∷ []) named_tests

  -- there is room for the former target
  pub room_left : is_some (target_under state (names_in state space) variant name) ≡ true
      → finmap.len (names_in state space) < MAX_NAMES
  room_left asked =
      let last : (is_some (target_under state (names_in state space) variant name) && names_are_used_up
      (names_in state space)) ≡ false =
      (first_passes (
        is_some (target_under state (names_in state space) variant name) && names_are_used_up
            (names_in state space),
        NoSpace,
      ) []
      (sym (passes_first (tests_of_variant (names_in state space) name variant sync cancels)
      ((
        is_some (target_under state (names_in state space) variant name) && names_are_used_up
            (names_in state space),
        NoSpace,
      ) ∷ []) variant_passes) ∙ named_tests)).0 in
      let not_full : names_are_used_up (names_in state space) ≡ false =
      ap (λ (b : Bool). b && names_are_used_up (names_in state space)) (sym asked) ∙ last in
      leb-false MAX_NAMES (finmap.len (names_in state space)) not_full

-- an entry that can't have the request
pub variant_fails : (state : Ipc) (space name variant sync : ℕ) (cancels : Bool) (code : KernReturn)
    → is_no_name (names_in state space) name ≡ false
    → first_failing (tests_of_variant (names_in state space) name variant sync cancels) ≡ Some code
    → first_failing (tests_of_request state space name variant sync cancels) ≡ Some code
variant_fails state space name variant sync cancels code named fails =
    let last : Tests = (
      is_some (target_under state (names_in state space) variant name) && names_are_used_up (names_in state space),
      NoSpace,
    ) ∷ [] in
    let rest : Tests = tests_of_variant (names_in state space) name variant sync cancels ++ last in
    ap (λ (b : Bool). if b then Some InvalidName else first_failing rest) named
    ∙ fails_first (tests_of_variant (names_in state space) name variant sync cancels) last code fails

-- a request neither uses nor frees a name

abbrev names_of : Ipc → ℕ → ℕ
names_of state space = finmap.len (names_in state space)

aside : (state after : Ipc) (space : ℕ) → after.spaces ≡ state.spaces → names_of after space ≡ names_of state space
aside state after space same =
    ap (λ (spaces : FinMap nat_cmp Names). finmap.len (or_empty (finmap.get spaces space))) same

entry_put : (state : Ipc) (space name : ℕ) (before after : Entry) → entry_at state space name ≡ Some before
    → names_of (with_entry state space name after) space ≡ names_of state space
entry_put state space name before after at =
    elim (finmap.get state.spaces space)
    as (λ (o : Option Names). finmap.get state.spaces space ≡ o
    → option_and_then (λ names. finmap.get names name) o ≡ Some before
    → finmap.len (names_in (elim o as (λ _. Ipc)
    [ None ↦ state | Some names ↦ with_names state space (finmap.insert names name after) ]) space)
    ≡ finmap.len (or_empty o)) [
      | None ↦ λ (_ : _) (none : _). absurd (cc none)
      | Some names ↦ λ (_ : _) (here : _).
          ap (λ (n : Names). finmap.len n) (names_added state space (finmap.insert names name after))
          ∙ len-insert nat_cmp_total names name after
          ∙ ap (λ (o : Option Entry). cond (is_some o) (finmap.len names) (finmap.len names + 1)) here
    ] refl at

abbrev Pair : Type 0
Pair = Ipc × List Effect

if_pair : (P : Ipc → Type 0) (b : Bool) (one other : Pair) → P one.0 → P other.0 → P (if b then one else other).0
if_pair P true one other first second = first
if_pair P false one other first second = second

port_request : (state : Ipc) (variant sync serial : ℕ) (target : Option ℕ)
    → (port_request_set state variant sync serial target).0.spaces ≡ state.spaces
port_request state variant sync serial None = with_port_spaces state serial _
port_request state variant sync serial (Some target) =
    let P : Ipc → Type 0 = λ after. after.spaces ≡ state.spaces in
    if_pair P (variant == 69) _ _ (with_port_spaces state serial _)
    (if_pair P (lacks_senders state sync serial) _ _ (with_port_spaces state serial _)
    (with_port_spaces state serial _))

dead_request : (state : Ipc) (space name : ℕ) (target : Option ℕ) (entry : Entry)
    → entry_at state space name ≡ Some entry
    → names_of (dead_name_request_set state space name target entry).0 space ≡ names_of state space
dead_request state space name target (Port rights) at = entry_put state space name (Port rights) _ at
dead_request state space name target (SendOnce port former) at = entry_put state space name (SendOnce port former) _ at
dead_request state space name target Set at = refl
dead_request state space name None (Dead references) at = refl
dead_request state space name (Some target) (Dead references) at = entry_put state space name (Dead references) _ at

received_request : (state : Ipc) (space variant sync : ℕ) (target : Option ℕ) (o : Option ℕ)
    → names_of (elim o as (λ _. Pair)
    [ None ↦ (state, []) | Some serial ↦ port_request_set state variant sync serial target ]).0 space
    ≡ names_of state space
received_request state space variant sync target None = refl
received_request state space variant sync target (Some serial) =
    aside state (port_request_set state variant sync serial target).0 space
    (port_request state variant sync serial target)

pub as_many_names : (state : Ipc) (space name variant sync : ℕ) (target : Option ℕ)
    → finmap.len (names_in (request_set_under state space name variant sync target).0 space)
    ≡ finmap.len (names_in state space)
as_many_names state space name variant sync target =
    elim (entry_at state space name)
    as (λ (o : Option Entry). entry_at state space name ≡ o
    → names_of (elim o as (λ _. Pair)
    [ None ↦ (state, []) | Some entry ↦ request_set state space name variant sync target entry ]).0 space
    ≡ names_of state space) [
      | None ↦ λ (_ : _). refl
      | Some entry ↦ λ (at : _). if_pair
          (λ (after : Ipc). names_of after space ≡ names_of state space) (variant == 72) _ _
          (dead_request state space name target entry at)
          (received_request state space variant sync target (received_port entry))
    ] refl

-- the tests after copy in are those of the state that copy in leaves

taken_tests : (o : Option Taken) (old new : Ipc) (waiting after : List Effect) (right : CarriedRight) (serial : ℕ)
    (code : KernReturn) (later : Ipc → Tests) → Takes o old waiting (Some right) new after → right.port ≡ Live serial
    → first_failing (tests_of_taken code o (λ taken serial. later taken.state)) ≡ first_failing (later new)
taken_tests None old new waiting after right serial code later takes live = absurd (cc takes.0)
taken_tests (Some taken) old new waiting after right serial code later takes live =
    let is : live_port taken.right.port ≡ Some serial =
    ap (λ (r : CarriedRight). live_port r.port) (sym (some_same right taken.right takes.0)) ∙ ap live_port live in
    ap (λ (o : Option ℕ). first_failing
    (elim o as (λ _. Tests) [ None ↦ (true, code) ∷ [] | Some serial ↦ later taken.state ])) is ∙ ap
    (λ (s : Ipc). first_failing (later s)) (sym takes.1)

pub copied_tests : (old : Ipc) (space name variant sync notify_name disposition : ℕ) (by : Disposition)
    (right : CarriedRight) (serial : ℕ) (waiting after : List Effect) (new : Ipc)
    → is_variant variant ≡ true → (notify_name == MACH_PORT_NULL) ≡ false → notify_disposition disposition ≡ Some by
    → right.port ≡ Live serial → Takes (copy_in old space notify_name by) old waiting (Some right) new after
    → first_failing (tests_of old space (names_in old space)
    (call.RequestNotification name variant sync notify_name disposition))
    ≡ first_failing (tests_of_request new space name variant sync false)
unfolding tests_of
copied_tests old space name variant sync notify_name disposition by right serial waiting after new known named allowed
    live takes =
    let later : Ipc → Tests = λ state. tests_of_request state space name variant sync false in
    let copied : Option Disposition → Tests =
    λ o. tests_of_copy_in old space notify_name o InvalidCapability (λ taken serial. later taken.state) in
    let cancelled : Tests = tests_of_request old space name variant sync true in
    ap (λ (b : Bool). if not b then Some InvalidValue
    else first_failing ((
      not (notify_name == MACH_PORT_NULL) && is_none (notify_disposition disposition),
      InvalidValue,
    ) ∷ (if notify_name == MACH_PORT_NULL then cancelled
    else copied (notify_disposition disposition)))) known
    ∙ ap (λ (b : Bool). first_failing
    ((not b && is_none (notify_disposition disposition), InvalidValue) ∷
    (if b then cancelled else copied (notify_disposition disposition)))) named
    ∙ ap (λ (o : Option Disposition). first_failing ((is_none o, InvalidValue) ∷ copied o)) allowed
    ∙ taken_tests (copy_in old space notify_name by) old new waiting after right serial InvalidCapability later takes
    live
