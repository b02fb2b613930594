-- What a step leaves of the spaces that its caller isn't in.
use Rattle.std.specs.Prelude.{◌≡◌, ◌≢◌, ◌⊎◌, ℕ, true, false, List, Option, None, Some, is_some, Result, Ok, Err, IfOk, refl}
use Rattle.std.proofs.Common.{sym, ◌∙◌, ap, subst, inl, inr}
use Rattle.std.specs.FinMap as finmap
use Rattle.codes.specs.declared.kern_return.KernReturn.{KernReturn}
use Rattle.ipc_model.specs.declared.plain_call.PlainCall.{PlainCall}
use Rattle.ipc_model.specs.declared.plain_call.PlainCall.TheVariants as call
use Rattle.ipc_model.specs.declared.plain_reply.PlainReply.{PlainReply}
use Rattle.ipc_model.specs.declared.plain_reply.PlainReply.TheVariants as reply
use Rattle.ipc_model.specs.calls.Actions.{Done, Created, taken_by}
use Rattle.ipc_model.specs.rights.CopyIn.{Taken}
use Rattle.ipc_model.specs.rights.CopyOut.{names_after}
use Rattle.ipc_laws.specs.MapLaws.{get-there}
use Rattle.ipc_model.specs.effects.Effects.{Effect}
use Rattle.ipc_laws.specs.Others.{SpaceFades, number_decided, same_at, space_fades_on, settling_passes}
use Rattle.ipc_model.specs.calls.PortCalls.{tests_of}
use Rattle.ipc_model.specs.messages.Sending.{Ready, ready_to_send}
use Rattle.ipc_model.specs.state.Ipc.{Ipc, Names, lives}
use Rattle.ipc_model.specs.calls.PlainStep.{PlainStep, ActsIn, ActsFrom}
use Rattle.ipc_laws.specs.StepLaws.{Called, SentAs}
use Rattle.ipc_model.specs.calls.Step.{removes_space}
use Rattle.ipc_model.specs.calls.Tests.{first_failing}
use Rattle.ipc_laws.specs.Untouched.{Untouched, Confined, TakenConfined, nothing, untouched_of, changes_spaces, taken_there, done_there, done_confined, destroy_outside, destroy_done, create_own, is_there}
use Rattle.ipc_laws.specs.UntouchedMessages.{ready_there, sent_there, receive_there, ReadyConfined}

called_there : (refusal : Option KernReturn) (old : Ipc) (space : ℕ) (names : Names) (c : PlainCall) (answer : PlainReply)
    (new : Ipc) (effects : List Effect) → Called refusal old space names c answer new effects
    → Untouched old new space
called_there None old space names c answer new effects called = done_there old space names c answer new effects called
called_there (Some code) old space names c answer new effects called =
    subst (λ (s : Ipc). Untouched old s space) (sym called.1) (untouched_of old old space (nothing old space))

send_there : (result : Result Ready KernReturn) (old : Ipc) (space : ℕ) (answer : PlainReply) (new : Ipc)
    (effects : List Effect) → IfOk result (ReadyConfined old space) → SentAs result old answer new effects
    → Confined old new space
send_there (Ok ready) old space answer new effects first sends =
    subst (λ (s : Ipc). Confined old s space) (sym sends.1) (sent_there old space ready first)
send_there (Err code) old space answer new effects first sends =
    subst (λ (s : Ipc). Confined old s space) (sym sends.1) (nothing old space)

acts_there : (old : Ipc) (space : ℕ) (names : Names) (c : PlainCall) (answer : PlainReply) (new : Ipc) (effects : List Effect)
    → ActsIn old space names c answer new effects → Untouched old new space
acts_there old space names (call.Send message) answer new effects acts =
    untouched_of old new space (send_there (ready_to_send old space message) old space answer new effects
    (ready_there old space message) acts)
acts_there old space names (call.Receive limit large name waited) answer new effects acts =
    untouched_of old new space (receive_there old space names
    (record { limit = limit; large = large; name = name; waited = waited }) answer new effects acts)
acts_there old space names c answer new effects acts =
    called_there (first_failing (tests_of old space names c)) old space names c answer new effects acts

acts_from_there : (old : Ipc) (space : ℕ) (names : Option Names) (c : PlainCall) (answer : PlainReply) (new : Ipc)
    (effects : List Effect) → ActsFrom old space names c answer new effects → Untouched old new space
acts_from_there old space None c answer new effects acts =
    subst (λ (s : Ipc). Untouched old s space) (sym acts.1) (untouched_of old old space (nothing old space))
acts_from_there old space (Some names) c answer new effects acts = acts_there old space names c answer new effects acts

stays : (old new : Ipc) (space other : ℕ) → Untouched old new space → other ≢ space → SpaceFades old new other
stays old new space other untouched apart before there =
    (before, untouched.others other apart before there, λ (name : ℕ). same_at (lives new) (finmap.get before name))

-- A step changes no name of another space, except that names of ports that die become dead names, and requests whose
-- target's port dies go. (Making a space changes no space that was there.)
abbrev pub PlainOthersFade : Type 0
PlainOthersFade =
    (old : Ipc) (space : ℕ) (c : PlainCall) (answer : PlainReply) (new : Ipc) → PlainStep old space c answer new → (other : ℕ)
    → other ≢ space → SpaceFades old new other

pub plain_others_fade : PlainOthersFade
unfolding PlainStep
plain_others_fade old space c answer new step other apart =
    let acted : Untouched old step.0 space =
    acts_from_there old space (finmap.get old.spaces space) c answer step.0 step.1 step.2 in
    let passed = settling_passes step.0 step.1 new step.3 in
    space_fades_on old step.0 new other passed.fewer (stays old step.0 space other acted apart) (passed.fades other)

-- A new space comes only from call number 20, and the reply names it.

-- no call except the one that makes a space adds a space
called_confined : (refusal : Option KernReturn) (old : Ipc) (space : ℕ) (names : Names) (c : PlainCall) (answer : PlainReply)
    (new : Ipc) (effects : List Effect) → changes_spaces c ≡ false → Called refusal old space names c answer new effects
    → Confined old new space
called_confined None old space names c answer new effects other called =
    done_confined old space names c answer new effects other called
called_confined (Some code) old space names c answer new effects other called =
    subst (λ (s : Ipc). Confined old s space) (sym called.1) (nothing old space)

-- the new space is the one that the reply names
abbrev pub IsMade : PlainReply → ℕ → Type 0
IsMade answer made = (name : ℕ) × (answer ≡ reply.SpaceCreated made name)

abbrev Comes : Ipc → Ipc → PlainReply → ℕ → Type 0
Comes old new answer other = (finmap.get new.spaces other ≡ None) ⊎ IsMade answer other

created_comes : (old : Ipc) (space : ℕ) (taken : Option Taken) (answer : PlainReply) (new : Ipc) (effects : List Effect)
    → TakenConfined old space taken → Created taken answer new effects
    → (other : ℕ) → other ≢ space → finmap.get old.spaces other ≡ None → Comes old new answer other
created_comes old space None answer new effects stays created other apart none = absurd created
created_comes old space (Some taken) answer new effects stays created other apart none =
    elim (number_decided other created.0) as (λ _. Comes old new answer other) [
      | inl away ↦ inl (ap (λ (s : Ipc). finmap.get s.spaces other) created.5
          ∙ get-there taken.state.spaces created.0
          (names_after finmap.empty taken.right.kind taken.right.port created.1) other away
          ∙ stays.absent other apart none)
      | inr same ↦ inr (created.1, created.3 ∙ ap (λ (k : ℕ). reply.SpaceCreated k created.1) (sym same))
    ]

create_comes : (refusal : Option KernReturn) (old : Ipc) (space name disposition : ℕ) (names : Names) (answer : PlainReply)
    (new : Ipc) (effects : List Effect)
    → Called refusal old space names (call.SpaceCreate name disposition) answer new effects
    → (other : ℕ) → other ≢ space → finmap.get old.spaces other ≡ None → Comes old new answer other
unfolding Done
create_comes None old space name disposition names answer new effects called other apart none =
    created_comes old space (taken_by old space name disposition) answer new effects
    (taken_there old space name disposition) called other apart none
create_comes (Some code) old space name disposition names answer new effects called other apart none =
    inl (ap (λ (s : Ipc). finmap.get s.spaces other) called.1 ∙ none)

destroy_comes : (refusal : Option KernReturn) (old : Ipc) (space : ℕ) (names : Names) (answer : PlainReply) (new : Ipc)
    (effects : List Effect) → Called refusal old space names call.SpaceDestroy answer new effects
    → (other : ℕ) → other ≢ space → finmap.get old.spaces other ≡ None → Comes old new answer other
destroy_comes None old space names answer new effects called other apart none =
    inl ((destroy_outside old space names answer new effects called).absent other apart none)
destroy_comes (Some code) old space names answer new effects called other apart none =
    inl (ap (λ (s : Ipc). finmap.get s.spaces other) called.1 ∙ none)

acts_come : (old : Ipc) (space : ℕ) (names : Names) (c : PlainCall) (answer : PlainReply) (new : Ipc) (effects : List Effect)
    → ActsIn old space names c answer new effects → (other : ℕ) → other ≢ space → finmap.get old.spaces other ≡ None
    → Comes old new answer other
acts_come old space names (call.Send message) answer new effects acts other apart none =
    inl ((send_there (ready_to_send old space message) old space answer new effects
    (ready_there old space message) acts).absent other apart none)
acts_come old space names (call.Receive limit large name waited) answer new effects acts other apart none =
    inl ((receive_there old space names
    (record { limit = limit; large = large; name = name; waited = waited }) answer new effects acts).absent other
    apart none)
acts_come old space names (call.SpaceCreate name disposition) answer new effects acts other apart none =
    create_comes (first_failing (tests_of old space names (call.SpaceCreate name disposition))) old space name
    disposition names answer new effects acts other apart none
acts_come old space names call.SpaceDestroy answer new effects acts other apart none =
    destroy_comes (first_failing (tests_of old space names call.SpaceDestroy)) old space names answer new effects acts
    other apart none
acts_come old space names c answer new effects acts other apart none =
    inl ((called_confined (first_failing (tests_of old space names c)) old space names c answer new effects refl
    acts).absent other apart none)

comes_from : (old : Ipc) (space : ℕ) (o : Option Names) (c : PlainCall) (answer : PlainReply) (new : Ipc)
    (effects : List Effect) → finmap.get old.spaces space ≡ o → ActsFrom old space o c answer new effects → (other : ℕ)
    → finmap.get old.spaces other ≡ None → Comes old new answer other
comes_from old space None c answer new effects there acts other none =
    inl (ap (λ (s : Ipc). finmap.get s.spaces other) acts.1 ∙ none)
comes_from old space (Some names) c answer new effects there acts other none =
    acts_come old space names c answer new effects acts other
    (λ (same : _). cc (sym none ∙ ap (finmap.get old.spaces) same ∙ there)) none

abbrev pub PlainSpacesAreMade : Type 0
PlainSpacesAreMade =
    (old : Ipc) (space : ℕ) (c : PlainCall) (answer : PlainReply) (new : Ipc) → PlainStep old space c answer new
    → (other : ℕ) (names : Names) → finmap.get old.spaces other ≡ None → finmap.get new.spaces other ≡ Some names
    → IsMade answer other

pub plain_spaces_are_made : PlainSpacesAreMade
unfolding PlainStep
plain_spaces_are_made old space c answer new step other names none there =
    elim (comes_from old space (finmap.get old.spaces space) c answer step.0 step.1 refl step.2 other none)
    as (λ _. IsMade answer other) [
      | inl absent ↦ absurd (cc (sym ((settling_passes step.0 step.1 new step.3).absent other absent) ∙ there))
      | inr made ↦ made
    ]

-- A space is there until its own task removes it.

called_own : (refusal : Option KernReturn) (old : Ipc) (space : ℕ) (names : Names) (c : PlainCall)
    (answer : PlainReply) (new : Ipc) (effects : List Effect) → removes_space c answer ≡ false
    → Called refusal old space names c answer new effects → is_there old space ≡ true → is_there new space ≡ true
called_own (Some code) old space names c answer new effects stays called there =
    subst (λ (s : Ipc). is_there s space ≡ true) (sym called.1) there
called_own None old space names (call.SpaceCreate name disposition) answer new effects stays done there =
    create_own old space name disposition names answer new effects done there
called_own None old space names call.SpaceDestroy answer new effects stays done there =
    absurd (cc (stays, destroy_done old space names answer new effects done))
called_own None old space names c answer new effects stays done there =
    (done_confined old space names c answer new effects refl done).own there

acts_own : (old : Ipc) (space : ℕ) (names : Names) (c : PlainCall) (answer : PlainReply) (new : Ipc)
    (effects : List Effect) → removes_space c answer ≡ false → ActsIn old space names c answer new effects
    → is_there old space ≡ true → is_there new space ≡ true
acts_own old space names (call.Send message) answer new effects stays acts there =
    (send_there (ready_to_send old space message) old space answer new effects (ready_there old space message)
    acts).own there
acts_own old space names (call.Receive limit large name waited) answer new effects stays acts there =
    (receive_there old space names
    (record { limit = limit; large = large; name = name; waited = waited }) answer new effects acts).own there
acts_own old space names c answer new effects stays acts there =
    called_own (first_failing (tests_of old space names c)) old space names c answer new effects stays acts there

from_own : (old : Ipc) (space : ℕ) (o : Option Names) (c : PlainCall) (answer : PlainReply) (new : Ipc)
    (effects : List Effect) → removes_space c answer ≡ false → ActsFrom old space o c answer new effects
    → is_there old space ≡ true → is_there new space ≡ true
from_own old space None c answer new effects stays acts there =
    subst (λ (s : Ipc). is_there s space ≡ true) (sym acts.1) there
from_own old space (Some names) c answer new effects stays acts there =
    acts_own old space names c answer new effects stays acts there

-- what fades is there
there_faded : (old new : Ipc) (space : ℕ) → SpaceFades old new space → is_there old space ≡ true
    → is_there new space ≡ true
there_faded old new space fades there = by (finmap.get old.spaces space) refl there
  where
    by : (o : Option Names) → finmap.get old.spaces space ≡ o → is_some o ≡ true → is_there new space ≡ true
    by None is there = absurd (cc there)
    by (Some names) is there = ap is_some (fades names is).1

pub own_stays : (old : Ipc) (space : ℕ) (c : PlainCall) (answer : PlainReply) (new : Ipc)
    → PlainStep old space c answer new → removes_space c answer ≡ false → is_there old space ≡ true
    → is_there new space ≡ true
unfolding PlainStep
own_stays old space c answer new step stays there =
    let acted =
    from_own old space (finmap.get old.spaces space) c answer step.0 step.1 stays step.2 there in
    there_faded step.0 new space ((settling_passes step.0 step.1 new step.3).fades space) acted

pub other_stays : (old : Ipc) (space : ℕ) (c : PlainCall) (answer : PlainReply) (new : Ipc)
    → PlainStep old space c answer new → (other : ℕ) → other ≢ space → is_there old other ≡ true
    → is_there new other ≡ true
other_stays old space c answer new step other apart there =
    there_faded old new other (plain_others_fade old space c answer new step other apart) there
