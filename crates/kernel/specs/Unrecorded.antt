-- A step that isn't recorded changes nothing: its call was refused, only reads, or left a message in the queue that was
-- too large.
use Rattle.std.specs.Prelude.{◌≡◌, ℕ, Bool, true, false, ◌&&◌, ◌||◌, List, [], Option, None, Some, Result, Ok, Err, MatchOption, if◌then◌else◌}
use Rattle.std.proofs.Common.{refl, ap, sym, subst, ◌∙◌, inl, inr}
use Rattle.std.specs.FinMap as finmap
use Rattle.codes.specs.declared.kern_return.KernReturn.{KernReturn}
use Rattle.codes.specs.declared.kern_return.KernReturn.TheVariants.{Success, RcvTooLarge, RcvHeaderErrorSpace}
use Rattle.codes.specs.declared.name.TheConstants.{MACH_PORT_NULL}
use Rattle.ipc_model.specs.declared.plain_call.PlainCall.{PlainCall}
use Rattle.ipc_model.specs.declared.plain_call.PlainCall.TheVariants as call
use Rattle.ipc_model.specs.declared.plain_reply.PlainReply.{PlainReply}
use Rattle.ipc_model.specs.declared.message.Message.{Message}
use Rattle.ipc_model.specs.declared.port.PortState.{PortState}
use Rattle.ipc_model.specs.effects.Effects.{Effect, Settles, settled}
use Rattle.ipc_model.specs.messages.Receiving.{ReceiveArguments, TakesMessage, TooLarge, message_size, receive_refusal, without_message}
use Rattle.ipc_model.specs.messages.Sending.{Ready, ready_to_send}
use Rattle.ipc_model.specs.state.Ipc.{Ipc, Names}
use Rattle.ipc_model.specs.calls.PlainStep.{PlainStep, ActsFrom, ActsIn, IsRefusedWith, destroyed_message, has_record, succeeded}
use Rattle.ipc_model.specs.calls.Step as task
use Rattle.ipc_model.specs.calls.Step.{Step, StepsPlain, kept_after, kept_with, removes_space}
use Rattle.ipc_model.specs.declared.call.Call.{Call}
use Rattle.ipc_model.specs.declared.call.Call.TheVariants.{Plain, Numbered, Unnumberable}
use Rattle.ipc_model.specs.declared.call.NumberedCall.{NumberedCall}
use Rattle.ipc_model.specs.declared.reply.NumberedReply.{NumberedReply}
use Rattle.ipc_model.specs.declared.reply.Reply.{Reply}
use Rattle.ipc_model.specs.declared.reply.Reply.TheVariants as reply
use Rattle.ipc_model.specs.state.State.{KeptReplies, State}
use Rattle.ipc_laws.specs.NumberedSteps.{IsMade, passes_of}
use Rattle.ipc_laws.specs.NumberedSteps.{outcome_of as outcome_of_numbered}
use Rattle.ipc_laws.specs.PortCallLaws.{unrecorded_act}
use Rattle.ipc_laws.specs.ReceiveLaws.{Outcomes, outcome_of, was_large, was_lacking, was_received}
use Rattle.ipc_laws.specs.RecordedReceives.{call_of}
use Rattle.ipc_laws.specs.StepLaws.{one_end}
use Rattle.kernel.specs.Choosing.{SentAs}

-- A send or a receive that isn't recorded: its reply has a code and no message, and nothing changes.
pub record IsWithout (old : Ipc) (answer : PlainReply) (new : Ipc) (effects : List Effect) : Type 0 where
  pub code : KernReturn
  pub size : ℕ
  pub member : ℕ
  pub answer_is : answer ≡ without_message code size member
  pub same : new ≡ old
  pub none : effects ≡ []

refused_without : (code : KernReturn) (old : Ipc) (answer : PlainReply) (new : Ipc) (effects : List Effect)
    → IsRefusedWith (without_message code 0 MACH_PORT_NULL) old answer new effects → IsWithout old answer new effects
refused_without code old answer new effects acts =
    record { code = code; size = 0; member = MACH_PORT_NULL; answer_is = acts.0; same = acts.1; none = acts.2 }

-- a call with this reply is recorded, which contradicts the last premise
recorded_as : {X : Type 0} (c : PlainCall) (given answer : PlainReply) → has_record c given ≡ true → answer ≡ given
    → has_record c answer ≡ false → X
recorded_as c given answer recorded is none = absurd (cc (none, ap (has_record c) is ∙ recorded))

-- Sends.

sent_without : (ready : Result Ready KernReturn) (message : List ℕ) (old : Ipc) (answer : PlainReply) (new : Ipc)
    (effects : List Effect) → has_record (call.Send message) answer ≡ false
    → SentAs ready old answer new effects → IsWithout old answer new effects
sent_without (Ok ready) message old answer new effects none acts =
    recorded_as (call.Send message) (without_message Success 0 MACH_PORT_NULL) answer refl acts.0 none
sent_without (Err code) message old answer new effects none acts = refused_without code old answer new effects acts

-- Receives.

large_without : (old : Ipc) (member serial : ℕ) (message : Message) (limit : ℕ) (large : Bool) (name : ℕ)
    (waited : Bool) (answer : PlainReply) (new : Ipc) (effects : List Effect)
    → has_record (call.Receive limit large name waited) answer ≡ false
    → TooLarge old member serial message large answer new effects → IsWithout old answer new effects
large_without old member serial message limit true name waited answer new effects none acts =
    record {
      code = RcvTooLarge;
      size = message_size message;
      member = member;
      answer_is = acts.0;
      same = acts.1;
      none = acts.2;
    }
large_without old member serial message limit false name waited answer new effects none acts =
    recorded_as (call.Receive limit false name waited)
    (without_message RcvTooLarge (message_size message) member) answer refl acts.0 none

taken_without : (old : Ipc) (space : ℕ) (names : Names) (arguments : ReceiveArguments) (member serial : ℕ)
    (port : PortState) (message : Message) (answer : PlainReply) (new : Ipc) (effects : List Effect)
    → has_record (call_of arguments) answer ≡ false
    → Outcomes old space names arguments member serial port message answer new effects
    → IsWithout old answer new effects
taken_without old space names arguments member serial port message answer new effects none outcome = elim outcome [
  | was_large acts ↦ large_without old member serial message arguments.limit arguments.large arguments.name
      arguments.waited answer new effects none acts
  | was_lacking is same unset ↦ record {
    code = RcvHeaderErrorSpace;
    size = 0;
    member = MACH_PORT_NULL;
    answer_is = is;
    same = same;
    none = unset;
  }
  | was_received acts ↦ recorded_as (call_of arguments) _ answer refl acts.3 none
]

received_without : (refusal : Option KernReturn) (old : Ipc) (space : ℕ) (names : Names)
    (arguments : ReceiveArguments)
    (answer : PlainReply) (new : Ipc) (effects : List Effect) → has_record (call_of arguments) answer ≡ false
    → MatchOption refusal (TakesMessage old space names arguments answer new effects)
    (λ code. IsRefusedWith (without_message code 0 MACH_PORT_NULL) old answer new effects)
    → IsWithout old answer new effects
received_without (Some code) old space names arguments answer new effects none acts =
    refused_without code old answer new effects acts
received_without None old space names arguments answer new effects none taken =
    taken_without old space names arguments taken.member taken.serial taken.port taken.message answer new effects none
    (outcome_of old space names arguments taken.member taken.serial taken.port taken.message answer new effects
    taken.takes)

pub send_without : (old : Ipc) (space : ℕ) (names : Names) (message : List ℕ) (answer : PlainReply) (new : Ipc)
    (effects : List Effect) → has_record (call.Send message) answer ≡ false
    → ActsIn old space names (call.Send message) answer new effects → IsWithout old answer new effects
send_without old space names message answer new effects none acts =
    sent_without (ready_to_send old space message) message old answer new effects none acts

pub receive_without : (old : Ipc) (space : ℕ) (names : Names) (limit : ℕ) (large : Bool) (name : ℕ) (waited : Bool)
    (answer : PlainReply) (new : Ipc) (effects : List Effect)
    → has_record (call.Receive limit large name waited) answer ≡ false
    → ActsIn old space names (call.Receive limit large name waited) answer new effects
    → IsWithout old answer new effects
receive_without old space names limit large name waited answer new effects none acts =
    let arguments : ReceiveArguments = record { limit = limit; large = large; name = name; waited = waited } in
    received_without (receive_refusal old names arguments) old space names arguments answer new effects none acts

-- All calls.

acts_unrecorded : (c : PlainCall) (old : Ipc) (space : ℕ) (names : Names) (answer : PlainReply) (new : Ipc)
    (effects : List Effect) → has_record c answer ≡ false → ActsIn old space names c answer new effects → (new ≡ old)
    × (effects ≡ [])
acts_unrecorded (call.Send message) old space names answer new effects none acts =
    let without = send_without old space names message answer new effects none acts in (without.same, without.none)
acts_unrecorded (call.Receive limit large name waited) old space names answer new effects none acts =
    let without =
    receive_without old space names limit large name waited answer new effects none acts in
    (without.same, without.none)
acts_unrecorded c old space names answer new effects none acts =
    unrecorded_act old space names c answer new effects refl none acts

from_unrecorded : (o : Option Names) (old : Ipc) (space : ℕ) (c : PlainCall) (answer : PlainReply) (new : Ipc)
    (effects : List Effect) → has_record c answer ≡ false
    → ActsFrom old space o c answer new effects → (new ≡ old) × (effects ≡ [])
from_unrecorded None old space c answer new effects none acts = (acts.1, acts.2)
from_unrecorded (Some names) old space c answer new effects none acts =
    acts_unrecorded c old space names answer new effects none acts

-- a plain step that isn't recorded changes nothing
pub unrecorded_plain : (old : Ipc) (space : ℕ) (c : PlainCall) (answer : PlainReply) (new : Ipc)
    → PlainStep old space c answer new → has_record c answer ≡ false → new ≡ old
unfolding PlainStep
unrecorded_plain old space c answer new step none =
    let same = from_unrecorded (finmap.get old.spaces space) old space c answer step.0 step.1 none step.2 in
    let ends : Settles step.0 [] new = subst (λ (effects : List Effect). Settles step.0 effects new) same.1 step.3 in
    one_end step.0 [] new step.0 ends settled ∙ same.0

-- The kept replies.

removes_recorded : (c : PlainCall) (answer : PlainReply) → has_record c answer ≡ false → removes_space c answer ≡ false
removes_recorded call.SpaceDestroy answer none = by (succeeded answer) refl
  where
    by : (done : Bool) → succeeded answer ≡ done → done ≡ false
    by true is = absurd (cc (none, ap (λ (b : Bool). b || destroyed_message call.SpaceDestroy answer) is))
    by false is = refl
removes_recorded c answer none = refl

kept_unchanged : (kept : KeptReplies) (space : ℕ) (c : PlainCall) (answer : PlainReply) → has_record c answer ≡ false
    → kept_after kept space c answer ≡ kept
kept_unchanged kept space c answer none =
    ap (λ (removes : Bool). if removes then finmap.remove kept space else kept) (removes_recorded c answer none)

kept_unrecorded : (kept : KeptReplies) (space : ℕ) (c : PlainCall) (given : NumberedReply)
    → has_record c given.reply ≡ false → kept_with kept space c given ≡ kept
kept_unrecorded kept space c given none =
    ap (λ (recorded : Bool). if recorded then finmap.insert kept space given else kept) none

same_parts : (one other : State) → one.ipc ≡ other.ipc → one.kept ≡ other.kept → one ≡ other
same_parts one other ipc kept = λ i. record { ipc = ipc i; kept = kept i }

steps_plain : (old : State) (space : ℕ) (c : PlainCall) (answer : Reply) (new : State)
    → StepsPlain old space c answer new → task.has_record (Plain c) answer ≡ false → new ≡ old
steps_plain old space c (reply.Numbered answer) new steps none = absurd steps
steps_plain old space c (reply.Repeated answer) new steps none = absurd steps
steps_plain old space c (reply.Plain answer) new steps none =
    same_parts new old (unrecorded_plain old.ipc space c answer new.ipc steps.0 none)
    (steps.1 ∙ kept_unchanged old.kept space c answer none)

made_unrecorded : (old : State) (space : ℕ) (numbered : NumberedCall) (answer : Reply) (new : State)
    → IsMade old space numbered answer new → task.has_record (Numbered numbered) answer ≡ false → new ≡ old
made_unrecorded old space numbered answer new is none =
    let may = (passes_of old space numbered is.passes).may in
    let without : has_record numbered.call is.given.reply ≡ false =
    ap (λ (b : Bool). b && has_record numbered.call is.given.reply) (sym may)
    ∙ ap (task.has_record (Numbered numbered)) (sym is.answer_is) ∙ none in
    same_parts new old (unrecorded_plain old.ipc space numbered.call is.given.reply new.ipc is.step without)
    (is.kept ∙ kept_unrecorded old.kept space numbered.call is.given without)

abbrev pub UnrecordedStepsChangeNothing : Type 0
UnrecordedStepsChangeNothing =
    (old : State) (space : ℕ) (c : Call) (answer : Reply) (new : State) → Step old space c answer new
    → task.has_record c answer ≡ false → new ≡ old

pub unrecorded_step : UnrecordedStepsChangeNothing
unfolding Step
unrecorded_step old space (Plain c) answer new step none = steps_plain old space c answer new step none
unrecorded_step old space Unnumberable answer new step none = step.1
unrecorded_step old space (Numbered numbered) answer new step none =
    elim (outcome_of_numbered old space numbered answer new step) as (λ _. new ≡ old) [
      | inl refused ↦ refused.refused.1
      | inr (inl made) ↦ made_unrecorded old space numbered answer new made none
      | inr (inr again) ↦ again.same
    ]
