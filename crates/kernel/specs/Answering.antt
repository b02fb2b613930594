-- Replies to all calls, in terms of the steps of plain calls.
use Rattle.std.specs.Prelude.{◌≡◌, ℕ, Bool, false, Option, None, Some, MatchOption, if◌then◌else◌, refl}
use Rattle.std.proofs.Common.{◌∙◌, ap, sym, subst, inl, inr}
use Rattle.std.specs.FinMap as finmap
use Rattle.codes.specs.declared.call_number.TheConstants.{NUMBERED}
use Rattle.codes.specs.declared.kern_return.KernReturn.{KernReturn}
use Rattle.codes.specs.declared.kern_return.KernReturn.TheVariants.{InvalidTask, InvalidArgument}
use Rattle.ipc_model.specs.calls.PlainStep.{PlainStep}
use Rattle.ipc_model.specs.calls.Step.{Step, StepsPlain, StepsNumbered, IsRefused, IsRepeated, asked_again, is_gone, removes_space, tests_of_numbered}
use Rattle.ipc_model.specs.calls.Tests.{RefusedOrDone, first_failing}
use Rattle.ipc_model.specs.declared.call.Call.{Call}
use Rattle.ipc_model.specs.declared.call.Call.TheVariants.{Plain, Numbered, Unnumberable}
use Rattle.ipc_model.specs.declared.call.NumberedCall.{NumberedCall}
use Rattle.ipc_model.specs.declared.plain_call.PlainCall.{PlainCall}
use Rattle.ipc_model.specs.declared.plain_reply.PlainReply.{PlainReply}
use Rattle.ipc_model.specs.declared.plain_reply.PlainReply.TheVariants.{Refused}
use Rattle.ipc_model.specs.declared.reply.NumberedReply.{NumberedReply}
use Rattle.ipc_model.specs.declared.reply.Reply.{Reply}
use Rattle.ipc_model.specs.declared.reply.Reply.TheVariants as reply
use Rattle.ipc_model.specs.state.Ipc.{Ipc}
use Rattle.ipc_model.specs.state.State.{State}
use Rattle.ipc_laws.specs.NumberedSteps.{outcome_of}
use Rattle.kernel.specs.Choosing.{shown_by}
use Rattle.kernel.specs.Keeping.{keeping_numbered, keeping_plain, kept_by, kept_numbered, kept_plain, state_of}
use Rattle.kernel.specs.Stepping.{PrefersStep}
use Rattle.kernel.specs.declared.answering.Keeping.{Keeping}
use Rattle.kernel.specs.declared.choices.Shown.{Shown}

-- the reply to the call itself, also if the call was numbered
abbrev pub inner : Reply → PlainReply
inner (reply.Plain answer) = answer
inner (reply.Numbered answer) = answer.reply
inner (reply.Repeated answer) = answer.reply

-- If a reply that shows these choices is possible, it is this reply.
pub record PrefersReply (old : State) (space : ℕ) (c : Call) (shown : Shown) (answer : Reply) : Type 0 where
  pub takes : (other : Reply) (new : State) → shown ≡ shown_by (inner other) → Step old space c other new
      → answer ≡ other

-- Plain calls.

pub step_plain : (old : State) (space : ℕ) (c : Call) (plain : PlainCall) (answer : PlainReply) (ipc : Ipc)
    (keeping : Keeping) → c ≡ Plain plain → keeping ≡ keeping_plain plain answer
    → PlainStep old.ipc space plain answer ipc
    → Step old space c (reply.Plain answer) (state_of ipc (kept_by keeping old.kept space))
unfolding Step
step_plain old space c plain answer ipc keeping is keeps step =
    subst (λ (made : Call). Step old space made (reply.Plain answer) (state_of ipc (kept_by keeping old.kept space)))
    (sym is)
    (step, ap (λ (k : Keeping). kept_by k old.kept space) keeps ∙ kept_plain old.kept space plain answer)

pub prefers_plain : (old : State) (space : ℕ) (c : Call) (plain : PlainCall) (shown : Shown) (answer : PlainReply)
    → c ≡ Plain plain → PrefersStep old.ipc space plain shown answer
    → PrefersReply old space c shown (reply.Plain answer)
unfolding Step
prefers_plain old space c plain shown answer is prefers =
    subst (λ (made : Call). PrefersReply old space made shown (reply.Plain answer)) (sym is)
    (record { takes = by })
  where
    by : (other : Reply) (new : State) → shown ≡ shown_by (inner other) → StepsPlain old space plain other new
        → reply.Plain answer ≡ other
    by (reply.Plain given) new shows steps =
        ap (λ (r : PlainReply). reply.Plain r) (prefers.takes given new.ipc shows steps.0)
    by (reply.Numbered given) new shows steps = absurd steps
    by (reply.Repeated given) new shows steps = absurd steps

-- Number 22 with a call that can't be numbered.

pub step_unnumberable : (old : State) (space : ℕ) (c : Call) (answer : Reply) → c ≡ Unnumberable
    → answer ≡ reply.Plain (Refused NUMBERED (if is_gone old space then InvalidTask else InvalidArgument))
    → Step old space c answer old
unfolding Step
step_unnumberable old space c answer is refused =
    subst (λ (made : Call). Step old space made answer old) (sym is) (refused, refl)

pub prefers_unnumberable : (old : State) (space : ℕ) (c : Call) (shown : Shown) (answer : Reply) → c ≡ Unnumberable
    → answer ≡ reply.Plain (Refused NUMBERED (if is_gone old space then InvalidTask else InvalidArgument))
    → PrefersReply old space c shown answer
unfolding Step
prefers_unnumberable old space c shown answer is refused =
    subst (λ (made : Call). PrefersReply old space made shown answer) (sym is)
    (record { takes = λ other new _ step. refused ∙ sym step.0 })

-- Numbered calls.

module _ (old : State) (space : ℕ) (numbered : NumberedCall) where
  -- the code of the first test that fails, if one fails
  abbrev pub refusal : Option KernReturn
  refusal = first_failing (tests_of_numbered old space numbered)

  -- the kept reply, if the request repeats the last one
  abbrev pub again : Option NumberedReply
  again = asked_again (finmap.get old.kept space) numbered.request

  -- a test fails
  pub step_refused : (code : KernReturn) (answer : Reply) → refusal ≡ Some code
      → answer ≡ reply.Plain (Refused NUMBERED code) → Step old space (Numbered numbered) answer old
  unfolding Step
  step_refused code answer fails is =
      subst (λ (r : Option KernReturn). RefusedOrDone r (λ code. IsRefused old code answer old)
      (MatchOption again (StepsNumbered old space numbered answer old) (λ kept. IsRepeated old kept answer old)))
      (sym fails) (is, refl)

  pub prefers_refused : (shown : Shown) (code : KernReturn) (answer : Reply) → refusal ≡ Some code
      → answer ≡ reply.Plain (Refused NUMBERED code) → PrefersReply old space (Numbered numbered) shown answer
  unfolding Step
  prefers_refused shown code answer fails is =
      record {
        takes = λ other new _ step. elim (outcome_of old space numbered other new step) as (λ _. answer ≡ other) [
          | inl refused ↦
              let same : code ≡ refused.code = cc (fails, refused.fails) in
              is ∙ ap (λ (k : KernReturn). reply.Plain (Refused NUMBERED k)) same ∙ sym refused.refused.0
          | inr (inl made) ↦ absurd (cc (fails, made.passes))
          | inr (inr repeated) ↦ absurd (cc (fails, repeated.passes))
        ];
      }

  -- the request repeats the last one
  pub step_again : (kept : NumberedReply) (answer : Reply) → refusal ≡ None → again ≡ Some kept
      → answer ≡ reply.Repeated kept → Step old space (Numbered numbered) answer old
  unfolding Step
  step_again kept answer passes asked is =
      subst (λ (r : Option KernReturn). RefusedOrDone r (λ code. IsRefused old code answer old)
      (MatchOption again (StepsNumbered old space numbered answer old) (λ kept. IsRepeated old kept answer old)))
      (sym passes)
      (subst (λ (o : Option NumberedReply). MatchOption o (StepsNumbered old space numbered answer old)
      (λ kept. IsRepeated old kept answer old)) (sym asked) (is, refl))

  pub prefers_again : (shown : Shown) (kept : NumberedReply) (answer : Reply) → refusal ≡ None → again ≡ Some kept
      → answer ≡ reply.Repeated kept → PrefersReply old space (Numbered numbered) shown answer
  unfolding Step
  prefers_again shown kept answer passes asked is =
      record {
        takes = λ other new _ step. elim (outcome_of old space numbered other new step) as (λ _. answer ≡ other) [
          | inl refused ↦ absurd (cc (passes, refused.fails))
          | inr (inl made) ↦ absurd (cc (asked, made.first))
          | inr (inr repeated) ↦
              let same : kept ≡ repeated.kept = cc (asked, repeated.again) in
              is ∙ ap (λ (k : NumberedReply). reply.Repeated k) same ∙ sym repeated.answer_is
        ];
      }

  -- the call is made
  pub step_made : (given : NumberedReply) (ipc : Ipc) (keeping : Keeping) → refusal ≡ None → again ≡ None
      → given.request ≡ numbered.request → keeping ≡ keeping_numbered numbered.call given
      → PlainStep old.ipc space numbered.call given.reply ipc
      → Step old space (Numbered numbered) (reply.Numbered given) (state_of ipc (kept_by keeping old.kept space))
  unfolding Step
  step_made given ipc keeping passes first request keeps step =
      let new : State = state_of ipc (kept_by keeping old.kept space) in
      let answer : Reply = reply.Numbered given in
      let kept_is = ap (λ (k : Keeping). kept_by k old.kept space) keeps
      ∙ kept_numbered old.kept space numbered.call given in
      subst (λ (r : Option KernReturn). RefusedOrDone r (λ code. IsRefused old code answer new)
      (MatchOption again (StepsNumbered old space numbered answer new) (λ kept. IsRepeated old kept answer new)))
      (sym passes)
      (subst (λ (o : Option NumberedReply). MatchOption o (StepsNumbered old space numbered answer new)
      (λ kept. IsRepeated old kept answer new)) (sym first) (request, step, kept_is))

  pub prefers_made : (shown : Shown) (given : NumberedReply) → refusal ≡ None → again ≡ None
      → given.request ≡ numbered.request → PrefersStep old.ipc space numbered.call shown given.reply
      → PrefersReply old space (Numbered numbered) shown (reply.Numbered given)
  unfolding Step
  prefers_made shown given passes first request prefers =
      record {
        takes = λ other new shows step. elim (outcome_of old space numbered other new step)
            as (λ _. reply.Numbered given ≡ other) [
              | inl refused ↦ absurd (cc (passes, refused.fails))
              | inr (inr repeated) ↦ absurd (cc (first, repeated.again))
              | inr (inl made) ↦
                  let shows_given : shown ≡ shown_by made.given.reply =
                  shows ∙ ap (λ (r : Reply). shown_by (inner r)) made.answer_is in
                  let same : given ≡ made.given = λ i. record {
                    request = (request ∙ sym made.request) i;
                    reply = prefers.takes made.given.reply new.ipc shows_given made.step i;
                  } in
                  ap (λ (k : NumberedReply). reply.Numbered k) same ∙ sym made.answer_is
            ];
      }

-- Plain calls that change neither the IPC state nor the kept replies.

pub step_same : (old : State) (space : ℕ) (c : PlainCall) (given : PlainReply) (answer : Reply)
    → removes_space c given ≡ false → answer ≡ reply.Plain given → PlainStep old.ipc space c given old.ipc
    → Step old space (Plain c) answer old
unfolding Step
step_same old space c given answer stays is step =
    subst (λ (a : Reply). Step old space (Plain c) a old) (sym is)
    (step, sym (ap (λ (removes : Bool). if removes then finmap.remove old.kept space else old.kept) stays))
