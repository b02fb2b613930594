-- Steps of the machine, with those of numbered calls: which outcomes there are, that a reply determines the new state,
-- and that states stay lawful.
use Rattle.std.specs.Prelude.{◌≡◌, ◌≢◌, ◌⊎◌, ℕ, ◌<◌, Bool, true, false, ◌||◌, ◌==◌, not, nat_lt, Option, None, Some, is_some, MatchOption, if◌then◌else◌, refl}
use Rattle.std.proofs.lemmas.Bool.{eqb-false, eq-eqb}
use Rattle.std.proofs.Common.{◌∙◌, ap, sym, subst, inl, inr, arith}
use Rattle.std.specs.FinMap as finmap
use Rattle.codes.specs.declared.kern_return.KernReturn.{KernReturn}
use Rattle.codes.specs.declared.kern_return.KernReturn.TheVariants.{InvalidTask, InvalidArgument, InvalidValue}
use Rattle.ipc_model.specs.calls.PlainStep.{PlainStep, has_record, may_be_numbered, number_of_call}
use Rattle.ipc_model.specs.calls.Step.{Step, StepsPlain, StepsNumbered, MakesNumbered, IsRefused, IsRepeated, IsKeptAlready, Replays, asked_again, is_other_call, kept_with, removes_space, tests_of_numbered}
use Rattle.ipc_model.specs.calls.Tests.{RefusedOrDone, first_failing}
use Rattle.ipc_model.specs.declared.call.Call.{Call}
use Rattle.ipc_model.specs.declared.call.Call.TheVariants.{Plain, Numbered, Unnumberable}
use Rattle.ipc_model.specs.declared.call.NumberedCall.{NumberedCall}
use Rattle.ipc_model.specs.declared.plain_call.PlainCall.{PlainCall}
use Rattle.ipc_model.specs.declared.plain_call.PlainCall.TheVariants as call
use Rattle.ipc_model.specs.declared.plain_reply.PlainReply.{PlainReply}
use Rattle.ipc_model.specs.declared.record.Record.{Record}
use Rattle.ipc_model.specs.declared.reply.NumberedReply.{NumberedReply}
use Rattle.ipc_model.specs.declared.reply.Reply.{Reply}
use Rattle.ipc_model.specs.declared.reply.Reply.TheVariants as reply
use Rattle.ipc_model.specs.encodings.Encodings.{FitsCall, FitsNumbered, FitsReply}
use Rattle.ipc_model.specs.encodings.PlainCalls as plain_calls
use Rattle.ipc_model.specs.state.Circular.{Acyclic}
use Rattle.ipc_model.specs.state.LawfulState.{LawfulState, IsKeptReply}
use Rattle.ipc_model.specs.state.State.{State, KeptReplies, last_request}
use Rattle.ipc_laws.specs.MapLaws.{get-here, get-there, get-gone, get-left}
use Rattle.ipc_laws.specs.Others.{number_decided}
use Rattle.ipc_laws.specs.OtherSpaces.{own_stays, other_stays}
use Rattle.ipc_laws.specs.PlainRecorded.{plain_whole}
use Rattle.ipc_laws.specs.StepLaws.{one_new_ipc}
use Rattle.ipc_laws.specs.StepsKeep.{plain_steps_keep_lawful}

-- A numbered call that was made.
pub record IsMade (old : State) (space : ℕ) (numbered : NumberedCall) (answer : Reply) (new : State) : Type 0 where
  pub passes : first_failing (tests_of_numbered old space numbered) ≡ None
  pub first : asked_again (finmap.get old.kept space) numbered.request ≡ None
  pub given : NumberedReply
  pub answer_is : answer ≡ reply.Numbered given
  pub request : given.request ≡ numbered.request
  pub step : PlainStep old.ipc space numbered.call given.reply new.ipc
  pub kept : new.kept ≡ kept_with old.kept space numbered.call given

-- one that was asked for again
pub record IsAgain (old : State) (space : ℕ) (numbered : NumberedCall) (answer : Reply) (new : State) : Type 0 where
  pub passes : first_failing (tests_of_numbered old space numbered) ≡ None
  pub kept : NumberedReply
  pub again : asked_again (finmap.get old.kept space) numbered.request ≡ Some kept
  pub answer_is : answer ≡ reply.Repeated kept
  pub same : new ≡ old

-- or one that was refused
pub record WasRefused (old : State) (space : ℕ) (numbered : NumberedCall) (answer : Reply) (new : State) : Type 0 where
  pub code : KernReturn
  pub fails : first_failing (tests_of_numbered old space numbered) ≡ Some code
  pub refused : IsRefused old code answer new

abbrev pub Outcome : State → ℕ → NumberedCall → Reply → State → Type 0
Outcome old space numbered answer new =
    WasRefused old space numbered answer new
    ⊎ (IsMade old space numbered answer new ⊎ IsAgain old space numbered answer new)

made : (old : State) (space : ℕ) (numbered : NumberedCall) (answer : Reply) (new : State)
    → first_failing (tests_of_numbered old space numbered) ≡ None
    → asked_again (finmap.get old.kept space) numbered.request ≡ None → StepsNumbered old space numbered answer new
    → IsMade old space numbered answer new
made old space numbered (reply.Plain answer) new passes first steps = absurd steps
made old space numbered (reply.Repeated answer) new passes first steps = absurd steps
made old space numbered (reply.Numbered answer) new passes first steps = record {
  passes = passes;
  first = first;
  given = answer;
  answer_is = refl;
  request = steps.0;
  step = steps.1;
  kept = steps.2;
}

pub outcome_of : (old : State) (space : ℕ) (numbered : NumberedCall) (answer : Reply) (new : State)
    → MakesNumbered old space numbered answer new → Outcome old space numbered answer new
outcome_of old space numbered answer new makes =
    by_refusal (first_failing (tests_of_numbered old space numbered)) refl makes
  where
    by_again : (again : Option NumberedReply) → asked_again (finmap.get old.kept space) numbered.request ≡ again
        → first_failing (tests_of_numbered old space numbered) ≡ None
        → MatchOption again (StepsNumbered old space numbered answer new) (λ kept. IsRepeated old kept answer new)
        → Outcome old space numbered answer new
    by_again None first passes steps = inr (inl (made old space numbered answer new passes first steps))
    by_again (Some kept) again passes repeated =
        inr (inr (record {
          passes = passes;
          kept = kept;
          again = again;
          answer_is = repeated.0;
          same = repeated.1;
        }))

    by_refusal : (refusal : Option KernReturn) → first_failing (tests_of_numbered old space numbered) ≡ refusal
        → RefusedOrDone refusal (λ code. IsRefused old code answer new)
        (MatchOption (asked_again (finmap.get old.kept space) numbered.request)
        (StepsNumbered old space numbered answer new) (λ kept. IsRepeated old kept answer new))
        → Outcome old space numbered answer new
    by_refusal (Some code) fails refused = inl (record { code = code; fails = fails; refused = refused })
    by_refusal None passes done =
        by_again (asked_again (finmap.get old.kept space) numbered.request) refl passes done

-- what the tests say that a call passes
pub record Passes (old : State) (space : ℕ) (numbered : NumberedCall) : Type 0 where
  pub there : is_some (finmap.get old.ipc.spaces space) ≡ true
  pub may : may_be_numbered numbered.call ≡ true
  pub request : 0 < numbered.request
  pub not_below : nat_lt numbered.request (last_request (finmap.get old.kept space)) ≡ false
  pub same_call : is_other_call (asked_again (finmap.get old.kept space) numbered.request) (number_of_call numbered.call) ≡ false

pub passes_of : (old : State) (space : ℕ) (numbered : NumberedCall)
    → first_failing (tests_of_numbered old space numbered) ≡ None → Passes old space numbered
passes_of old space numbered passes =
    by (is_some (finmap.get old.ipc.spaces space)) (may_be_numbered numbered.call) (numbered.request == 0)
    (nat_lt numbered.request (last_request (finmap.get old.kept space)))
    (is_other_call (asked_again (finmap.get old.kept space) numbered.request) (number_of_call numbered.call)) refl refl refl refl refl
    passes
  where
    by : (there may zero below other : Bool) → is_some (finmap.get old.ipc.spaces space) ≡ there
        → may_be_numbered numbered.call ≡ may → (numbered.request == 0) ≡ zero
        → nat_lt numbered.request (last_request (finmap.get old.kept space)) ≡ below
        → is_other_call (asked_again (finmap.get old.kept space) numbered.request) (number_of_call numbered.call) ≡ other
        → (if not there then Some InvalidTask else if not may then Some InvalidArgument
        else if zero || below then Some InvalidValue else if other then Some InvalidArgument else None) ≡ None
        → Passes old space numbered
    by true true false false false there may zero below other passed = record {
      there = there;
      may = may;
      request = omega (arith, eqb-false numbered.request 0 zero);
      not_below = below;
      same_call = other;
    }
    by false may zero below other e1 e2 e3 e4 e5 passed = absurd (cc passed)
    by true false zero below other e1 e2 e3 e4 e5 passed = absurd (cc passed)
    by true true true below other e1 e2 e3 e4 e5 passed = absurd (cc passed)
    by true true false true other e1 e2 e3 e4 e5 passed = absurd (cc passed)
    by true true false false true e1 e2 e3 e4 e5 passed = absurd (cc passed)

-- the call that removes a space may not be numbered
removes_none : (c : PlainCall) (answer : PlainReply) → may_be_numbered c ≡ true → removes_space c answer ≡ false
removes_none call.SpaceDestroy answer may = absurd (cc may)
removes_none c answer may = refl

some_same : (one other : NumberedReply) → Some one ≡ Some other → one ≡ other
some_same one other same = cc same

numbered_same : (one other : NumberedReply) → reply.Numbered one ≡ reply.Numbered other → one ≡ other
numbered_same one other same = cc same

-- what is kept already is asked for again
pub asked_same : (o : Option NumberedReply) (request : ℕ) (kept : NumberedReply) → o ≡ Some kept → kept.request ≡ request
    → asked_again o request ≡ Some kept
asked_same o request kept is same =
    ap (λ (p : Option NumberedReply). asked_again p request) is
    ∙ ap (λ (b : Bool). if b then Some kept else None) (eq-eqb kept.request request same)

asked_kept : (old : State) (space : ℕ) (numbered : NumberedCall) (answer : NumberedReply)
    → finmap.get old.kept space ≡ Some answer → answer.request ≡ numbered.request
    → asked_again (finmap.get old.kept space) numbered.request ≡ Some answer
asked_kept old space numbered answer at same =
    asked_same (finmap.get old.kept space) numbered.request answer at same

-- a record that is kept already changes nothing
pub unchanged : (old : State) (space : ℕ) (c : Call) (answer : Reply) (new : State)
    → IsKeptAlready old space c answer new → new ≡ old
unchanged old space (Plain c) answer new is = absurd is
unchanged old space Unnumberable answer new is = absurd is
unchanged old space (Numbered numbered) (reply.Plain answer) new is = absurd is
unchanged old space (Numbered numbered) (reply.Repeated answer) new is = absurd is
unchanged old space (Numbered numbered) (reply.Numbered answer) new is = is.2

-- States stay lawful.

-- what a space keeps is in range
abbrev pub FitsKept : Reply → Type 0
FitsKept (reply.Plain answer) = Unit {0}
FitsKept (reply.Numbered answer) = FitsNumbered answer
FitsKept (reply.Repeated answer) = Unit {0}

pub kept_fits : (answer : Reply) → FitsReply answer → FitsKept answer
kept_fits (reply.Plain answer) fits = tt
kept_fits (reply.Numbered answer) fits = fits
kept_fits (reply.Repeated answer) fits = tt

abbrev KeptAt : State → ℕ → NumberedReply → Type 0
KeptAt state space answer = (is_some (finmap.get state.ipc.spaces space) ≡ true) × IsKeptReply answer

kept_by_other : (old new : State) (space : ℕ) (c : PlainCall) (r : PlainReply)
    → PlainStep old.ipc space c r new.ipc → LawfulState old → (other : ℕ) (answer : NumberedReply) → other ≢ space
    → finmap.get old.kept other ≡ Some answer → KeptAt new other answer
kept_by_other old new space c r step lawful other answer apart at =
    let kept = lawful.kept other answer at in
    (other_stays old.ipc space c r new.ipc step other apart kept.0, kept.1)

plain_kept : (old new : State) (space : ℕ) (c : PlainCall) (r : PlainReply) (removes : Bool)
    → removes_space c r ≡ removes → PlainStep old.ipc space c r new.ipc
    → new.kept ≡ (if removes then finmap.remove old.kept space else old.kept)
    → LawfulState old → (other : ℕ) (answer : NumberedReply) → finmap.get new.kept other ≡ Some answer
    → KeptAt new other answer
plain_kept old new space c r false stays step kept_is lawful other answer at =
    let before : finmap.get old.kept other ≡ Some answer =
    ap (λ (m : KeptReplies). finmap.get m other) (sym kept_is) ∙ at in
    elim (number_decided other space) as (λ _. KeptAt new other answer) [
      | inl apart ↦ kept_by_other old new space c r step lawful other answer apart before
      | inr same ↦
          let kept = lawful.kept other answer before in (
            ap (λ (s : ℕ). is_some (finmap.get new.ipc.spaces s)) same
                ∙ own_stays old.ipc space c r new.ipc step stays
                (ap (λ (s : ℕ). is_some (finmap.get old.ipc.spaces s)) (sym same) ∙ kept.0),
            kept.1,
          )
    ]
plain_kept old new space c r true removed step kept_is lawful other answer at =
    let after : finmap.get (finmap.remove old.kept space) other ≡ Some answer =
    ap (λ (m : KeptReplies). finmap.get m other) (sym kept_is) ∙ at in
    elim (number_decided other space) as (λ _. KeptAt new other answer) [
      | inl apart ↦ kept_by_other old new space c r step lawful other answer apart
          (sym (get-left old.kept space other apart) ∙ after)
      | inr same ↦ absurd (cc (ap (finmap.get (finmap.remove old.kept space)) (sym same) ∙ after, get-gone old.kept space))
    ]

numbered_kept : (old new : State) (space : ℕ) (c : PlainCall) (given : NumberedReply) (recorded : Bool)
    → has_record c given.reply ≡ recorded → may_be_numbered c ≡ true → PlainStep old.ipc space c given.reply new.ipc
    → new.kept ≡ (if recorded then finmap.insert old.kept space given else old.kept) → LawfulState old
    → is_some (finmap.get old.ipc.spaces space) ≡ true → (recorded ≡ true → IsKeptReply given)
    → (other : ℕ) (answer : NumberedReply) → finmap.get new.kept other ≡ Some answer → KeptAt new other answer
numbered_kept old new space c given recorded is may step kept_is lawful there may_keep other answer at =
    elim (number_decided other space) as (λ _. KeptAt new other answer) [
      | inl apart ↦ kept_by_other old new space c given.reply step lawful other answer apart (before recorded kept_is apart)
      | inr same ↦ (
        ap (λ (s : ℕ). is_some (finmap.get new.ipc.spaces s)) same
            ∙ own_stays old.ipc space c given.reply new.ipc step (removes_none c given.reply may) there,
        own recorded is kept_is same may_keep,
      )
    ]
  where
    before : (b : Bool) → new.kept ≡ (if b then finmap.insert old.kept space given else old.kept) → other ≢ space
        → finmap.get old.kept other ≡ Some answer
    before true kept apart =
        sym (get-there old.kept space given other apart) ∙ ap (λ (m : KeptReplies). finmap.get m other) (sym kept) ∙ at
    before false kept apart = ap (λ (m : KeptReplies). finmap.get m other) (sym kept) ∙ at

    own : (b : Bool) → has_record c given.reply ≡ b
        → new.kept ≡ (if b then finmap.insert old.kept space given else old.kept)
        → other ≡ space → (b ≡ true → IsKeptReply given) → IsKeptReply answer
    own true recorded kept same keeps =
        let here : Some given ≡ Some answer =
        sym (get-here old.kept space given) ∙ ap (λ (m : KeptReplies). finmap.get m space) (sym kept)
        ∙ ap (finmap.get new.kept) (sym same) ∙ at in
        subst IsKeptReply (some_same given answer here) (keeps refl)
    own false recorded kept same keeps =
        (lawful.kept other answer (ap (λ (m : KeptReplies). finmap.get m other) (sym kept) ∙ at)).1

-- what a call that was made leaves for its space to keep
kept_reply : (old : State) (space : ℕ) (numbered : NumberedCall) (answer : Reply) (new : State)
    → LawfulState old → (is : IsMade old space numbered answer new) → FitsNumbered is.given
    → has_record numbered.call is.given.reply ≡ true → IsKeptReply is.given
kept_reply old space numbered answer new lawful is fits recorded =
    let passes = passes_of old space numbered is.passes in
    let whole = plain_whole old.ipc space numbered.call is.given.reply new.ipc lawful.ipc is.step recorded in
    record {
      request = (omega (arith, passes.request, is.request), fits.0);
      call = numbered.call;
      numbered = passes.may;
      reply = record { fits = fits.1; of_one_call = whole.number_is; results = whole.results; recorded = recorded };
    }

-- Every step keeps a state lawful and acyclic, if the call's arguments are in range, and the reply that a space keeps.
abbrev pub StepsKeepLawful : Type 0
StepsKeepLawful =
    (old : State) (space : ℕ) (c : Call) (answer : Reply) (new : State) → FitsCall c → FitsKept answer
    → LawfulState old → Acyclic old.ipc → Step old space c answer new → LawfulState new × Acyclic new.ipc

same_lawful : (old new : State) → LawfulState old → Acyclic old.ipc → new ≡ old → LawfulState new × Acyclic new.ipc
same_lawful old new lawful acyclic same =
    subst (λ (s : State). LawfulState s × Acyclic s.ipc) (sym same) (lawful, acyclic)

plain_lawful : (old : State) (space : ℕ) (c : PlainCall) (answer : Reply) (new : State) → plain_calls.FitsCall c
    → LawfulState old → Acyclic old.ipc → StepsPlain old space c answer new → LawfulState new × Acyclic new.ipc
plain_lawful old space c (reply.Numbered answer) new fits lawful acyclic steps = absurd steps
plain_lawful old space c (reply.Repeated answer) new fits lawful acyclic steps = absurd steps
plain_lawful old space c (reply.Plain answer) new fits lawful acyclic steps =
    let ipc = plain_steps_keep_lawful old.ipc space c answer new.ipc fits lawful.ipc acyclic steps.0 in (
      record {
        ipc = ipc.0;
        kept = plain_kept old new space c answer (removes_space c answer) refl steps.0 steps.1 lawful;
      },
      ipc.1,
    )

made_lawful : (old : State) (space : ℕ) (numbered : NumberedCall) (answer : Reply) (new : State)
    → plain_calls.FitsCall numbered.call → FitsKept answer → LawfulState old → Acyclic old.ipc
    → IsMade old space numbered answer new → LawfulState new × Acyclic new.ipc
made_lawful old space numbered answer new fits fits_kept lawful acyclic is =
    let given = is.given in
    let ipc = plain_steps_keep_lawful old.ipc space numbered.call given.reply new.ipc fits lawful.ipc acyclic is.step in
    let passes = passes_of old space numbered is.passes in
    let in_range : FitsNumbered given = subst FitsKept is.answer_is fits_kept in (
      record {
        ipc = ipc.0;
        kept = numbered_kept old new space numbered.call given (has_record numbered.call given.reply) refl passes.may
            is.step is.kept lawful passes.there (kept_reply old space numbered answer new lawful is in_range);
      },
      ipc.1,
    )

numbered_lawful : (old : State) (space : ℕ) (numbered : NumberedCall) (answer : Reply) (new : State)
    → plain_calls.FitsCall numbered.call → FitsKept answer → LawfulState old → Acyclic old.ipc
    → MakesNumbered old space numbered answer new → LawfulState new × Acyclic new.ipc
numbered_lawful old space numbered answer new fits fits_kept lawful acyclic makes =
    elim (outcome_of old space numbered answer new makes) as (λ _. LawfulState new × Acyclic new.ipc) [
      | inl refused ↦ same_lawful old new lawful acyclic refused.refused.1
      | inr (inl is) ↦ made_lawful old space numbered answer new fits fits_kept lawful acyclic is
      | inr (inr again) ↦ same_lawful old new lawful acyclic again.same
    ]

pub steps_keep_lawful : StepsKeepLawful
unfolding Step
steps_keep_lawful old space (Plain c) answer new fits fits_kept lawful acyclic step =
    plain_lawful old space c answer new fits lawful acyclic step
steps_keep_lawful old space (Numbered numbered) answer new fits fits_kept lawful acyclic step =
    numbered_lawful old space numbered answer new fits.1 fits_kept lawful acyclic step
steps_keep_lawful old space Unnumberable answer new fits fits_kept lawful acyclic step =
    same_lawful old new lawful acyclic step.1

pub replays_keep_lawful : (old : State) (entry : Record) (new : State) → FitsCall entry.call → FitsKept entry.reply
    → LawfulState old → Acyclic old.ipc → Replays old entry new → LawfulState new × Acyclic new.ipc
replays_keep_lawful old entry new fits fits_kept lawful acyclic (inl step) =
    steps_keep_lawful old entry.space entry.call entry.reply new fits fits_kept lawful acyclic step
replays_keep_lawful old entry new fits fits_kept lawful acyclic (inr is) =
    same_lawful old new lawful acyclic (unchanged old entry.space entry.call entry.reply new is)

-- A reply shows each choice that was made.

-- From a lawful state, a call with a given answer leaves one state.
abbrev pub OneNewState : Type 0
OneNewState =
    (old : State) (space : ℕ) (c : Call) (answer : Reply) (one other : State) → LawfulState old
    → Step old space c answer one → Step old space c answer other → one ≡ other

same_parts : (one other : State) → one.ipc ≡ other.ipc → one.kept ≡ other.kept → one ≡ other
same_parts one other ipc kept = λ i. record { ipc = ipc i; kept = kept i }

one_plain : (old : State) (space : ℕ) (c : PlainCall) (answer : Reply) (one other : State) → LawfulState old
    → StepsPlain old space c answer one → StepsPlain old space c answer other → one ≡ other
one_plain old space c (reply.Numbered answer) one other lawful here there = absurd here
one_plain old space c (reply.Repeated answer) one other lawful here there = absurd here
one_plain old space c (reply.Plain answer) one other lawful here there =
    same_parts one other (one_new_ipc old.ipc space c answer one.ipc other.ipc lawful.ipc here.0 there.0)
    (here.1 ∙ sym there.1)

one_made : (old : State) (space : ℕ) (numbered : NumberedCall) (answer : Reply) (one other : State)
    → LawfulState old → IsMade old space numbered answer one → IsMade old space numbered answer other → one ≡ other
one_made old space numbered answer one other lawful here there =
    let same : there.given ≡ here.given = numbered_same there.given here.given (sym there.answer_is ∙ here.answer_is) in
    same_parts one other
    (one_new_ipc old.ipc space numbered.call here.given.reply one.ipc other.ipc lawful.ipc here.step
    (subst (λ (g : NumberedReply). PlainStep old.ipc space numbered.call g.reply other.ipc) same there.step))
    (here.kept ∙ ap (kept_with old.kept space numbered.call) (sym same) ∙ sym there.kept)

one_numbered : (old : State) (space : ℕ) (numbered : NumberedCall) (answer : Reply) (one other : State)
    → LawfulState old → Outcome old space numbered answer one → Outcome old space numbered answer other → one ≡ other
one_numbered old space numbered answer one other lawful (inl here) (inl there) =
    here.refused.1 ∙ sym there.refused.1
one_numbered old space numbered answer one other lawful (inl here) (inr (inl there)) =
    absurd (cc (here.fails, there.passes))
one_numbered old space numbered answer one other lawful (inl here) (inr (inr there)) =
    absurd (cc (here.fails, there.passes))
one_numbered old space numbered answer one other lawful (inr (inl here)) (inl there) =
    absurd (cc (here.passes, there.fails))
one_numbered old space numbered answer one other lawful (inr (inr here)) (inl there) =
    absurd (cc (here.passes, there.fails))
one_numbered old space numbered answer one other lawful (inr (inl here)) (inr (inl there)) =
    one_made old space numbered answer one other lawful here there
one_numbered old space numbered answer one other lawful (inr (inl here)) (inr (inr there)) =
    absurd (cc (here.first, there.again))
one_numbered old space numbered answer one other lawful (inr (inr here)) (inr (inl there)) =
    absurd (cc (here.again, there.first))
one_numbered old space numbered answer one other lawful (inr (inr here)) (inr (inr there)) = here.same ∙ sym there.same

pub one_new_state : OneNewState
unfolding Step
one_new_state old space (Plain c) answer one other lawful here there =
    one_plain old space c answer one other lawful here there
one_new_state old space (Numbered numbered) answer one other lawful here there =
    one_numbered old space numbered answer one other lawful (outcome_of old space numbered answer one here)
    (outcome_of old space numbered answer other there)
one_new_state old space Unnumberable answer one other lawful here there = here.1 ∙ sym there.1

-- A record that is kept already is of no step.
pub kept_is_no_step : (old : State) (space : ℕ) (c : Call) (answer : Reply) (one other : State)
    → Step old space c answer one → IsKeptAlready old space c answer other → ⊥
unfolding Step
kept_is_no_step old space (Plain c) answer one other step is = absurd is
kept_is_no_step old space Unnumberable answer one other step is = absurd is
kept_is_no_step old space (Numbered numbered) (reply.Plain answer) one other step is = absurd is
kept_is_no_step old space (Numbered numbered) (reply.Repeated answer) one other step is = absurd is
kept_is_no_step old space (Numbered numbered) (reply.Numbered answer) one other step is =
    elim (outcome_of old space numbered (reply.Numbered answer) one step) as (λ _. ⊥) [
      | inl refused ↦ absurd (cc refused.refused.0)
      | inr (inl made) ↦ absurd (cc (made.first, asked_kept old space numbered answer is.0 is.1))
      | inr (inr again) ↦ absurd (cc again.answer_is)
    ]

pub one_replayed : (old : State) (entry : Record) (one other : State) → LawfulState old → Replays old entry one
    → Replays old entry other → one ≡ other
one_replayed old entry one other lawful (inl here) (inl there) =
    one_new_state old entry.space entry.call entry.reply one other lawful here there
one_replayed old entry one other lawful (inl here) (inr there) =
    absurd (kept_is_no_step old entry.space entry.call entry.reply one other here there)
one_replayed old entry one other lawful (inr here) (inl there) =
    absurd (kept_is_no_step old entry.space entry.call entry.reply other one there here)
one_replayed old entry one other lawful (inr here) (inr there) =
    unchanged old entry.space entry.call entry.reply one here
    ∙ sym (unchanged old entry.space entry.call entry.reply other there)
