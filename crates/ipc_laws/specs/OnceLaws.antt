-- In every run, numbered calls are made once.
use Rattle.std.specs.Prelude.{◌≡◌, ◌≢◌, ℕ, ◌<◌, ◌≤◌, Bool, true, false, ◌||◌, ◌==◌, not, nat_lt, List, [], ◌∷◌, Option, None, Some, is_some, if◌then◌else◌, refl}
use Rattle.std.proofs.lemmas.Bool.{eq-eqb, eqb-true, eqb-false, le-ltb, ltb-false, ne_eqb}
use Rattle.std.proofs.Common.{◌∙◌, ap, sym, subst, inl, inr, arith}
use Rattle.std.specs.FinMap as finmap
use Rattle.codes.specs.declared.kern_return.KernReturn.{KernReturn}
use Rattle.codes.specs.declared.kern_return.KernReturn.TheVariants.{InvalidTask, InvalidArgument, InvalidValue}
use Rattle.ipc_model.specs.calls.PlainStep.{has_record, may_be_numbered, number_of_call}
use Rattle.ipc_model.specs.calls.Step.{Step, StepsPlain, IsKeptAlready, Replays, Run, asked_again, is_other_call, removes_space, tests_of_numbered}
use Rattle.ipc_model.specs.calls.Tests.{first_failing}
use Rattle.ipc_model.specs.declared.call.Call.{Call}
use Rattle.ipc_model.specs.declared.call.Call.TheVariants.{Plain, Numbered, Unnumberable}
use Rattle.ipc_model.specs.declared.call.NumberedCall.{NumberedCall}
use Rattle.ipc_model.specs.declared.plain_call.PlainCall.{PlainCall}
use Rattle.ipc_model.specs.declared.record.Record.{Record}
use Rattle.ipc_model.specs.declared.reply.NumberedReply.{NumberedReply}
use Rattle.ipc_model.specs.declared.reply.Reply.{Reply}
use Rattle.ipc_model.specs.declared.reply.Reply.TheVariants as reply
use Rattle.ipc_model.specs.encodings.PlainCalls.{number_of_reply}
use Rattle.ipc_model.specs.history.Once.{AsksAgain, IsNoLess, KeptChangesNothing, NeverFall, Once, kept_by, kept_by_call, kept_by_record}
use Rattle.ipc_model.specs.state.LawfulState.{LawfulState}
use Rattle.ipc_model.specs.state.State.{State, KeptReplies, last_request}
use Rattle.ipc_laws.specs.MapLaws.{get-here, get-gone}
use Rattle.ipc_laws.specs.StepsElsewhere.{others_fade}
use Rattle.ipc_laws.specs.NumberedSteps.{Outcome, asked_same, outcome_of, passes_of, unchanged}

-- no request that is kept is 0
abbrev IsSome : Option NumberedReply → Type 0
IsSome None = Unit {0}
IsSome (Some kept) = 0 < kept.request

-- What a call leaves for a space to keep: the request doesn't fall, and doesn't become 0.
record Moves (old new : State) (space : ℕ) (kept : Option NumberedReply) : Type 0 where
  is : finmap.get new.kept space ≡ kept
  no_less : IsNoLess (finmap.get old.kept space) kept
  some : IsSome (finmap.get old.kept space) → IsSome kept

no_less : (kept : Option NumberedReply) → IsNoLess kept kept
no_less None = tt
no_less (Some kept) = omega arith

stays : (old new : State) (space : ℕ) → finmap.get new.kept space ≡ finmap.get old.kept space
    → Moves old new space (finmap.get old.kept space)
stays old new space same =
    record { is = same; no_less = no_less (finmap.get old.kept space); some = λ (some : _). some }

same_moves : (old new : State) (space : ℕ) → new ≡ old → Moves old new space (finmap.get old.kept space)
same_moves old new space same = stays old new space (ap (λ (s : State). finmap.get s.kept space) same)

plain_moves : (old new : State) (space : ℕ) (removes : Bool)
    → new.kept ≡ (if removes then finmap.remove old.kept space else old.kept)
    → Moves old new space (if removes then None else finmap.get old.kept space)
plain_moves old new space true is =
    record { is = ap (λ (m : KeptReplies). finmap.get m space) is ∙ get-gone old.kept space; no_less = tt; some = λ (_ : _). tt }
plain_moves old new space false is = stays old new space (ap (λ (m : KeptReplies). finmap.get m space) is)

made_moves : (old new : State) (space : ℕ) (given : NumberedReply) (recorded : Bool)
    → new.kept ≡ (if recorded then finmap.insert old.kept space given else old.kept)
    → last_request (finmap.get old.kept space) ≤ given.request → 0 < given.request
    → Moves old new space (if recorded then Some given else finmap.get old.kept space)
made_moves old new space given true is more some = record {
  is = ap (λ (m : KeptReplies). finmap.get m space) is ∙ get-here old.kept space given;
  no_less = more;
  some = λ (_ : _). some;
}
made_moves old new space given false is more some = stays old new space (ap (λ (m : KeptReplies). finmap.get m space) is)

step_plain : (old : State) (space : ℕ) (c : PlainCall) (answer : Reply) (new : State)
    → StepsPlain old space c answer new
    → Moves old new space (kept_by_call (finmap.get old.kept space) (Plain c) answer)
step_plain old space c (reply.Plain answer) new steps = plain_moves old new space (removes_space c answer) steps.1
step_plain old space c (reply.Numbered answer) new steps = absurd steps
step_plain old space c (reply.Repeated answer) new steps = absurd steps

step_numbered : (old : State) (space : ℕ) (numbered : NumberedCall) (answer : Reply) (new : State)
    → Outcome old space numbered answer new
    → Moves old new space (kept_by_call (finmap.get old.kept space) (Numbered numbered) answer)
step_numbered old space numbered answer new (inl refused) =
    subst (λ (r : Reply). Moves old new space (kept_by_call (finmap.get old.kept space) (Numbered numbered) r))
    (sym refused.refused.0) (same_moves old new space refused.refused.1)
step_numbered old space numbered answer new (inr (inl is)) =
    let passes = passes_of old space numbered is.passes in
    subst (λ (r : Reply). Moves old new space (kept_by_call (finmap.get old.kept space) (Numbered numbered) r))
    (sym is.answer_is)
    (made_moves old new space is.given (has_record numbered.call is.given.reply) is.kept
    (omega (
      arith,
      ltb-false numbered.request (last_request (finmap.get old.kept space)) passes.not_below,
      is.request,
    )) (omega (arith, passes.request, is.request)))
step_numbered old space numbered answer new (inr (inr again)) =
    subst (λ (r : Reply). Moves old new space (kept_by_call (finmap.get old.kept space) (Numbered numbered) r))
    (sym again.answer_is) (same_moves old new space again.same)

own_step : (old : State) (space : ℕ) (c : Call) (answer : Reply) (new : State) → Step old space c answer new
    → Moves old new space (kept_by_call (finmap.get old.kept space) c answer)
unfolding Step
own_step old space (Plain c) answer new step = step_plain old space c answer new step
own_step old space (Numbered numbered) answer new step =
    step_numbered old space numbered answer new (outcome_of old space numbered answer new step)
own_step old space Unnumberable answer new step = same_moves old new space step.1

-- a reply that is kept already is kept on
kept_moves : (old new : State) (space : ℕ) (given : NumberedReply) (recorded : Bool) → new ≡ old
    → finmap.get old.kept space ≡ Some given
    → Moves old new space (if recorded then Some given else finmap.get old.kept space)
kept_moves old new space given true same is =
    record {
      is = ap (λ (s : State). finmap.get s.kept space) same ∙ is;
      no_less = subst (λ (o : Option NumberedReply). last_request o ≤ given.request) (sym is) (omega arith);
      some = λ (some : _). subst IsSome is some;
    }
kept_moves old new space given false same is = same_moves old new space same

own_kept : (old : State) (space : ℕ) (c : Call) (answer : Reply) (new : State)
    → IsKeptAlready old space c answer new
    → Moves old new space (kept_by_call (finmap.get old.kept space) c answer)
own_kept old space (Plain c) answer new is = absurd is
own_kept old space Unnumberable answer new is = absurd is
own_kept old space (Numbered numbered) (reply.Plain answer) new is = absurd is
own_kept old space (Numbered numbered) (reply.Repeated answer) new is = absurd is
own_kept old space (Numbered numbered) (reply.Numbered answer) new is =
    kept_moves old new space answer (has_record numbered.call answer.reply) is.2 is.0

own_replayed : (old : State) (entry : Record) (new : State) → Replays old entry new
    → Moves old new entry.space (kept_by_call (finmap.get old.kept entry.space) entry.call entry.reply)
own_replayed old entry new (inl step) = own_step old entry.space entry.call entry.reply new step
own_replayed old entry new (inr is) = own_kept old entry.space entry.call entry.reply new is

-- a record of another space leaves what this one keeps
other_replayed : (old : State) (entry : Record) (new : State) (space : ℕ) → Replays old entry new
    → space ≢ entry.space → finmap.get new.kept space ≡ finmap.get old.kept space
other_replayed old entry new space (inl step) apart =
    (others_fade old entry.space entry.call entry.reply new step space apart).kept
other_replayed old entry new space (inr is) apart =
    ap (λ (s : State). finmap.get s.kept space) (unchanged old entry.space entry.call entry.reply new is)

replayed : (old : State) (entry : Record) (new : State) (space : ℕ) → Replays old entry new
    → Moves old new space (kept_by_record (finmap.get old.kept space) space entry)
replayed old entry new space replays = by (entry.space == space) refl
  where
    by : (same : Bool) → (entry.space == space) ≡ same
        → Moves old new space
        (if same then kept_by_call (finmap.get old.kept space) entry.call entry.reply else finmap.get old.kept space)
    by true is =
        subst (λ (s : ℕ). Moves old new s (kept_by_call (finmap.get old.kept s) entry.call entry.reply))
        (eqb-true entry.space space is) (own_replayed old entry new replays)
    by false is =
        stays old new space
        (other_replayed old entry new space replays (λ (same : _). eqb-false entry.space space is (sym same)))

-- over a whole run
run_kept : (base : State) (records : List Record) (end : State) (space : ℕ) → Run base records end
    → finmap.get end.kept space ≡ kept_by (finmap.get base.kept space) space records
run_kept base [] end space run = ap (λ (s : State). finmap.get s.kept space) run
run_kept base (first ∷ records) end space (mid, step, rest) =
    run_kept mid records end space rest
    ∙ ap (λ (o : Option NumberedReply). kept_by o space records) (replayed base first mid space step).is

run_never_falls : (base : State) (records : List Record) (end : State) (space : ℕ) → Run base records end
    → NeverFall (finmap.get base.kept space) space records
run_never_falls base [] end space run = tt
run_never_falls base (first ∷ records) end space (mid, step, rest) =
    let moves = replayed base first mid space step in (
      moves.no_less,
      subst (λ (o : Option NumberedReply). NeverFall o space records) moves.is
          (run_never_falls mid records end space rest),
    )

run_some : (base : State) (records : List Record) (end : State) (space : ℕ) → Run base records end
    → IsSome (finmap.get base.kept space) → IsSome (finmap.get end.kept space)
run_some base [] end space run some = subst (λ (s : State). IsSome (finmap.get s.kept space)) (sym run) some
run_some base (first ∷ records) end space (mid, step, rest) some =
    let moves = replayed base first mid space step in
    run_some mid records end space rest (subst IsSome (sym moves.is) (moves.some some))

lawful_some : (state : State) (space : ℕ) → LawfulState state → IsSome (finmap.get state.kept space)
lawful_some state space lawful = by (finmap.get state.kept space) refl
  where
    by : (o : Option NumberedReply) → finmap.get state.kept space ≡ o → IsSome o
    by None is = tt
    by (Some kept) is = (lawful.kept space kept is).1.request.0

-- Asked for again, a call passes its tests.
no_other : (kept : NumberedReply) (c : PlainCall) → number_of_call c ≡ number_of_reply kept.reply
    → is_other_call (Some kept) (number_of_call c) ≡ false
no_other kept c same = ap not (eq-eqb (number_of_reply kept.reply) (number_of_call c) (sym same))

pub is_repeated : (state : State) (space : ℕ) (numbered : NumberedCall) (kept : NumberedReply) (answer : Reply)
    (new : State) → 0 < kept.request → finmap.get state.kept space ≡ Some kept
    → AsksAgain state space numbered kept → Step state space (Numbered numbered) answer new
    → (answer ≡ reply.Repeated kept) × (new ≡ state)
unfolding Step
is_repeated state space numbered kept answer new some is asks step =
    let again : asked_again (finmap.get state.kept space) numbered.request ≡ Some kept =
    asked_same (finmap.get state.kept space) numbered.request kept is (sym asks.request) in
    elim (outcome_of state space numbered answer new step)
    as (λ _. (answer ≡ reply.Repeated kept) × (new ≡ state)) [
      | inl refused ↦ absurd (passes_all again refused.code refused.fails)
      | inr (inl made) ↦ absurd (cc (made.first, again))
      | inr (inr repeated) ↦ (
        repeated.answer_is
            ∙ ap (λ (k : NumberedReply). reply.Repeated k) (same_some repeated.kept kept (sym repeated.again ∙ again)),
        repeated.same,
      )
    ]
  where
    same_some : (one other : NumberedReply) → Some one ≡ Some other → one ≡ other
    same_some one other same = cc same

    passes_all : asked_again (finmap.get state.kept space) numbered.request ≡ Some kept → (code : KernReturn)
        → first_failing (tests_of_numbered state space numbered) ≡ Some code → ⊥
    passes_all again code fails =
        by (is_some (finmap.get state.ipc.spaces space)) (may_be_numbered numbered.call) (numbered.request == 0)
        (nat_lt numbered.request (last_request (finmap.get state.kept space)))
        (is_other_call (asked_again (finmap.get state.kept space) numbered.request) (number_of_call numbered.call))
        asks.there asks.may
        (ne_eqb numbered.request 0 (λ (zero : _). absurd (omega (arith, zero, asks.request, some))))
        (ap (λ (o : Option NumberedReply). nat_lt numbered.request (last_request o)) is
        ∙ le-ltb numbered.request kept.request (omega (arith, asks.request)))
        (ap (λ (o : Option NumberedReply). is_other_call o (number_of_call numbered.call)) again
        ∙ no_other kept numbered.call asks.same_call)
        fails
      where
        by : (there may zero below other : Bool) → there ≡ true → may ≡ true → zero ≡ false → below ≡ false
            → other ≡ false
            → (if not there then Some InvalidTask else if not may then Some InvalidArgument
            else if zero || below then Some InvalidValue else if other then Some InvalidArgument else None) ≡ Some code
            → ⊥
        by true true false false false e1 e2 e3 e4 e5 none = absurd (cc none)
        by false may zero below other e1 e2 e3 e4 e5 none = absurd (cc e1)
        by true false zero below other e1 e2 e3 e4 e5 none = absurd (cc e2)
        by true true true below other e1 e2 e3 e4 e5 none = absurd (cc e3)
        by true true false true other e1 e2 e3 e4 e5 none = absurd (cc e4)
        by true true false false true e1 e2 e3 e4 e5 none = absurd (cc e5)

-- Every run from a lawful state makes numbered calls once.
abbrev pub CallsAreMadeOnce : Type 0
CallsAreMadeOnce =
    (base : State) (records : List Record) (end : State) → LawfulState base → Run base records end
    → Once base records end

pub made_once : CallsAreMadeOnce
made_once base records end lawful run = record {
  kept = λ (space : ℕ). run_kept base records end space run;
  never_fall = λ (space : ℕ). run_never_falls base records end space run;
  again = λ (space : ℕ) (numbered : NumberedCall) (kept : NumberedReply) (answer : Reply) (new : State) (is : _)
      (asks : _) (step : _).
      let there : finmap.get end.kept space ≡ Some kept = run_kept base records end space run ∙ is in
      is_repeated end space numbered kept answer new
      (subst IsSome there (run_some base records end space run (lawful_some base space lawful))) there asks step;
}

pub kept_changes_nothing : KeptChangesNothing
unfolding Step
kept_changes_nothing old entry new kept numbered replays call_is is same =
    by replays
  where
    again : asked_again (finmap.get old.kept entry.space) numbered.request ≡ Some kept
    again = asked_same (finmap.get old.kept entry.space) numbered.request kept is same

    of_step : Step old entry.space (Numbered numbered) entry.reply new → new ≡ old
    of_step step = elim (outcome_of old entry.space numbered entry.reply new step) as (λ _. new ≡ old) [
      | inl refused ↦ refused.refused.1
      | inr (inl made) ↦ absurd (cc (made.first, again))
      | inr (inr repeated) ↦ repeated.same
    ]

    by : Replays old entry new → new ≡ old
    by (inl step) = of_step (subst (λ (c : Call). Step old entry.space c entry.reply new) call_is step)
    by (inr is) = unchanged old entry.space entry.call entry.reply new is
