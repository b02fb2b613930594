-- What a step leaves of other spaces, and which space it makes.
use Rattle.std.specs.Prelude.{◌≡◌, ◌≢◌, ◌⊎◌, ℕ, Bool, true, false, None, Some, if◌then◌else◌, refl}
use Rattle.std.proofs.Common.{◌∙◌, ap, sym, subst, inl, inr}
use Rattle.std.specs.FinMap as finmap
use Rattle.ipc_model.specs.calls.PlainStep.{has_record}
use Rattle.ipc_model.specs.calls.Step.{Step, StepsPlain, removes_space}
use Rattle.ipc_model.specs.declared.call.Call.{Call}
use Rattle.ipc_model.specs.declared.call.Call.TheVariants.{Plain, Numbered, Unnumberable}
use Rattle.ipc_model.specs.declared.call.NumberedCall.{NumberedCall}
use Rattle.ipc_model.specs.declared.plain_call.PlainCall.{PlainCall}
use Rattle.ipc_model.specs.declared.plain_reply.PlainReply.{PlainReply}
use Rattle.ipc_model.specs.declared.plain_reply.PlainReply.TheVariants.{SpaceCreated}
use Rattle.ipc_model.specs.declared.reply.NumberedReply.{NumberedReply}
use Rattle.ipc_model.specs.declared.reply.Reply.{Reply}
use Rattle.ipc_model.specs.declared.reply.Reply.TheVariants as reply
use Rattle.ipc_model.specs.state.Ipc.{Names, lives}
use Rattle.ipc_model.specs.state.State.{State, KeptReplies}
use Rattle.ipc_laws.specs.MapLaws.{get-there, get-left}
use Rattle.ipc_laws.specs.NumberedSteps.{IsMade, outcome_of}
use Rattle.ipc_laws.specs.OtherSpaces.{plain_others_fade, plain_spaces_are_made}
use Rattle.ipc_laws.specs.Others.{SpaceFades, same_at}

-- what a state has of a space that the caller isn't in, after a step
pub record Elsewhere (old new : State) (other : ℕ) : Type 0 where
  pub fades : SpaceFades old.ipc new.ipc other
  pub kept : finmap.get new.kept other ≡ finmap.get old.kept other

same_elsewhere : (old new : State) (other : ℕ) → new ≡ old → Elsewhere old new other
same_elsewhere old new other same =
    subst (λ (s : State). Elsewhere old s other) (sym same) (record {
      fades = λ (before : Names) (there : _). (
        before,
        there,
        λ (name : ℕ). same_at (lives old.ipc) (finmap.get before name),
      );
      kept = refl;
    })

left_elsewhere : (kept new : KeptReplies) (space other : ℕ) (removes : Bool) → other ≢ space
    → new ≡ (if removes then finmap.remove kept space else kept) → finmap.get new other ≡ finmap.get kept other
left_elsewhere kept new space other true apart is =
    ap (λ (m : KeptReplies). finmap.get m other) is ∙ get-left kept space other apart
left_elsewhere kept new space other false apart is = ap (λ (m : KeptReplies). finmap.get m other) is

set_elsewhere : (kept new : KeptReplies) (space other : ℕ) (given : NumberedReply) (recorded : Bool) → other ≢ space
    → new ≡ (if recorded then finmap.insert kept space given else kept) → finmap.get new other ≡ finmap.get kept other
set_elsewhere kept new space other given true apart is =
    ap (λ (m : KeptReplies). finmap.get m other) is ∙ get-there kept space given other apart
set_elsewhere kept new space other given false apart is = ap (λ (m : KeptReplies). finmap.get m other) is

-- A step changes no name of another space, except that names of ports that die become dead names, and requests whose
-- target's port dies go. What the space keeps stays. (Making a space changes no space that was there.)
abbrev pub OthersFade : Type 0
OthersFade =
    (old : State) (space : ℕ) (c : Call) (answer : Reply) (new : State) → Step old space c answer new → (other : ℕ)
    → other ≢ space → Elsewhere old new other

plain_elsewhere : (old : State) (space : ℕ) (c : PlainCall) (answer : Reply) (new : State)
    → StepsPlain old space c answer new → (other : ℕ) → other ≢ space → Elsewhere old new other
plain_elsewhere old space c (reply.Plain answer) new steps other apart = record {
  fades = plain_others_fade old.ipc space c answer new.ipc steps.0 other apart;
  kept = left_elsewhere old.kept new.kept space other (removes_space c answer) apart steps.1;
}
plain_elsewhere old space c (reply.Numbered answer) new steps other apart = absurd steps
plain_elsewhere old space c (reply.Repeated answer) new steps other apart = absurd steps

made_elsewhere : (old : State) (space : ℕ) (numbered : NumberedCall) (answer : Reply) (new : State)
    → IsMade old space numbered answer new → (other : ℕ) → other ≢ space → Elsewhere old new other
made_elsewhere old space numbered answer new is other apart = record {
  fades = plain_others_fade old.ipc space numbered.call is.given.reply new.ipc is.step other apart;
  kept =
      set_elsewhere old.kept new.kept space other is.given (has_record numbered.call is.given.reply) apart is.kept;
}

pub others_fade : OthersFade
unfolding Step
others_fade old space (Plain c) answer new step other apart =
    plain_elsewhere old space c answer new step other apart
others_fade old space (Numbered numbered) answer new step other apart =
    elim (outcome_of old space numbered answer new step) as (λ _. Elsewhere old new other) [
      | inl refused ↦ same_elsewhere old new other refused.refused.1
      | inr (inl is) ↦ made_elsewhere old space numbered answer new is other apart
      | inr (inr again) ↦ same_elsewhere old new other again.same
    ]
others_fade old space Unnumberable answer new step other apart = same_elsewhere old new other step.1

-- A new space comes only from call number 20, and the reply names it.
abbrev pub NamesSpace : Reply → ℕ → Type 0
NamesSpace answer made =
    (name : ℕ) × ((answer ≡ reply.Plain (SpaceCreated made name))
    ⊎ ((request : ℕ) × (answer ≡ reply.Numbered (record { request = request; reply = SpaceCreated made name }))))

abbrev pub SpacesAreMade : Type 0
SpacesAreMade =
    (old : State) (space : ℕ) (c : Call) (answer : Reply) (new : State) → Step old space c answer new
    → (other : ℕ) (names : Names) → finmap.get old.ipc.spaces other ≡ None
    → finmap.get new.ipc.spaces other ≡ Some names → NamesSpace answer other

plain_made : (old : State) (space : ℕ) (c : PlainCall) (answer : Reply) (new : State)
    → StepsPlain old space c answer new → (other : ℕ) (names : Names) → finmap.get old.ipc.spaces other ≡ None
    → finmap.get new.ipc.spaces other ≡ Some names → NamesSpace answer other
plain_made old space c (reply.Plain answer) new steps other names none there =
    let made = plain_spaces_are_made old.ipc space c answer new.ipc steps.0 other names none there in
    (made.0, inl (ap (λ (r : PlainReply). reply.Plain r) made.1))
plain_made old space c (reply.Numbered answer) new steps other names none there = absurd steps
plain_made old space c (reply.Repeated answer) new steps other names none there = absurd steps

none_made : (old new : State) (answer : Reply) (other : ℕ) (names : Names) → new ≡ old
    → finmap.get old.ipc.spaces other ≡ None → finmap.get new.ipc.spaces other ≡ Some names → NamesSpace answer other
none_made old new answer other names same none there =
    absurd (cc (sym none ∙ ap (λ (s : State). finmap.get s.ipc.spaces other) (sym same) ∙ there))

numbered_made : (old : State) (space : ℕ) (numbered : NumberedCall) (answer : Reply) (new : State)
    → IsMade old space numbered answer new → (other : ℕ) (names : Names) → finmap.get old.ipc.spaces other ≡ None
    → finmap.get new.ipc.spaces other ≡ Some names → NamesSpace answer other
numbered_made old space numbered answer new is other names none there =
    let made =
    plain_spaces_are_made old.ipc space numbered.call is.given.reply new.ipc is.step other names none there in (
      made.0,
      inr (
        is.given.request,
        is.answer_is ∙ ap (λ (r : PlainReply). reply.Numbered (record { request = is.given.request; reply = r })) made.1,
      ),
    )

pub spaces_are_made : SpacesAreMade
unfolding Step
spaces_are_made old space (Plain c) answer new step other names none there =
    plain_made old space c answer new step other names none there
spaces_are_made old space (Numbered numbered) answer new step other names none there =
    elim (outcome_of old space numbered answer new step) as (λ _. NamesSpace answer other) [
      | inl refused ↦ none_made old new answer other names refused.refused.1 none there
      | inr (inl is) ↦ numbered_made old space numbered answer new is other names none there
      | inr (inr again) ↦ none_made old new answer other names again.same none there
    ]
spaces_are_made old space Unnumberable answer new step other names none there =
    none_made old new answer other names step.1 none there
