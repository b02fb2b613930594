-- Tasks whose space isn't there, among them those that are attached to none, and attaches to one's own space.
use Rattle.std.specs.Prelude.{◌≡◌, ℕ, Bool, true, false, not, List, [], ◌∷◌, Option, None, Some, is_some, if◌then◌else◌, refl}
use Rattle.std.proofs.Common.{◌∙◌, ap, sym, subst, arith}
use Rattle.std.specs.FinMap as finmap
use Rattle.codes.specs.declared.call_number.TheConstants.{ATTACH}
use Rattle.codes.specs.declared.kern_return.KernReturn.{KernReturn}
use Rattle.codes.specs.declared.kern_return.KernReturn.TheVariants.{InvalidTask, InvalidArgument}
use Rattle.codes.specs.declared.name.TheConstants.{NO_SPACE}
use Rattle.ipc_model.specs.calls.Actions.{Done}
use Rattle.ipc_model.specs.calls.PlainStep as plain
use Rattle.ipc_model.specs.calls.PlainStep.{ActsFrom, PlainStep}
use Rattle.ipc_model.specs.calls.PortCalls.{tests_of}
use Rattle.ipc_model.specs.calls.Step.{IsRefused, Step, is_gone, kept_after, refused}
use Rattle.ipc_model.specs.calls.Tests.{RefusedOrDone, first_failing}
use Rattle.ipc_model.specs.declared.call.Call.{Call}
use Rattle.ipc_model.specs.declared.call.Call.TheVariants.{Plain, Numbered, Unnumberable}
use Rattle.ipc_model.specs.declared.plain_call.PlainCall.{PlainCall}
use Rattle.ipc_model.specs.declared.plain_call.PlainCall.TheVariants as call
use Rattle.ipc_model.specs.declared.plain_reply.PlainReply.{PlainReply}
use Rattle.ipc_model.specs.declared.plain_reply.PlainReply.TheVariants as plain_reply
use Rattle.ipc_model.specs.declared.reply.Reply.{Reply}
use Rattle.ipc_model.specs.declared.reply.Reply.TheVariants as reply
use Rattle.ipc_model.specs.effects.Effects.{Effect, Settles, settled}
use Rattle.ipc_model.specs.state.Ipc.{Ipc, Names}
use Rattle.ipc_model.specs.state.LawfulState.{LawfulState}
use Rattle.ipc_model.specs.state.State.{KeptReplies, State}

settles_nothing : (state end : Ipc) → Settles state [] end → end ≡ state
settles_nothing state end settled = refl

settles_as : (old acted new : Ipc) (effects : List Effect) → acted ≡ old → effects ≡ [] → Settles acted effects new
    → new ≡ old
settles_as old acted new effects same none ends =
    settles_nothing acted new (subst (λ (e : List Effect). Settles acted e new) none ends) ∙ same

plain_gone : (old : Ipc) (space : ℕ) (names : Option Names) (c : PlainCall) (answer : PlainReply) (acted new : Ipc)
    (effects : List Effect) → not (is_some names) ≡ true → ActsFrom old space names c answer acted effects
    → Settles acted effects new → (answer ≡ plain.refused c InvalidTask) × (new ≡ old)
plain_gone old space None c answer acted new effects gone acts ends =
    (acts.0, settles_as old acted new effects acts.1 acts.2 ends)
plain_gone old space (Some names) c answer acted new effects gone acts ends = absurd (cc gone)

-- a refusal removes no space
refusal_keeps : (kept : KeptReplies) (space : ℕ) (c : PlainCall) (answer : PlainReply)
    → answer ≡ plain.refused c InvalidTask → kept_after kept space c answer ≡ kept
refusal_keeps kept space call.SpaceDestroy answer is = ap (kept_after kept space call.SpaceDestroy) is
refusal_keeps kept space c answer is = refl

-- the first test of a numbered call
first_fails : (fails : Bool) (later : Option KernReturn) (refusal : KernReturn → Type 0) (done : Type 0) → fails ≡ true
    → RefusedOrDone (if fails then Some InvalidTask else later) refusal done → refusal InvalidTask
first_fails true later refusal done gone made = made
first_fails false later refusal done gone made = absurd (cc gone)

-- A task whose space isn't there is refused every call, and nothing changes.
abbrev pub GoneIsRefused : Type 0
GoneIsRefused =
    (old : State) (space : ℕ) (c : Call) (answer : Reply) (new : State) → is_gone old space ≡ true
    → Step old space c answer new → (answer ≡ refused c InvalidTask) × (new ≡ old)

pub gone_is_refused : GoneIsRefused
unfolding Step PlainStep
gone_is_refused old space (Plain c) (reply.Plain answer) new gone step =
    let done =
    plain_gone old.ipc space (finmap.get old.ipc.spaces space) c answer step.0.0 new.ipc step.0.1 gone step.0.2 step.0.3
    in (
      ap reply.Plain done.0,
      λ i. record { ipc = done.1 i; kept = (step.1 ∙ refusal_keeps old.kept space c answer done.0) i },
    )
gone_is_refused old space (Plain c) (reply.Numbered answer) new gone step = absurd step
gone_is_refused old space (Plain c) (reply.Repeated answer) new gone step = absurd step
gone_is_refused old space (Numbered numbered) answer new gone step =
    first_fails (is_gone old space) _ (λ code. IsRefused old code answer new) _ gone step
gone_is_refused old space Unnumberable answer new gone step =
    subst (λ (b : Bool). IsRefused old (if b then InvalidTask else InvalidArgument) answer new) gone step

-- No space has the number that stands for none, so a task that is attached to none is refused every call.
abbrev pub DetachedIsRefused : Type 0
DetachedIsRefused =
    (old : State) (c : Call) (answer : Reply) (new : State) → LawfulState old → Step old NO_SPACE c answer new
    → (answer ≡ refused c InvalidTask) × (new ≡ old)

no_space : (old : State) → LawfulState old → is_gone old NO_SPACE ≡ true
no_space old lawful =
    elim (finmap.get old.ipc.spaces NO_SPACE)
    as (λ (names : Option Names). finmap.get old.ipc.spaces NO_SPACE ≡ names → not (is_some names) ≡ true) [
      | None ↦ λ (_ : _). refl
      | Some names ↦ λ (there : _). absurd (omega (arith, (lawful.ipc.spaces NO_SPACE names there).0))
    ] refl

pub detached_is_refused : DetachedIsRefused
detached_is_refused old c answer new lawful step =
    gone_is_refused old NO_SPACE c answer new (no_space old lawful) step

-- An attach to the space that the task is attached to asks whether that space is there, and changes nothing.
abbrev pub attached_still : Bool → Reply
attached_still gone =
    if gone then refused (Plain (call.Attach NO_SPACE)) InvalidTask else reply.Plain (plain_reply.Done ATTACH)

abbrev pub OwnAttachAsks : Type 0
OwnAttachAsks =
    (old : State) (space : ℕ) (answer : Reply) (new : State) → Step old space (Plain (call.Attach space)) answer new
    → (answer ≡ attached_still (is_gone old space)) × (new ≡ old)

own_there : (old : Ipc) (space : ℕ) (there : Option Names) (answer : PlainReply) (acted new : Ipc)
    (effects : List Effect) → finmap.get old.spaces space ≡ there → not (is_some there) ≡ false
    → ActsFrom old space there (call.Attach space) answer acted effects
    → Settles acted effects new → (answer ≡ plain_reply.Done ATTACH) × (new ≡ old)
unfolding Done tests_of
own_there old space None answer acted new effects at there acts ends = absurd (cc there)
own_there old space (Some names) answer acted new effects at there acts ends =
    let done =
    subst (λ (o : Option Names). RefusedOrDone
    (first_failing ((not (is_some o), InvalidTask) ∷ []))
    (λ code. plain.IsRefusedWith (plain_reply.Refused ATTACH code) old answer acted effects)
    (Done old space names (call.Attach space) answer acted effects)) at acts in
    (done.0, settles_as old acted new effects done.1 done.2 ends)

pub own_attach_asks : OwnAttachAsks
unfolding Step PlainStep
own_attach_asks old space answer new step =
    elim (is_gone old space) as (λ (gone : Bool). is_gone old space ≡ gone
    → (answer ≡ attached_still gone) × (new ≡ old)) [
      | true ↦ λ (gone : _). gone_is_refused old space (Plain (call.Attach space)) answer new gone step
      | false ↦ λ (there : _). still answer step there
    ] refl
  where
    still : (answer : Reply) → Step old space (Plain (call.Attach space)) answer new → is_gone old space ≡ false
        → (answer ≡ reply.Plain (plain_reply.Done ATTACH)) × (new ≡ old)
    still (reply.Plain answer) step there =
        let done =
        own_there old.ipc space (finmap.get old.ipc.spaces space) answer step.0.0 new.ipc step.0.1 refl there step.0.2
        step.0.3 in
        (ap reply.Plain done.0, λ i. record { ipc = done.1 i; kept = step.1 i })
    still (reply.Numbered answer) step there = absurd step
    still (reply.Repeated answer) step there = absurd step
