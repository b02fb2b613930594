-- Steps, composed of the call's own action and its effects.
use Rattle.std.specs.Prelude.{◌≡◌, ℕ, false, true, List, [], Option, None, Some, IsSome, IfSome, IfNone, is_some}
use Rattle.std.proofs.Common.{refl, sym, ap, subst, ◌∙◌}
use Rattle.std.specs.FinMap as finmap
use Rattle.codes.specs.declared.kern_return.KernReturn.{KernReturn}
use Rattle.codes.specs.declared.kern_return.KernReturn.TheVariants.{InvalidTask}
use Rattle.ipc_model.specs.declared.plain_call.PlainCall.{PlainCall}
use Rattle.ipc_model.specs.declared.plain_call.PlainCall.TheVariants as call
use Rattle.ipc_model.specs.declared.plain_reply.PlainReply.{PlainReply}
use Rattle.ipc_model.specs.effects.Effects.{Effect, Settles, settled}
use Rattle.ipc_model.specs.calls.PortCalls.{names_in}
use Rattle.ipc_model.specs.state.Ipc.{Ipc, Names}
use Rattle.ipc_model.specs.calls.PlainRefusals.{refused_of}
use Rattle.ipc_model.specs.calls.PlainStep.{PlainStep, ActsIn, ActsFrom, refused, number_of_call}
use Rattle.kernel.specs.declared.choices.Shown.{Shown}
use Rattle.kernel.specs.Choosing.{Prefers, shown_by}
use Rattle.kernel.specs.Trials.{done_acting, refused_acting}
use Rattle.port_calls.specs.Trying.{Tries, is_refusal}

-- If a reply that shows these choices is possible, it is this reply.
pub record PrefersStep (old : Ipc) (space : ℕ) (c : PlainCall) (shown : Shown) (answer : PlainReply) : Type 0 where
  pub takes : (other : PlainReply) (new : Ipc) → shown ≡ shown_by other → PlainStep old space c other new
      → answer ≡ other

-- The caller's space exists.

or_empty : Option Names → Names
or_empty None = finmap.empty
or_empty (Some names) = names

from_there : (old : Ipc) (space : ℕ) (o : Option Names) (c : PlainCall) (answer : PlainReply) (new : Ipc)
    (effects : List Effect) → finmap.get old.spaces space ≡ o → IsSome o
    → ActsIn old space (names_in old space) c answer new effects → ActsFrom old space o c answer new effects
unfolding or_empty
from_there old space None c answer new effects is there acts = absurd (cc there)
from_there old space (Some names) c answer new effects is there acts =
    subst (λ (n : Names). ActsIn old space n c answer new effects) (ap or_empty is) acts

there_from : (old : Ipc) (space : ℕ) (o : Option Names) (c : PlainCall) (answer : PlainReply) (new : Ipc)
    (effects : List Effect) → finmap.get old.spaces space ≡ o → IsSome o → ActsFrom old space o c answer new effects
    → ActsIn old space (names_in old space) c answer new effects
unfolding or_empty
there_from old space None c answer new effects is there acts = absurd (cc there)
there_from old space (Some names) c answer new effects is there acts =
    subst (λ (n : Names). ActsIn old space n c answer new effects) (sym (ap or_empty is)) acts

-- A call acted, and its effects were drained.
pub step_settled : (old : Ipc) (space : ℕ) (c : PlainCall) (answer : PlainReply) (mid new : Ipc) (effects : List Effect)
    → IsSome (finmap.get old.spaces space)
    → ActsIn old space (names_in old space) c answer mid effects → Settles mid effects new
    → PlainStep old space c answer new
unfolding PlainStep
step_settled old space c answer mid new effects there acts ends =
    (mid, effects, from_there old space (finmap.get old.spaces space) c answer mid effects refl there acts, ends)

-- A call acted, and had no effects.
pub step_alone : (old : Ipc) (space : ℕ) (c : PlainCall) (answer : PlainReply) (new : Ipc)
    → IsSome (finmap.get old.spaces space)
    → ActsIn old space (names_in old space) c answer new [] → PlainStep old space c answer new
step_alone old space c answer new there acts = step_settled old space c answer new new [] there acts settled

-- The caller's space is gone.
gone_from : (old : Ipc) (space : ℕ) (o : Option Names) (c : PlainCall) (answer : PlainReply) → is_some o ≡ false
    → answer ≡ refused c InvalidTask → ActsFrom old space o c answer old []
gone_from old space None c answer gone is = (is, refl, refl)
gone_from old space (Some names) c answer gone is = absurd (cc gone)

pub step_gone : (old : Ipc) (space : ℕ) (c : PlainCall) (answer : PlainReply)
    → is_some (finmap.get old.spaces space) ≡ false → answer ≡ refused c InvalidTask → PlainStep old space c answer old
unfolding PlainStep
step_gone old space c answer gone is =
    (old, [], gone_from old space (finmap.get old.spaces space) c answer gone is, settled)

-- Preferred replies.

pub prefers_step : (old : Ipc) (space : ℕ) (c : PlainCall) (shown : Shown) (answer : PlainReply)
    → IsSome (finmap.get old.spaces space) → Prefers old space c shown answer → PrefersStep old space c shown answer
unfolding PlainStep
prefers_step old space c shown answer there prefers = record {
  takes =
      λ other new is step. prefers.takes other step.0 step.1 is
      (there_from old space (finmap.get old.spaces space) c other step.0 step.1 refl there step.2);
}

from_gone : (old : Ipc) (space : ℕ) (o : Option Names) (c : PlainCall) (answer : PlainReply) (new : Ipc)
    (effects : List Effect) → is_some o ≡ false → ActsFrom old space o c answer new effects
    → answer ≡ refused c InvalidTask
from_gone old space None c answer new effects gone acts = acts.0
from_gone old space (Some names) c answer new effects gone acts = absurd (cc gone)

pub prefers_gone : (old : Ipc) (space : ℕ) (c : PlainCall) (shown : Shown) (answer : PlainReply)
    → is_some (finmap.get old.spaces space) ≡ false → answer ≡ refused c InvalidTask
    → PrefersStep old space c shown answer
unfolding PlainStep
prefers_gone old space c shown answer gone is =
    record {
      takes = λ other new _ step. is
          ∙ sym (from_gone old space (finmap.get old.spaces space) c other step.0 step.1 gone step.2);
    }

-- Calls that are tried on a copy.

pub step_tried : (old : Ipc) (space : ℕ) (c : PlainCall) (answer : PlainReply) (mid new : Ipc) (effects : List Effect)
    → IsSome (finmap.get old.spaces space)
    → is_refusal answer ≡ false → Tries old space c answer mid effects → Settles mid effects new
    → PlainStep old space c answer new
step_tried old space c answer mid new effects there done tries ends =
    step_settled old space c answer mid new effects there (done_acting old space c answer mid effects done tries) ends

pub step_refused : (old : Ipc) (space : ℕ) (c : PlainCall) (answer : PlainReply) (mid : Ipc) (effects : List Effect)
    → IsSome (finmap.get old.spaces space)
    → is_refusal answer ≡ true → Tries old space c answer mid effects → PlainStep old space c answer old
step_refused old space c answer mid effects there refused tries =
    step_alone old space c answer old there (refused_acting old space c answer mid effects refused tries)

-- the fact about an option's value, if the value is known
pub of_some : {X : Type 0} (P : X → Type 0) (o : Option X) (x : X) → o ≡ Some x → IfSome o P → P x
of_some P o x is holds = subst (λ (p : Option _). IfSome p P) is holds

pub of_none : {X : Type 0} (P : Type 0) (o : Option X) → o ≡ None → IfNone o P → P
of_none P o is holds = subst (λ (p : Option _). IfNone p P) is holds

-- a refusal with the call's number is the refusal of the call
pub refused_by_number : (c : PlainCall) (code : KernReturn) → refused_of (number_of_call c) code ≡ refused c code
refused_by_number (call.Send message) code = refl
refused_by_number (call.Receive limit large name waited) code = refl
refused_by_number c code = refl
