-- Calls that are tried on a copy of the state: a refused call leaves the state unchanged, and a done call acted on the
-- copy.
use Rattle.std.specs.Prelude.{◌≡◌, ℕ, Bool, true, false, List, [], Option, None, Some, MatchBool}
use Rattle.std.proofs.Common.{refl, sym, subst}
use Rattle.codes.specs.declared.kern_return.KernReturn.{KernReturn}
use Rattle.ipc_model.specs.declared.plain_call.PlainCall.{PlainCall}
use Rattle.ipc_model.specs.declared.plain_reply.PlainReply.{PlainReply}
use Rattle.ipc_model.specs.declared.plain_reply.PlainReply.TheVariants as reply
use Rattle.ipc_model.specs.effects.Effects.{Effect}
use Rattle.ipc_model.specs.calls.PortCalls.{names_in, tests_of}
use Rattle.ipc_model.specs.state.Ipc.{Ipc}
use Rattle.ipc_model.specs.calls.PlainStep.{ActsIn, succeeded}
use Rattle.ipc_laws.specs.StepLaws.{Called}
use Rattle.ipc_model.specs.calls.Tests.{first_failing}
use Rattle.ipc_laws.specs.PortCallLaws.{as_called, answers_done, is_port_call}
use Rattle.port_calls.specs.Trying.{Tries, is_refusal}

abbrev Tried : Bool → Ipc → ℕ → PlainCall → PlainReply → Ipc → List Effect → Type 0
Tried refused old space c answer new effects =
    MatchBool refused (ActsIn old space (names_in old space) c answer old [])
    (ActsIn old space (names_in old space) c answer new effects)

-- a call that was tried acted on some state: the one before, or the copy
pub acted : (old : Ipc) (space : ℕ) (c : PlainCall) (answer : PlainReply) (new : Ipc) (effects : List Effect)
    → Tries old space c answer new effects
    → (last : Ipc) × (others : List Effect) × ActsIn old space (names_in old space) c answer last others
acted old space c answer new effects tries = by_case (is_refusal answer) tries
  where
    by_case : (refused : Bool) → Tried refused old space c answer new effects → (last : Ipc) × (others : List Effect)
        × ActsIn old space (names_in old space) c answer last others
    by_case true tried = (old, [], tried)
    by_case false tried = (new, effects, tried)

not_refused : (answer : PlainReply) → succeeded answer ≡ true → is_refusal answer ≡ false
not_refused (reply.Refused number code) success = absurd (cc success)
not_refused answer success = refl

-- A refused call that acts on ports changes nothing.
pub tries_acting : (old : Ipc) (space : ℕ) (c : PlainCall) (answer : PlainReply) (new : Ipc) (effects : List Effect)
    → is_port_call c ≡ true → ActsIn old space (names_in old space) c answer new effects
    → Tries old space c answer new effects
tries_acting old space c answer new effects port acts =
    by_refusal (first_failing (tests_of old space (names_in old space) c))
    (as_called c old space (names_in old space) answer new effects port acts)
  where
    both : (refused : Bool) → ActsIn old space (names_in old space) c answer old []
        → ActsIn old space (names_in old space) c answer new effects → Tried refused old space c answer new effects
    both true was is = was
    both false was is = is

    by_refusal : (refusal : Option KernReturn) → Called refusal old space (names_in old space) c answer new effects
        → Tries old space c answer new effects
    by_refusal None called =
        subst (λ (refused : Bool). Tried refused old space c answer new effects)
        (sym (not_refused answer (answers_done old space (names_in old space) c answer new effects called).success))
        acts
    by_refusal (Some code) called =
        both (is_refusal answer) (subst
        (λ (s : Ipc). ActsIn old space (names_in old space) c answer s []) called.1
        (subst (λ (l : List Effect). ActsIn old space (names_in old space) c answer new l) called.2 acts)) acts

-- a refused call leaves the state unchanged
pub refused_acting : (old : Ipc) (space : ℕ) (c : PlainCall) (answer : PlainReply) (new : Ipc) (effects : List Effect)
    → is_refusal answer ≡ true → Tries old space c answer new effects
    → ActsIn old space (names_in old space) c answer old []
refused_acting old space c answer new effects is tries =
    subst (λ (refused : Bool). Tried refused old space c answer new effects) is tries

pub done_acting : (old : Ipc) (space : ℕ) (c : PlainCall) (answer : PlainReply) (new : Ipc) (effects : List Effect)
    → is_refusal answer ≡ false → Tries old space c answer new effects
    → ActsIn old space (names_in old space) c answer new effects
done_acting old space c answer new effects is tries =
    subst (λ (refused : Bool). Tried refused old space c answer new effects) is tries
