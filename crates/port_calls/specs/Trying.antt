-- Calls that are tried on a copy of the state.
use Rattle.std.specs.Prelude.{ℕ, Bool, true, false, List, [], MatchBool}
use Rattle.ipc_model.specs.declared.plain_call.PlainCall.{PlainCall}
use Rattle.ipc_model.specs.declared.plain_reply.PlainReply.{PlainReply}
use Rattle.ipc_model.specs.declared.plain_reply.PlainReply.TheVariants as reply
use Rattle.ipc_model.specs.effects.Effects.{Effect}
use Rattle.ipc_model.specs.calls.PortCalls.{names_in}
use Rattle.ipc_model.specs.state.Ipc.{Ipc}
use Rattle.ipc_model.specs.calls.PlainStep.{ActsIn}

-- the call was refused
abbrev pub is_refusal : PlainReply → Bool
is_refusal (reply.Refused number code) = true
is_refusal _ = false

-- A call was tried on a copy. If it is refused, its action leaves the old state unchanged, and the copy is to be rolled
-- back. Otherwise the copy is the state after the call's own action, with these effects.
abbrev pub Tries : Ipc → ℕ → PlainCall → PlainReply → Ipc → List Effect → Type 0
Tries old space c answer new effects =
    MatchBool (is_refusal answer) (ActsIn old space (names_in old space) c answer old [])
    (ActsIn old space (names_in old space) c answer new effects)
