-- The replies that may be in records of calls that may be numbered, by kind.
use Rattle.std.specs.Prelude.{◌≡◌, ◌⊎◌, ℕ, ◌<◌, Bool, true, ◌==◌, ◌||◌, List, [], length}
use Rattle.codes.specs.declared.call_number.TheConstants.{MACH_PORT_RENAME, MACH_PORT_ALLOCATE_NAME, MACH_PORT_DESTROY, MACH_PORT_DEALLOCATE, MACH_PORT_MOD_REFS, MACH_PORT_SET_QLIMIT, MACH_PORT_SET_MSCOUNT, MACH_PORT_SET_SEQNO, MACH_PORT_MOVE_MEMBER, MACH_PORT_INSERT_RIGHT}
use Rattle.codes.specs.declared.kern_return.KernReturn.{KernReturn}
use Rattle.codes.specs.declared.kern_return.KernReturn.TheVariants.{Success, RcvTooLarge}
use Rattle.codes.specs.declared.name.TheConstants.{MACH_PORT_DEAD, MACH_PORT_NULL}
use Rattle.ipc_model.specs.declared.plain_reply.PlainReply.{PlainReply}
use Rattle.ipc_model.specs.declared.plain_reply.PlainReply.TheVariants as reply
use Rattle.ipc_model.specs.encodings.PlainCalls.{IsMessageSize}

-- the numbers of the calls without results that may be numbered
abbrev pub is_numbered_without_results : ℕ → Bool
is_numbered_without_results n =
    n == MACH_PORT_RENAME || n == MACH_PORT_ALLOCATE_NAME || n == MACH_PORT_DESTROY || n == MACH_PORT_DEALLOCATE ||
    n == MACH_PORT_MOD_REFS || n == MACH_PORT_SET_QLIMIT || n == MACH_PORT_SET_MSCOUNT || n == MACH_PORT_SET_SEQNO ||
    n == MACH_PORT_MOVE_MEMBER || n == MACH_PORT_INSERT_RIGHT

-- the results of a send that was done
abbrev pub IsSent : KernReturn → ℕ → ℕ → List ℕ → Type 0
IsSent code size member message = (code ≡ Success) × (size ≡ 0) × (member ≡ MACH_PORT_NULL) × (message ≡ [])

-- the bytes that a receive returns for a message of this size: the message, or none if it was destroyed
abbrev pub Brings : KernReturn → ℕ → List ℕ → Type 0
Brings Success size message = length message ≡ size
Brings RcvTooLarge size message = message ≡ []
Brings code size message = ⊥

-- the results of a receive that took a message
abbrev pub IsReceived : KernReturn → ℕ → ℕ → List ℕ → Type 0
IsReceived code size member message =
    IsMessageSize size × (MACH_PORT_NULL < member) × (member < MACH_PORT_DEAD) × Brings code size message

-- The reply is of a kind that is recorded and may be to a numbered call.
abbrev pub IsOfNumbered : PlainReply → Type 0
IsOfNumbered (reply.Done number) = is_numbered_without_results number ≡ true
IsOfNumbered (reply.Allocate name) = Unit {0}
IsOfNumbered (reply.PreviousTarget name) = Unit {0}
IsOfNumbered (reply.Extracted name kind) = Unit {0}
IsOfNumbered (reply.SpaceCreated space name) = Unit {0}
IsOfNumbered (reply.Message code size member message) =
    IsSent code size member message ⊎ IsReceived code size member message
IsOfNumbered answer = ⊥
