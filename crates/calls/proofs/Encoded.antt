-- The bytes appended for a call are its encoding.
use Rattle.std.proofs.Common.{◌≡◌, ◌+◌, ◌<◌, ◌++◌, List, ℕ, OnOk, OnErr, Result, length, sym, subst}
use Rattle.std.specs.declared.alloc.AllocError.{AllocError}
use Rattle.ipc_model.specs.declared.plain_call.PlainCall.{PlainCall}
use Rattle.ipc_model.specs.encodings.PlainCalls.{call_encoding}

pub encoded : (result : Result (Unit {0}) AllocError) (call other : PlainCall) (old new : List ℕ) → call ≡ other
    → OnOk result (new ≡ old ++ call_encoding other) → OnOk result (new ≡ old ++ call_encoding call)
encoded result call other old new is holds =
    subst (λ (c : PlainCall). OnOk result (new ≡ old ++ call_encoding c)) (sym is) holds

-- appending fails only if there is no room for that encoding
pub encoded_full : (result : Result (Unit {0}) AllocError) (call other : PlainCall) (room long : ℕ) → call ≡ other
    → OnErr result (room < long + length (call_encoding other)) → OnErr result (room < long + length (call_encoding call))
encoded_full result call other room long is fails =
    subst (λ (c : PlainCall). OnErr result (room < long + length (call_encoding c))) (sym is) fails
