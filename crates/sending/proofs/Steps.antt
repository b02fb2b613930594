-- Composition of steps.
use Rattle.std.proofs.Common.{◌≡◌, Result, Ok, Err, sym, ap, subst}
use Rattle.codes.specs.declared.kern_return.KernReturn.{KernReturn}
use Rattle.ipc_model.specs.calls.Tests.{and_then}
use Rattle.sending.specs.Agrees.{Agrees, IsNoMemory, ReportsRefusal}
use Rattle.sending.specs.declared.fault.SendFault.{SendFault}
use Rattle.sending.specs.declared.fault.SendFault.TheVariants.{Refused, NoMemory}

-- the first step succeeded, and the other steps returned what follows
pub agrees_then : {X Y Z W : Type 0} (r : Result X KernReturn) (next : X → Result Z KernReturn) (Is : X → Y → Type 0)
    (Then : Z → W → Type 0) (y : Y) (result : Result W SendFault)
    → Agrees r Is (Ok y) → ((x : X) → Is x y → Agrees (next x) Then result) → Agrees (and_then r next) Then result
agrees_then (Ok x) next Is Then y result is rest = rest x is
agrees_then (Err code) next Is Then y result is rest = absurd is

-- the first step failed
abbrev pub failure_of : (Y : Type 0) → SendFault → Result Y SendFault
failure_of Y fault = Err fault

pub agrees_failed : {X Y Z W : Type 0} (r : Result X KernReturn) (next : X → Result Z KernReturn) (Is : X → Y → Type 0)
    (Then : Z → W → Type 0) (fault : SendFault)
    → Agrees r Is (failure_of Y fault) → Agrees (and_then r next) Then (Err fault)
agrees_failed (Ok x) next Is Then fault is = any (next x) fault is
  where
    any : (r : Result _ KernReturn) (f : SendFault) → IsNoMemory f → Agrees r Then (Err f)
    any r (Refused code) want = absurd want
    any (Ok z) NoMemory want = tt
    any (Err code) NoMemory want = tt
agrees_failed (Err code) next Is Then fault is = is

-- the returned result is the machine's
pub agrees_same : {X Z W : Type 0} (r : Result X KernReturn) (next : X → Result Z KernReturn) (Then : Z → W → Type 0)
    (y : X) (result : Result W SendFault)
    → Agrees r (λ (x z : X). z ≡ x) (Ok y) → Agrees (next y) Then result → Agrees (and_then r next) Then result
agrees_same (Ok x) next Then y result is rest = subst (λ (v : _). Agrees (next v) Then result) is rest
agrees_same (Err code) next Then y result is rest = absurd is

-- the result after a refusal or out of memory
pub reported : {X Y : Type 0} (r : Result X KernReturn) (Is : X → Y → Type 0) (fault : SendFault)
    → Agrees r Is (Err fault)
    → ReportsRefusal r fault
reported (Ok x) Is (Refused code) is = absurd is
reported (Ok x) Is NoMemory is = tt
reported (Err code) Is (Refused other) is = ap Err (sym is)
reported (Err code) Is NoMemory is = tt
