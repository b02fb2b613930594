-- A function returned the result of the abstract specification, or its refusal, or was out of memory. Out of memory
-- says nothing about the abstract result.
use Rattle.std.specs.Prelude.{◌≡◌, Result, Ok, Err}
use Rattle.codes.specs.declared.kern_return.KernReturn.{KernReturn}
use Rattle.sending.specs.declared.fault.SendFault.{SendFault}
use Rattle.sending.specs.declared.fault.SendFault.TheVariants.{Refused, NoMemory}

-- a refusal with this code, unless it was out of memory first
abbrev pub HasCode : KernReturn → SendFault → Type 0
HasCode code (Refused other) = other ≡ code
HasCode code NoMemory = Unit {0}

-- out of memory
abbrev pub IsNoMemory : SendFault → Type 0
IsNoMemory (Refused code) = ⊥
IsNoMemory NoMemory = Unit {0}

abbrev pub Agrees : {X Y : Type 0} → Result X KernReturn → (X → Y → Type 0) → Result Y SendFault → Type 0
Agrees (Ok x) Is (Ok y) = Is x y
Agrees (Ok x) Is (Err fault) = IsNoMemory fault
Agrees (Err code) Is (Ok y) = ⊥
Agrees (Err code) Is (Err fault) = HasCode code fault

-- a fault is the refusal of this result, or out of memory
abbrev pub ReportsRefusal : {X : Type 0} → Result X KernReturn → SendFault → Type 0
ReportsRefusal r (Refused code) = r ≡ Err code
ReportsRefusal r NoMemory = Unit {0}
