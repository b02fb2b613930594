-- The count of failed calls while a store is copied.
use Rattle.std.specs.Prelude.{ℕ, Result, Ok, Err}
use Rattle.disk.specs.Moments.{one_more}
use Rattle.inspect.specs.declared.still_disk.fault.CopyFault.{CopyFault}
use Rattle.inspect.specs.declared.still_disk.fault.CopyFault.TheVariants.{Device, NoMemory, Busy}

-- the count of failed calls after a fault: it grows by one if the device failed; and after a result
abbrev pub counted_fault : CopyFault → ℕ → ℕ
counted_fault Device failures = one_more failures
counted_fault NoMemory failures = failures
counted_fault Busy failures = failures

abbrev pub counted : {T : Type 0} → Result T CopyFault → ℕ → ℕ
counted (Ok value) failures = failures
counted (Err fault) failures = counted_fault fault failures
