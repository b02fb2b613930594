-- The growth of a device's count of failures by a step: by one if the step reports a failed device, else not at all.
use Rattle.std.specs.Prelude.{ℕ, Result, Ok, Err}
use Rattle.disk.specs.Moments.{one_more}
use Rattle.store_fault.specs.declared.fault.StoreFault.{StoreFault}
use Rattle.store_fault.specs.declared.fault.StoreFault.TheVariants.{Device, Full, Damaged, NoMemory, Failed, Version}

abbrev pub counted_fault : StoreFault → ℕ → ℕ
counted_fault Device failures = one_more failures
counted_fault Full failures = failures
counted_fault Damaged failures = failures
counted_fault NoMemory failures = failures
counted_fault Failed failures = failures
counted_fault Version failures = failures

-- the count after a step with this result
abbrev pub counted : {T : Type 0} → Result T StoreFault → ℕ → ℕ
counted (Ok done) failures = failures
counted (Err fault) failures = counted_fault fault failures
