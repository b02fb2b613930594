-- The numbers and the messages of the store's faults.
use Rattle.std.specs.Prelude.{ℕ, List, codes}
use Rattle.store_fault.specs.declared.fault.StoreFault.{StoreFault}
use Rattle.store_fault.specs.declared.fault.StoreFault.TheVariants.{Device, Full, Damaged, NoMemory, Failed, Version}

abbrev pub fault_number : StoreFault → ℕ
fault_number Device = 1
fault_number Full = 2
fault_number Damaged = 3
fault_number NoMemory = 4
fault_number Failed = 5
fault_number Version = 6

abbrev pub fault_text : StoreFault → List ℕ
fault_text Device = codes "device"
fault_text Full = codes "full"
fault_text Damaged = codes "damaged"
fault_text NoMemory = codes "no memory"
fault_text Failed = codes "failed"
fault_text Version = codes "version"

-- the line that a program prints for a fault
abbrev pub fault_line : StoreFault → List ℕ
fault_line Device = codes "store fault 1: device\n"
fault_line Full = codes "store fault 2: full\n"
fault_line Damaged = codes "store fault 3: damaged\n"
fault_line NoMemory = codes "store fault 4: no memory\n"
fault_line Failed = codes "store fault 5: failed\n"
fault_line Version = codes "store fault 6: version\n"
