-- The numbers and the messages of the faults.
use Rattle.std.specs.Prelude.{ℕ, List, codes}
use Rattle.wire.specs.declared.fault.WireFault.{WireFault}
use Rattle.wire.specs.declared.fault.WireFault.TheVariants.{Short, TooLong, Device, NoMemory}

abbrev pub fault_number : WireFault → ℕ
fault_number Short = 1
fault_number TooLong = 2
fault_number Device = 3
fault_number NoMemory = 4

abbrev pub fault_text : WireFault → List ℕ
fault_text Short = codes "short"
fault_text TooLong = codes "too long"
fault_text Device = codes "device"
fault_text NoMemory = codes "no memory"

-- the line that a program prints for a fault
abbrev pub fault_line : WireFault → List ℕ
fault_line Short = codes "wire fault 1: short\n"
fault_line TooLong = codes "wire fault 2: too long\n"
fault_line Device = codes "wire fault 3: device\n"
fault_line NoMemory = codes "wire fault 4: no memory\n"
