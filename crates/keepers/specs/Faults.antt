-- Why a load isn't stored.
use Rattle.std.specs.Prelude.{◌≡◌, ◌⊎◌, ⊤}
use Rattle.store_fault.specs.declared.fault.StoreFault.TheVariants.{Device, Failed, Full}
use Rattle.keepers.specs.declared.fault.NotStored.{NotStored}
use Rattle.keepers.specs.declared.fault.NotStored.TheVariants.{NotNow, NoMemory, Store}

-- It isn't the next one; the process is out of memory for what the load adds to the history; the device fails, or
-- failed before; or the segment would hold too many records.
abbrev pub IsWhyNotStored : NotStored → Type 0
IsWhyNotStored NotNow = ⊤
IsWhyNotStored NoMemory = ⊤
IsWhyNotStored (Store fault) = (fault ≡ Device) ⊎ (fault ≡ Failed) ⊎ (fault ≡ Full)
