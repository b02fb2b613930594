-- The faults of reading a store, from those of copying it and of reading the copy.
use Rattle.inspect.specs.declared.fault.ListFault.{ListFault}
use Rattle.inspect.specs.declared.fault.ListFault.TheVariants.{Store, Busy}
use Rattle.store_fault.specs.declared.fault.StoreFault.{StoreFault}
use Rattle.store_fault.specs.declared.fault.StoreFault.TheVariants as store
use Rattle.inspect.specs.declared.still_disk.fault.CopyFault.{CopyFault}
use Rattle.inspect.specs.declared.still_disk.fault.CopyFault.TheVariants as copy

abbrev pub of_copying : CopyFault → ListFault
of_copying copy.Device = Store store.Device
of_copying copy.NoMemory = Store store.NoMemory
of_copying copy.Busy = Busy

-- A copy has no device: the device's fault means out of memory.
abbrev pub of_looking : StoreFault → ListFault
of_looking store.Device = Store store.NoMemory
of_looking store.Full = Store store.Full
of_looking store.Damaged = Store store.Damaged
of_looking store.NoMemory = Store store.NoMemory
of_looking store.Failed = Store store.Failed
of_looking store.Version = Store store.Version
