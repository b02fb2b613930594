-- Why a store is not opened or not written.

-- The device failed; the segment holds as many records as it may; the slots are none that a server leaves; out of
-- memory, and nothing changed; the device failed before, and the store has to be opened again; a slot is of another
-- version.
pub data StoreFault : Type 0 where
  device : StoreFault
  full : StoreFault
  damaged : StoreFault
  no_memory : StoreFault
  failed : StoreFault
  version : StoreFault
