-- What a server on a socket has written to its output when it ends.
use Rattle.disk.specs.Slots.{Slots}
use Rattle.std.specs.Prelude.{◌≡◌, ◌⊎◌, ℕ, List, Option, codes}
use Rattle.std.specs.Io.KnownBytes.{Appends, Keeps}
use Rattle.store_fault.specs.declared.fault.StoreFault.TheVariants.{NoMemory}
use Rattle.server.specs.declared.ending.SocketEnd.{SocketEnd}
use Rattle.server.specs.declared.ending.SocketEnd.TheVariants.{Socket, InUse, Unlockable, Store}
use Rattle.server.specs.Program.{IsUnopenable}
use Rattle.wire.specs.Writing.{AppendsPart}

-- the line that says that the server accepts connections
abbrev pub ready_line : List ℕ
ready_line = codes "machipcd: ready\n"

-- An opened store is served, so its folder is locked. If the store fails while it is served, the whole line was written
-- before; if memory runs out before that, nothing is written. A server that ends in another way has written a prefix of
-- the line, maybe nothing.
abbrev pub HasReported : Option (List ℕ) → Option (List ℕ) → SocketEnd → Type 0
HasReported old new Socket = AppendsPart old new ready_line
HasReported old new InUse = ⊥
HasReported old new Unlockable = ⊥
HasReported old new (Store fault) = Appends old new ready_line ⊎ ((fault ≡ NoMemory) × Keeps old new)

-- The store on a disk with these slots is opened and served. If it can't be opened, nothing is written.
abbrev pub HasReportedOf : Type 0 → Slots → Option (List ℕ) → Option (List ℕ) → SocketEnd → Type 0
HasReportedOf honest slots old new Socket = HasReported old new Socket
HasReportedOf honest slots old new InUse = ⊥
HasReportedOf honest slots old new Unlockable = ⊥
HasReportedOf honest slots old new (Store fault) =
    HasReported old new (Store fault) ⊎ (IsUnopenable honest slots fault × Keeps old new)
