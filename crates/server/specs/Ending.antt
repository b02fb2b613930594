-- How a run of the program for many connections ends.
use Rattle.std.specs.Prelude.{ℕ, List, codes}
use Rattle.store_fault.specs.declared.fault.StoreFault.TheVariants.{Device}
use Rattle.server.specs.Program as lone
use Rattle.server.specs.declared.ending.SocketEnd.{SocketEnd}
use Rattle.server.specs.declared.ending.SocketEnd.TheVariants.{Socket, InUse, Unlockable, Store}
use Rattle.server.specs.declared.program.LoneEnd.TheVariants as lone_end
use Rattle.server.specs.declared.lock.LockFault.{LockFault}
use Rattle.server.specs.declared.lock.LockFault.TheVariants as lock
use Rattle.frame_service.specs.declared.service.ServeFault.TheVariants as serve_fault

-- the line of errors that a run ends with
abbrev pub line_of : SocketEnd → List ℕ
line_of Socket = codes "machipcd: socket\n"
line_of InUse = lone.line_of lone_end.InUse
line_of Unlockable = lone.line_of lone_end.Unlockable
line_of (Store fault) = lone.line_of (lone_end.Fault (serve_fault.Store fault))

-- how a run ends on a store whose folder isn't locked
abbrev pub unlocked_end : LockFault → SocketEnd
unlocked_end lock.InUse = InUse
unlocked_end lock.Unlockable = Unlockable
unlocked_end lock.Device = Store Device
