use Rattle.std.proofs.Common.{◌-◌}
use Rattle.disk.specs.Slots.{slot_of}
use Rattle.journal.specs.Reading.{MAX_RECORDS}
use Rattle.journal.specs.Windows.{IsOver}
use Rattle.store_tests.proofs.streams.read_all.Given as goal

-- the reader's window is over the disk's slot
abbrev pub invariant-loop-records : goal.invariant-loop-records
invariant-loop-records g l =
    g.D.Disk.honest → IsOver (slot_of (g.D.Disk.view l.disk).seen l.reader.window.slot) l.reader.window

abbrev pub decreases-loop-records : goal.decreases-loop-records
decreases-loop-records g l = MAX_RECORDS - l.reader.number
