use Rattle.std.proofs.Common.{◌≡◌, ◌-◌}
use Rattle.disk.specs.Moments.{MayLeave, Passes}
use Rattle.disk.specs.Slots.{slot_of}
use Rattle.journal.specs.Readers.{place_of}
use Rattle.journal.specs.Reading.{MAX_RECORDS}
use Rattle.journal.specs.Windows.{IsOver}
use Rattle.recover.proofs.Streams.{IsLeft}
use Rattle.recover.proofs.reading.replay_all.Given as goal

-- the remaining records lead to the same result as all records, and the disk is unchanged
abbrev pub invariant-loop-now : goal.invariant-loop-now
invariant-loop-now g l = record {
  left : g.D.Disk.honest → IsLeft l.fn.version (slot_of (g.D.Disk.view l.fn.disk).seen l.fn.slot) (place_of l.fn.reader)
      (place_of l.reader) l.fn.kernel l.state;
  over : g.D.Disk.honest → IsOver (slot_of (g.D.Disk.view l.fn.disk).seen l.fn.slot) l.reader.window;
  slot : l.reader.window.slot ≡ l.fn.slot;
  seen : g.D.Disk.honest → (g.D.Disk.view l.disk).seen ≡ (g.D.Disk.view l.fn.disk).seen;
  time : g.D.Disk.honest → Passes (g.D.Disk.view l.fn.disk) (g.D.Disk.view l.disk) (MayLeave (g.D.Disk.view l.fn.disk));
  quiet : g.D.Disk.failed_calls l.disk ≡ g.D.Disk.failed_calls l.fn.disk;
}

abbrev pub decreases-loop-now : goal.decreases-loop-now
decreases-loop-now g l = MAX_RECORDS - l.reader.number
