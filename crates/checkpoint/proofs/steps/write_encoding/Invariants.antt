use Rattle.std.proofs.Common.{◌≡◌}
use Rattle.disk.specs.Moments.{Passes, Follows}
use Rattle.disk.specs.Slots.{slot_of, with_slot}
use Rattle.checkpoint.specs.Images.{HoldsAfter, first_pieces}
use Rattle.slot_steps.specs.Steps.{IsShut, IsStillClosed}
use Rattle.checkpoint.proofs.steps.write_encoding.Given as goal

abbrev pub invariant-loop-piece : goal.invariant-loop-piece
invariant-loop-piece g l = record {
  held : g.D.Disk.honest → HoldsAfter (slot_of (g.D.Disk.view l.disk).seen l.slot) (first_pieces l.piece l.encoding);
  others : g.D.Disk.honest → (g.D.Disk.view l.disk).seen
      ≡ with_slot (g.D.Disk.view l.fn.disk).seen l.slot (slot_of (g.D.Disk.view l.disk).seen l.slot);
  shut : g.D.Disk.honest → IsShut (g.D.Disk.view l.fn.disk) l.slot → IsShut (g.D.Disk.view l.disk) l.slot;
  passed : g.D.Disk.honest → IsShut (g.D.Disk.view l.fn.disk) l.slot
      → Passes (g.D.Disk.view l.fn.disk) (g.D.Disk.view l.disk)
      (Follows (g.D.Disk.view l.fn.disk) l.slot IsStillClosed);
  quiet : g.D.Disk.failed_calls l.disk ≡ g.D.Disk.failed_calls l.fn.disk;
}
