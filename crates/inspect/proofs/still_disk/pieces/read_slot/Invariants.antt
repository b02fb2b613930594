use Rattle.std.proofs.Common.{◌≡◌, length}
use Rattle.std.specs.Prelude.{◌-◌, ◌^◌}
use Rattle.disk.specs.Slots.{slot_of}
use Rattle.inspect.specs.still_disk.Live.{Copied}
use Rattle.inspect.proofs.still_disk.pieces.read_slot.Given as goal

-- the bytes read so far are the beginning of a copy
abbrev pub invariant-loop-bytes : goal.invariant-loop-bytes
invariant-loop-bytes g l = record {
  copied : g.S.LiveSlots.honest → Copied g.S.LiveSlots.later
      (λ m. slot_of (g.S.LiveSlots.slots m) l.slot) (g.S.LiveSlots.now l.fn.live)
      (g.S.LiveSlots.now l.live) l.bytes.items;
  later : g.S.LiveSlots.honest → g.S.LiveSlots.later (g.S.LiveSlots.now l.fn.live) (g.S.LiveSlots.now l.live);
  quiet : g.S.LiveSlots.failed l.live ≡ g.S.LiveSlots.failed l.fn.live;
}

abbrev pub decreases-loop-bytes : goal.decreases-loop-bytes
decreases-loop-bytes g l = 2 ^ 64 - length l.bytes.items
