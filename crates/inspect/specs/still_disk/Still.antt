-- A copy in memory as contracts see it.
use Rattle.std.specs.Prelude.{◌≡◌}
use Rattle.disk.specs.Moments.{View}
use Rattle.disk.specs.Slots.{Slots}
use Rattle.inspect.specs.declared.still_disk.still.StillDisk.{StillDisk}

-- the bytes of the four slots
abbrev pub still_slots : StillDisk → Slots
still_slots copy = record {
  image0 = copy.image0.items;
  image1 = copy.image1.items;
  segment0 = copy.segment0.items;
  segment1 = copy.segment1.items;
}

-- the disk over time, which never changes: reads and crashes give these bytes
abbrev pub still_view : StillDisk → View
still_view copy = record { seen = still_slots copy; moment = 0; left_at = λ k c. c ≡ still_slots copy }
