-- The bytes of a plain disk.
use Rattle.std.specs.Prelude.{ℕ, List}
use Rattle.disk.specs.declared.slot.Slot.{Slot}
use Rattle.disk.specs.declared.slot.Slot.TheVariants.{Image0, Image1, Segment0, Segment1}
use Rattle.plain_disk.specs.declared.plain.PlainDisk.{PlainDisk}

abbrev pub bytes_of : PlainDisk → Slot → List ℕ
bytes_of plain Image0 = plain.image0.items
bytes_of plain Image1 = plain.image1.items
bytes_of plain Segment0 = plain.segment0.items
bytes_of plain Segment1 = plain.segment1.items
