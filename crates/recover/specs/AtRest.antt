-- Disks whose slots are all synced.
use Rattle.std.specs.Prelude.{◌≡◌}
use Rattle.disk.specs.Moments.{View, MayLeave}
use Rattle.disk.specs.Slots.{Slots}

-- a crash leaves exactly the contents that reads return
abbrev pub IsAtRest : View → Type 0
IsAtRest disk = (c : Slots) → MayLeave disk c → c ≡ disk.seen
