-- A disk in memory, as the model sees it.
use Rattle.std.specs.Prelude.{◌≡◌, ◌↔◌, ℕ}
use Rattle.disk.specs.declared.memory.MemDisk.{MemDisk}
use Rattle.disk.specs.Log.{slots_of, view_of}
use Rattle.disk.specs.declared.plan.Plan.{Plan}
use Rattle.disk.specs.Plan.{no_plan}
use Rattle.disk.specs.Moments.{View, MayLeave}
use Rattle.disk.specs.Slots.{Slots}

-- the disk over time
abbrev pub memory_view : MemDisk → View
memory_view disk = view_of (slots_of disk.first) disk.log.items (slots_of disk.seen)

-- which calls are planned to fail
abbrev pub plan_of : MemDisk → Plan
plan_of disk = disk.plan

-- A read gives this, a crash leaves only this, and no call has failed or is planned to.
pub record IsAtRest (disk : MemDisk) (slots : Slots) : Type 0 where
  pub seen : (memory_view disk).seen ≡ slots
  pub left : (c : Slots) → MayLeave (memory_view disk) c → c ≡ slots
  pub unfailing : disk.failures ≡ 0
  pub unplanned : plan_of disk ≡ no_plan

-- A read gives the same, the post-crash contents at each moment are the same, and no more calls have failed.
pub record IsUnchanged (old new : MemDisk) : Type 0 where
  pub seen : (memory_view new).seen ≡ (memory_view old).seen
  pub moment : (memory_view new).moment ≡ (memory_view old).moment
  pub left_at : (k : ℕ) (c : Slots) → (memory_view new).left_at k c ↔ (memory_view old).left_at k c
  pub failures : new.failures ≡ old.failures
