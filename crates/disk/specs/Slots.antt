-- What the four slots of a store hold, and what one call does to a slot.
use Rattle.std.specs.Prelude.{◌≡◌, ℕ, ◌+◌, ◌≤◌, min, max, List, [], ◌++◌, length, take, drop, codes}
use Rattle.disk.specs.declared.slot.Slot.{Slot}
use Rattle.disk.specs.declared.slot.Slot.TheVariants.{Image0, Image1, Segment0, Segment1}

-- the bytes of the four slots
pub record Slots : Type 0 where
  pub image0 : List ℕ
  pub image1 : List ℕ
  pub segment0 : List ℕ
  pub segment1 : List ℕ

-- no bytes in any slot
abbrev pub empty_slots : Slots
empty_slots = record { image0 = []; image1 = []; segment0 = []; segment1 = [] }

-- the bytes of one slot
abbrev pub slot_of : Slots → Slot → List ℕ
slot_of slots Image0 = slots.image0
slot_of slots Image1 = slots.image1
slot_of slots Segment0 = slots.segment0
slot_of slots Segment1 = slots.segment1

-- the name of the file that keeps a slot
abbrev pub file_name : Slot → List ℕ
file_name Image0 = codes "image0"
file_name Image1 = codes "image1"
file_name Segment0 = codes "segment0"
file_name Segment1 = codes "segment1"

-- the slots with other bytes in one of them
abbrev pub with_slot : Slots → Slot → List ℕ → Slots
with_slot slots Image0 bytes = record slots { image0 = bytes }
with_slot slots Image1 bytes = record slots { image1 = bytes }
with_slot slots Segment0 bytes = record slots { segment0 = bytes }
with_slot slots Segment1 bytes = record slots { segment1 = bytes }

-- a slot's bytes after these were written over what stood from `at` on, and past the end
abbrev pub written_at : List ℕ → ℕ → List ℕ → List ℕ
written_at old at bytes = take at old ++ bytes ++ drop (at + length bytes) old

-- After a write of n bytes from `at` on that a crash may have interrupted: any bytes in that range and past the old
-- end, the same bytes elsewhere, and a length between those before and after.
pub record TornWrite (at n : ℕ) (old new : List ℕ) : Type 0 where
  pub before : take at new ≡ take at old
  pub after : drop (at + n) new ≡ drop (at + n) old
  pub no_shorter : length old ≤ length new
  pub no_longer : length new ≤ max (length old) (at + n)

-- After a truncation to n bytes that a crash may have interrupted: a length between, and any bytes past n. The
-- post-crash contents before the truncation may be shorter than n, where an earlier write is lost; then they stay as
-- they are.
pub record TornCut (n : ℕ) (old new : List ℕ) : Type 0 where
  pub front : take n new ≡ take n old
  pub no_shorter : min n (length old) ≤ length new
  pub no_longer : length new ≤ length old
