-- The steps on one slot of a store: its gate is closed, the bytes after the gate are written, and the gate is opened.
use Rattle.std.specs.Prelude.{◌≡◌, ◌⊎◌, ℕ, ◌≤◌, ◌<◌, ◌%◌, ◌-◌, ◌==◌, max, List, ◌∷◌, length, take, drop, if◌then◌else◌}
use Rattle.disk.specs.declared.slot.Slot.{Slot}
use Rattle.disk.specs.declared.slot.Slot.TheVariants.{Image0, Image1, Segment0, Segment1}
use Rattle.disk.specs.Moments.{View, MayLeave, IsSynced, ReadsOnly}
use Rattle.disk.specs.Slots.{Slots, slot_of, with_slot}
use Rattle.ipc_model.specs.store.Recovery.{IsNotOpen, IsOpen}
use Rattle.ipc_model.specs.store.Store.{IsClosed, closed_gate}

-- the slots that an epoch uses
abbrev pub image_slot : ℕ → Slot
image_slot epoch = if epoch % 2 == 0 then Image0 else Image1

abbrev pub segment_slot : ℕ → Slot
segment_slot epoch = if epoch % 2 == 0 then Segment0 else Segment1

-- a crash leaves no open gate in this slot
abbrev pub IsShut : View → Slot → Type 0
IsShut disk slot = (c : Slots) → MayLeave disk c → IsClosed (slot_of c slot)

-- The slot after a crash interrupted a write after a closed gate.
abbrev pub IsStillClosed : List ℕ → List ℕ → Type 0
IsStillClosed before after = IsClosed after

-- The slot after a crash interrupted the write of its gate: it has any byte as its gate, or none if the slot was empty.
-- The bytes after the gate are unchanged.
pub record HasSomeGate (before after : List ℕ) : Type 0 where
  pub beyond : drop 1 after ≡ drop 1 before
  pub no_shorter : length before ≤ length after
  pub no_longer : length after ≤ max (length before) 1

-- a slot that is being closed is unchanged, or isn't open
abbrev pub IsClosing : ℕ → List ℕ → List ℕ → Type 0
IsClosing header before after = (after ≡ before) ⊎ IsNotOpen header after

-- a slot that gets new content is unchanged, or isn't open, or holds the whole content
abbrev pub IsRemade : ℕ → List ℕ → List ℕ → List ℕ → Type 0
IsRemade header content before after = IsClosing header before after ⊎ (after ≡ content)

-- the length of a slot after a truncation by at most `most` bytes that keeps its header
abbrev pub shortened : ℕ → ℕ → ℕ → ℕ
shortened header most length = max header (length - most)

-- An open gate is closed, or a slot that isn't open is truncated.
abbrev pub IsClearing : ℕ → ℕ → List ℕ → List ℕ → Type 0
IsClearing header most before after =
    (IsOpen header before × (after ≡ closed_gate ∷ drop 1 before))
    ⊎ (IsNotOpen header before × (header < length before)
    × (after ≡ take (shortened header most (length before)) before))

-- A step that clears a slot. The other slots are unchanged.
pub record ClearsSlot (header most : ℕ) (old new : View) (slot : Slot) : Type 0 where
  pub step : IsClearing header most (slot_of old.seen slot) (slot_of new.seen slot)
  pub closed : IsClosed (slot_of new.seen slot)
  pub others : new.seen ≡ with_slot old.seen slot (slot_of new.seen slot)
  pub synced : IsSynced new slot

-- No such step is left: the slot isn't open, and no byte follows its header. Nothing is written.
pub record FindsSlotClear (header : ℕ) (old new : View) (slot : Slot) : Type 0 where
  pub shut : IsNotOpen header (slot_of old.seen slot)
  pub short : length (slot_of old.seen slot) ≤ header
  pub reads : ReadsOnly old new
