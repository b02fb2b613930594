-- The piece of a slot that a reader holds in memory.
use Rattle.std.specs.Prelude.{◌≡◌, ◌⊎◌, ℕ, ◌+◌, ◌≤◌, List, length, take, drop}
use Rattle.disk.specs.declared.slot.Slot.{Slot}
use Rattle.journal.specs.declared.window.TheConstants.{LONGEST_STEP}

-- A window over a slot: its offset, the bytes that were read from there on, the room for bytes, and the length of the
-- slot.
pub record WindowValue : Type 0 where
  pub slot : Slot
  pub at : ℕ
  pub front : List ℕ
  pub room : ℕ
  pub end : ℕ

-- The window holds bytes of this slot from its offset on, and has room for a reader's longest step or for the whole
-- slot.
pub record IsOver (bytes : List ℕ) (window : WindowValue) : Type 0 where
  pub ended : window.end ≡ length bytes
  pub inside : window.at + length window.front ≤ length bytes
  pub shown : window.front ≡ take (length window.front) (drop window.at bytes)
  pub room : (LONGEST_STEP ≤ window.room) ⊎ (length bytes ≤ window.room)

-- The window holds as many bytes as a reader's longest step needs, or all that remain.
abbrev pub IsFull : WindowValue → Type 0
IsFull window = (LONGEST_STEP ≤ length window.front) ⊎ (window.at + length window.front ≡ window.end)
