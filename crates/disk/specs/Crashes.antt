-- What calls make of the post-crash contents, call by call.
use Rattle.std.specs.Prelude.{◌≡◌, ℕ, List, length}
use Rattle.disk.specs.declared.log.LoggedCall.{LoggedCall}
use Rattle.disk.specs.declared.log.LoggedCall.TheVariants.{Write, Cut, Sync}
use Rattle.disk.specs.Slots.{Slots, slot_of, with_slot, TornWrite, TornCut}
use Rattle.disk.specs.Log.{within}

-- A crash might have left `old` before a call, where a read gave `seen`, and may leave `new` after it. A sync brings
-- what a read gives into its slot.
abbrev pub Tears : LoggedCall → Slots → Slots → Slots → Type 0
Tears (Write slot at bytes is_done) seen old new =
    (y : List ℕ) × TornWrite (within seen slot at) (length bytes.items) (slot_of old slot) y
    × (new ≡ with_slot old slot y)
Tears (Cut slot len is_done) seen old new =
    (y : List ℕ) × TornCut len (slot_of old slot) y × (new ≡ with_slot old slot y)
Tears (Sync slot) seen old new = new ≡ with_slot old slot (slot_of seen slot)
