-- The contents of a slot after a crash while a segment or an image is created in it.
use Rattle.std.specs.Prelude.{◌≡◌, ℕ, List, [], ◌∷◌, ◌++◌}
use Rattle.disk.specs.declared.slot.Slot.{Slot}
use Rattle.disk.specs.Slots.{Slots, slot_of, with_slot}
use Rattle.ipc_model.specs.store.Store.{open_gate, closed_gate, segment_header}

-- the slots differ at most in this one, whose bytes satisfy P
abbrev pub DiffersIn : Slots → Slot → (List ℕ → Type 0) → Slots → Type 0
DiffersIn before slot P c = P (slot_of c slot) × (c ≡ with_slot before slot (slot_of c slot))

-- an open segment of an epoch without batches, with a closed gate after its header
abbrev pub empty_segment : ℕ → List ℕ
empty_segment epoch = segment_header open_gate epoch ++ closed_gate ∷ []
