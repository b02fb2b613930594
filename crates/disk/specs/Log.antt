-- A log of calls: what a read gives after it, and the post-crash contents after it.
use Rattle.std.specs.Prelude.{◌≡◌, ℕ, List, [], ◌∷◌, min, length, take, if◌then◌else◌}
use Rattle.disk.specs.declared.slot.Slot.{Slot}
use Rattle.disk.specs.declared.log.Contents.{Contents}
use Rattle.disk.specs.declared.log.LoggedCall.{LoggedCall}
use Rattle.disk.specs.declared.log.LoggedCall.TheVariants.{Write, Cut, Sync}
use Rattle.disk.specs.Slots.{Slots, slot_of, with_slot, written_at, TornWrite, TornCut}
use Rattle.disk.specs.Moments.{View}

-- the bytes of the four slots
abbrev pub slots_of : Contents → Slots
slots_of contents = record {
  image0 = contents.image0.items;
  image1 = contents.image1.items;
  segment0 = contents.segment0.items;
  segment1 = contents.segment1.items;
}

-- where a write begins: at the slot's end at most
abbrev pub within : Slots → Slot → ℕ → ℕ
within seen slot at = min at (length (slot_of seen slot))

-- what a read gives after a call
abbrev pub seen_after : LoggedCall → Slots → Slots
seen_after (Write slot at bytes is_done) seen =
    if is_done then with_slot seen slot (written_at (slot_of seen slot) (within seen slot at) bytes.items) else seen
seen_after (Cut slot len is_done) seen = if is_done then with_slot seen slot (take len (slot_of seen slot)) else seen
seen_after (Sync slot) seen = seen

-- The post-crash contents after a call. Before it, a read gave `seen` and the post-crash contents were those that
-- satisfy P.
abbrev pub left_after : LoggedCall → Slots → (Slots → Type 0) → Slots → Type 0
left_after (Write slot at bytes is_done) seen P c =
    (d : Slots) × P d × TornWrite (within seen slot at) (length bytes.items) (slot_of d slot) (slot_of c slot)
    × (c ≡ with_slot d slot (slot_of c slot))
left_after (Cut slot len is_done) seen P c =
    (d : Slots) × P d × TornCut len (slot_of d slot) (slot_of c slot) × (c ≡ with_slot d slot (slot_of c slot))
left_after (Sync slot) seen P c = P c × (slot_of c slot ≡ slot_of seen slot)

-- what a read gives after these calls
unfoldable pub replayed : Slots → List LoggedCall → Slots
replayed seen [] = seen
replayed seen (call ∷ calls) = replayed (seen_after call seen) calls

-- the post-crash contents after these calls
unfoldable pub outcomes : (Slots → Type 0) → Slots → List LoggedCall → Slots → Type 0
outcomes P seen [] c = P c
outcomes P seen (call ∷ calls) c = outcomes (left_after call seen P) (seen_after call seen) calls c

-- The disk over time, if it first held `first`, and `log` has the calls since then: moment k is after the first k of
-- them.
abbrev pub view_of : Slots → List LoggedCall → Slots → View
view_of first log seen = record {
  seen = seen;
  moment = length log;
  left_at = λ k c. outcomes (λ d. d ≡ first) first (take k log) c;
}
