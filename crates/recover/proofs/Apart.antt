-- The slots of images and of segments differ.
use Rattle.std.proofs.Common.{◌≡◌, ◌≤◌, ◌==◌, ◌%◌, ℕ, Bool, true, false, List, length, refl, sym, subst}
use Rattle.std.specs.Prelude.{if◌then◌else◌}
use Rattle.disk.specs.Slots.{Slots, slot_of, with_slot}
use Rattle.disk.specs.declared.slot.Slot.{Slot}
use Rattle.disk.specs.declared.slot.Slot.TheVariants.{Image0, Image1, Segment0, Segment1}
use Rattle.slot_steps.specs.Steps.{image_slot, segment_slot}

by_parity : (a b : Bool) (d : Slots) (bytes : List ℕ)
    → slot_of (with_slot d (if a then Image0 else Image1) bytes) (if b then Segment0 else Segment1)
    ≡ slot_of d (if b then Segment0 else Segment1)
by_parity true true d bytes = refl
by_parity true false d bytes = refl
by_parity false true d bytes = refl
by_parity false false d bytes = refl

-- The bytes within a segment are unchanged when an image is written.
pub stays_inside : (e f end : ℕ) (slot : Slot) (first mid written : Slots) (bytes : List ℕ) → slot ≡ segment_slot f
    → end ≤ length (slot_of first slot) → mid ≡ first → written ≡ with_slot mid (image_slot e) bytes
    → end ≤ length (slot_of written slot)
stays_inside e f end slot first mid written bytes at inside same made =
    subst (λ (s : Slot). end ≤ length (slot_of written s)) (sym at)
    (subst (λ (w : Slots). end ≤ length (slot_of w (segment_slot f))) (sym made)
    (subst (λ (l : List ℕ). end ≤ length l) (sym (by_parity (e % 2 == 0) (f % 2 == 0) mid bytes))
    (subst (λ (d : Slots). end ≤ length (slot_of d (segment_slot f))) (sym same)
    (subst (λ (s : Slot). end ≤ length (slot_of first s)) at inside))))
