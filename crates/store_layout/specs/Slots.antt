-- The slots of successive epochs.
use Rattle.std.specs.Prelude.{◌≡◌, ◌⊎◌, ℕ, ◌+◌, ◌%◌, ◌<◌, ◌==◌, List, if◌then◌else◌, refl}
use Rattle.std.proofs.Common.{sym, ap, subst, inl, inr, arith}
use Rattle.std.proofs.lemmas.Bool.{cases_eq}
use Rattle.disk.specs.declared.slot.Slot.{Slot}
use Rattle.disk.specs.declared.slot.Slot.TheVariants.{Image0, Image1, Segment0, Segment1}
use Rattle.disk.specs.Slots.{Slots, slot_of, with_slot}
use Rattle.slot_steps.specs.Steps.{image_slot, segment_slot}
use Rattle.store_layout.specs.Standing.{as_written}

-- of two successive epochs one is even and the other odd
parity : (e : ℕ) → ((e % 2 ≡ 0) × ((e + 1) % 2 ≡ 1)) ⊎ ((e % 2 ≡ 1) × ((e + 1) % 2 ≡ 0))
parity e = elim (cases_eq (e % 2) 0) as (λ _. ((e % 2 ≡ 0) × ((e + 1) % 2 ≡ 1)) ⊎ ((e % 2 ≡ 1) × ((e + 1) % 2 ≡ 0))) [
  | inl even ↦ inl (even, omega arith)
  | inr odd ↦ inr (omega arith, omega arith)
]

-- a fact about the slots of even and of odd epochs holds of each epoch's
pub by_parity : (P : Slot → Slot → Slot → Slot → Type 0) → P Image0 Image1 Segment0 Segment1
    → P Image1 Image0 Segment1 Segment0
    → (e : ℕ) → P (image_slot e) (image_slot (e + 1)) (segment_slot e) (segment_slot (e + 1))
by_parity P even odd e =
    let Q : ℕ → ℕ → Type 0 =
    λ n m. P (if n == 0 then Image0 else Image1) (if m == 0 then Image0 else Image1)
    (if n == 0 then Segment0 else Segment1) (if m == 0 then Segment0 else Segment1) in
    elim (parity e) as (λ _. Q (e % 2) ((e + 1) % 2)) [
      | inl p ↦ subst (λ n. Q n ((e + 1) % 2)) (sym p.0) (subst (λ m. Q 0 m) (sym p.1) even)
      | inr p ↦ subst (λ n. Q n ((e + 1) % 2)) (sym p.0) (subst (λ m. Q 1 m) (sym p.1) odd)
    ]

-- the slots of an epoch, by their numbers
pub image_at : (s : Slots) (e : ℕ) → (as_written s).image (e % 2) ≡ slot_of s (image_slot e)
image_at s e =
    let Q : ℕ → Type 0 = λ n. (if n == 0 then s.image0 else s.image1) ≡ slot_of s (if n == 0 then Image0 else Image1) in
    elim (parity e) as (λ _. Q (e % 2)) [ inl p ↦ subst Q (sym p.0) refl | inr p ↦ subst Q (sym p.0) refl ]

pub segment_at : (s : Slots) (e : ℕ) → (as_written s).segment (e % 2) ≡ slot_of s (segment_slot e)
segment_at s e =
    let Q : ℕ → Type 0 =
    λ n. (if n == 0 then s.segment0 else s.segment1) ≡ slot_of s (if n == 0 then Segment0 else Segment1) in
    elim (parity e) as (λ _. Q (e % 2)) [ inl p ↦ subst Q (sym p.0) refl | inr p ↦ subst Q (sym p.0) refl ]

-- the slots of an epoch are those of the epoch two later
pub image_again : (e : ℕ) → image_slot (e + 1 + 1) ≡ image_slot e
image_again e = let same : (e + 1 + 1) % 2 ≡ e % 2 = omega arith in ap (λ n. if n == 0 then Image0 else Image1) same

pub segment_again : (e : ℕ) → segment_slot (e + 1 + 1) ≡ segment_slot e
segment_again e =
    let same : (e + 1 + 1) % 2 ≡ e % 2 = omega arith in ap (λ n. if n == 0 then Segment0 else Segment1) same

-- 0 and 1 are the numbers of the slots of successive epochs
pub one_of_two : (e number : ℕ) → number < 2 → (number ≡ e % 2) ⊎ (number ≡ (e + 1) % 2)
one_of_two e number small = elim (parity e) as (λ _. (number ≡ e % 2) ⊎ (number ≡ (e + 1) % 2)) [
  | inl p ↦ elim (cases_eq number 0) as (λ _. (number ≡ e % 2) ⊎ (number ≡ (e + 1) % 2))
      [ inl is ↦ inl (omega arith) | inr not_is ↦ inr (omega arith) ]
  | inr p ↦ elim (cases_eq number 0) as (λ _. (number ≡ e % 2) ⊎ (number ≡ (e + 1) % 2))
      [ inl is ↦ inr (omega arith) | inr not_is ↦ inl (omega arith) ]
]

-- One slot was changed, and the others are unchanged.

pub own_image : (s : Slots) (x : List ℕ) (e : ℕ) → slot_of (with_slot s (image_slot e) x) (image_slot e) ≡ x
own_image s x = by_parity (λ a b c d. slot_of (with_slot s a x) a ≡ x) refl refl

pub own_segment : (s : Slots) (x : List ℕ) (e : ℕ) → slot_of (with_slot s (segment_slot e) x) (segment_slot e) ≡ x
own_segment s x = by_parity (λ a b c d. slot_of (with_slot s c x) c ≡ x) refl refl

-- a change of an image's slot leaves the other slots unchanged
pub alongside_image : (s : Slots) (x : List ℕ) (e : ℕ)
    → (slot_of (with_slot s (image_slot (e + 1)) x) (image_slot e) ≡ slot_of s (image_slot e))
    × (slot_of (with_slot s (image_slot (e + 1)) x) (segment_slot e) ≡ slot_of s (segment_slot e))
    × (slot_of (with_slot s (image_slot (e + 1)) x) (segment_slot (e + 1)) ≡ slot_of s (segment_slot (e + 1)))
alongside_image s x =
    by_parity (λ a b c d. (slot_of (with_slot s b x) a ≡ slot_of s a) × (slot_of (with_slot s b x) c ≡ slot_of s c)
    × (slot_of (with_slot s b x) d ≡ slot_of s d)) (refl, refl, refl) (refl, refl, refl)

-- a change of a segment's slot leaves the other slots unchanged
pub alongside_segment : (s : Slots) (x : List ℕ) (e : ℕ)
    → (slot_of (with_slot s (segment_slot e) x) (image_slot e) ≡ slot_of s (image_slot e))
    × (slot_of (with_slot s (segment_slot e) x) (image_slot (e + 1)) ≡ slot_of s (image_slot (e + 1)))
    × (slot_of (with_slot s (segment_slot e) x) (segment_slot (e + 1)) ≡ slot_of s (segment_slot (e + 1)))
alongside_segment s x =
    by_parity (λ a b c d. (slot_of (with_slot s c x) a ≡ slot_of s a) × (slot_of (with_slot s c x) b ≡ slot_of s b)
    × (slot_of (with_slot s c x) d ≡ slot_of s d)) (refl, refl, refl) (refl, refl, refl)

pub alongside_next_segment : (s : Slots) (x : List ℕ) (e : ℕ)
    → (slot_of (with_slot s (segment_slot (e + 1)) x) (image_slot e) ≡ slot_of s (image_slot e))
    × (slot_of (with_slot s (segment_slot (e + 1)) x) (image_slot (e + 1)) ≡ slot_of s (image_slot (e + 1)))
    × (slot_of (with_slot s (segment_slot (e + 1)) x) (segment_slot e) ≡ slot_of s (segment_slot e))
alongside_next_segment s x =
    by_parity (λ a b c d. (slot_of (with_slot s d x) a ≡ slot_of s a) × (slot_of (with_slot s d x) b ≡ slot_of s b)
    × (slot_of (with_slot s d x) c ≡ slot_of s c)) (refl, refl, refl) (refl, refl, refl)
