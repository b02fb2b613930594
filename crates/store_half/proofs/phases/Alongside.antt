-- Steps on a segment's slot, and on an image's slot of the same store.
use Rattle.std.proofs.Common.{◌≡◌, ℕ, ◌+◌, List, [], refl, sym, ap, subst, ◌∙◌}
use Rattle.std.specs.Prelude.{Bool, true, false, ◌%◌, ◌==◌, if◌then◌else◌}
use Rattle.disk.specs.declared.slot.Slot.{Slot}
use Rattle.disk.specs.declared.slot.Slot.TheVariants.{Image0, Image1, Segment0, Segment1}
use Rattle.disk.specs.Moments.{View, Passes, Follows, IsSynced}
use Rattle.disk.specs.Slots.{Slots, slot_of, with_slot}
use Rattle.ipc_model.specs.store.Store.{IsClosed}
use Rattle.store_half.specs.phases.Phases.{IsImaging, without_image}
use Rattle.recover.proofs.Rest.{IsAtRestBut, rest_after}
use Rattle.slot_steps.proofs.Following.{others_stay}
use Rattle.slot_steps.proofs.Lengths.{own_of}
use Rattle.slot_steps.specs.Steps.{IsShut, image_slot, segment_slot}
use Rattle.store_layout.specs.Standing.{IsPassedImage}

-- a fact about each image's slot with each segment's slot
each_pair : (P : Slot → Slot → Type 0) → P Image0 Segment0 → P Image0 Segment1 → P Image1 Segment0 → P Image1 Segment1
    → (a b : ℕ) → P (image_slot a) (segment_slot b)
each_pair P first second third last a b =
    elim (a % 2 == 0) as (λ (m : Bool). P (if m then Image0 else Image1) (segment_slot b)) [
      | true ↦ elim (b % 2 == 0) as (λ (n : Bool). P Image0 (if n then Segment0 else Segment1))
          [ true ↦ first | false ↦ second ]
      | false ↦ elim (b % 2 == 0) as (λ (n : Bool). P Image1 (if n then Segment0 else Segment1))
          [ true ↦ third | false ↦ last ]
    ]

pub segment_stays : (s : Slots) (x : List ℕ) (a b : ℕ)
    → slot_of (with_slot s (image_slot a) x) (segment_slot b) ≡ slot_of s (segment_slot b)
segment_stays s x = each_pair (λ i g. slot_of (with_slot s i x) g ≡ slot_of s g) refl refl refl refl

pub image_stays : (s : Slots) (x : List ℕ) (a b : ℕ)
    → slot_of (with_slot s (segment_slot b) x) (image_slot a) ≡ slot_of s (image_slot a)
image_stays s x = each_pair (λ i g. slot_of (with_slot s g x) i ≡ slot_of s i) refl refl refl refl

-- both slots are changed, in either order
pub both_changed : (s : Slots) (x y : List ℕ) (a b : ℕ)
    → with_slot (with_slot s (image_slot a) x) (segment_slot b) y
    ≡ with_slot (with_slot s (segment_slot b) y) (image_slot a) x
both_changed s x y =
    each_pair (λ i g. with_slot (with_slot s i x) g y ≡ with_slot (with_slot s g y) i x) refl refl refl refl

-- a step on a segment's slot that ends with its sync
module _ (old new : View) (b : ℕ) (step : List ℕ → List ℕ → Type 0) (bytes : List ℕ)
    (time : Passes old new (Follows old (segment_slot b) step))
    (is : new.seen ≡ with_slot old.seen (segment_slot b) bytes) (synced : IsSynced new (segment_slot b)) where
  seen_stays : (a : ℕ) → slot_of new.seen (image_slot a) ≡ slot_of old.seen (image_slot a)
  seen_stays a = ap (λ (s : Slots). slot_of s (image_slot a)) is ∙ image_stays old.seen bytes a b

  left_stays : (a : ℕ) (c d : Slots) → c ≡ with_slot d (segment_slot b) (slot_of c (segment_slot b))
      → slot_of c (image_slot a) ≡ slot_of d (image_slot a)
  left_stays a c d made =
      ap (λ (s : Slots). slot_of s (image_slot a)) made ∙ image_stays d (slot_of c (segment_slot b)) a b

  rest_but_alongside : (a : ℕ) → IsAtRestBut (image_slot a) old → IsAtRestBut (image_slot a) new
  rest_but_alongside a rest c left =
      let before = others_stay (segment_slot b) old new step time c left in
      let d : Slots = before.0 in
      let x : List ℕ = slot_of d (image_slot a) in
      let own : slot_of c (segment_slot b) ≡ bytes =
      synced c left ∙ own_of (segment_slot b) old.seen new.seen bytes is in
      before.2 ∙ ap (λ (l : List ℕ). with_slot d (segment_slot b) l) own ∙ ap
      (λ (s : Slots). with_slot s (segment_slot b) bytes) (rest d before.1) ∙ both_changed old.seen x bytes a b
      ∙ ap (λ (s : Slots). with_slot s (image_slot a) x) (sym is) ∙ ap
      (λ (l : List ℕ). with_slot new.seen (image_slot a) l) (sym (left_stays a c d before.2))

  shut_alongside : (a : ℕ) → IsShut old (image_slot a) → IsShut new (image_slot a)
  shut_alongside a shut c left =
      let before = others_stay (segment_slot b) old new step time c left in
      subst IsClosed (sym (left_stays a c before.0 before.2)) (shut before.0 before.1)

  pub imaging_alongside : (epoch imaged : ℕ) → IsImaging old epoch imaged → IsImaging new epoch imaged
  imaging_alongside epoch imaged imaging = record {
    rest = rest_but_alongside (epoch + 1) imaging.rest;
    untouched = λ none. rest_after (segment_slot b) old new step bytes time is synced (imaging.untouched none);
    passed = λ none. subst (IsPassedImage epoch) (sym (seen_stays (epoch + 1))) (imaging.passed none);
    shut = λ some. shut_alongside (epoch + 1) (imaging.shut some);
  }

  pub without_alongside : (epoch : ℕ)
      → without_image new epoch ≡ with_slot (without_image old epoch) (segment_slot b) bytes
  without_alongside epoch =
      ap (λ (s : Slots). with_slot s (image_slot (epoch + 1)) []) is
      ∙ sym (both_changed old.seen [] bytes (epoch + 1) b)
