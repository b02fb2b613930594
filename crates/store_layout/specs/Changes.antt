-- The changes of a store in use by the steps of a checkpoint, one slot at a time.
use Rattle.std.specs.Prelude.{ℕ, ◌+◌, ◌%◌, ◌^◌, ◌<◌, List, refl}
use Rattle.std.proofs.Common.{sym, ◌∙◌, ap, subst, inl, inr, arith}
use Rattle.disk.specs.Slots.{Slots, slot_of, with_slot}
use Rattle.ipc_laws.specs.RecoveryLaws.{image_header_is}
use Rattle.ipc_model.specs.declared.record.Record.{Record}
use Rattle.ipc_model.specs.state.State.{State}
use Rattle.ipc_model.specs.store.Recovery.{HoldsImage, IsOfEpoch}
use Rattle.ipc_model.specs.store.Store.{EncodesSegment, IsClosed}
use Rattle.slot_steps.specs.Steps.{IsClosing, image_slot, segment_slot}
use Rattle.slot_steps.proofs.Gates.{closed_not_open}
use Rattle.store_layout.specs.Standing.{IsPassedImage, IsPassedSegment, InOne, InTwo}
use Rattle.store_layout.specs.Slots.{own_image, own_segment, alongside_image, alongside_segment, alongside_next_segment, image_again, segment_again}

-- the segment in use gets other records
pub one_segment_changed : (s : Slots) (e : ℕ) (base : State) (records more : List Record) (x : List ℕ)
    → InOne s e base records → EncodesSegment e x more → InOne (with_slot s (segment_slot e) x) e base more
one_segment_changed s e base records more x old encoded = let others = alongside_segment s x e in record {
  fits = old.fits;
  image = subst (λ l. HoldsImage e l base) (sym others.0) old.image;
  segment = subst (λ l. EncodesSegment e l more) (sym (own_segment s x e)) encoded;
  other_image = subst (IsPassedImage e) (sym others.1) old.other_image;
  other_segment = subst (IsPassedSegment e) (sym others.2) old.other_segment;
}

-- the next segment's slot changes, and is still ignored
pub one_next_segment_changed : (s : Slots) (e : ℕ) (base : State) (records : List Record) (x : List ℕ)
    → InOne s e base records → IsPassedSegment e x → InOne (with_slot s (segment_slot (e + 1)) x) e base records
one_next_segment_changed s e base records x old passed = let others = alongside_next_segment s x e in record {
  fits = old.fits;
  image = subst (λ l. HoldsImage e l base) (sym others.0) old.image;
  segment = subst (λ l. EncodesSegment e l records) (sym others.2) old.segment;
  other_image = subst (IsPassedImage e) (sym others.1) old.other_image;
  other_segment = subst (IsPassedSegment e) (sym (own_segment s x (e + 1))) passed;
}

-- the next segment is opened
pub one_opened : (s : Slots) (e : ℕ) (base : State) (records next : List Record) (x : List ℕ) → InOne s e base records
    → e + 1 < 2 ^ 64 → EncodesSegment (e + 1) x next → InTwo (with_slot s (segment_slot (e + 1)) x) e base records next
one_opened s e base records next x old fits encoded = let others = alongside_next_segment s x e in record {
  fits = fits;
  image = subst (λ l. HoldsImage e l base) (sym others.0) old.image;
  segment = subst (λ l. EncodesSegment e l records) (sym others.2) old.segment;
  other_image = subst (IsPassedImage e) (sym others.1) old.other_image;
  next_segment = subst (λ l. EncodesSegment (e + 1) l next) (sym (own_segment s x (e + 1))) encoded;
}

-- the next image's slot changes, and is still ignored
pub one_image_changed : (s : Slots) (e : ℕ) (base : State) (records : List Record) (x : List ℕ) → InOne s e base records
    → IsPassedImage e x → InOne (with_slot s (image_slot (e + 1)) x) e base records
one_image_changed s e base records x old passed = let others = alongside_image s x e in record {
  fits = old.fits;
  image = subst (λ l. HoldsImage e l base) (sym others.0) old.image;
  segment = subst (λ l. EncodesSegment e l records) (sym others.1) old.segment;
  other_image = subst (IsPassedImage e) (sym (own_image s x (e + 1))) passed;
  other_segment = subst (IsPassedSegment e) (sym others.2) old.other_segment;
}

pub two_image_changed : (s : Slots) (e : ℕ) (base : State) (first next : List Record) (x : List ℕ)
    → InTwo s e base first next → IsPassedImage e x → InTwo (with_slot s (image_slot (e + 1)) x) e base first next
two_image_changed s e base first next x old passed = let others = alongside_image s x e in record {
  fits = old.fits;
  image = subst (λ l. HoldsImage e l base) (sym others.0) old.image;
  segment = subst (λ l. EncodesSegment e l first) (sym others.1) old.segment;
  other_image = subst (IsPassedImage e) (sym (own_image s x (e + 1))) passed;
  next_segment = subst (λ l. EncodesSegment (e + 1) l next) (sym others.2) old.next_segment;
}

-- the next segment gets other records
pub two_segment_changed : (s : Slots) (e : ℕ) (base : State) (first next more : List Record) (x : List ℕ)
    → InTwo s e base first next → EncodesSegment (e + 1) x more
    → InTwo (with_slot s (segment_slot (e + 1)) x) e base first more
two_segment_changed s e base first next more x old encoded = let others = alongside_next_segment s x e in record {
  fits = old.fits;
  image = subst (λ l. HoldsImage e l base) (sym others.0) old.image;
  segment = subst (λ l. EncodesSegment e l first) (sym others.2) old.segment;
  other_image = subst (IsPassedImage e) (sym others.1) old.other_image;
  next_segment = subst (λ l. EncodesSegment (e + 1) l more) (sym (own_segment s x (e + 1))) encoded;
}

-- the next image is finished: the store is in the next epoch, and the former slots are ignored
pub two_finished : (s : Slots) (e : ℕ) (base mid : State) (first next : List Record) (x : List ℕ)
    → InTwo s e base first next → HoldsImage (e + 1) x mid → InOne (with_slot s (image_slot (e + 1)) x) (e + 1) mid next
two_finished s e base mid first next x old image =
    let others = alongside_image s x e in
    let c : Slots = with_slot s (image_slot (e + 1)) x in
    let fits : e < 2 ^ 64 = omega (arith, old.fits) in
    let former = image_header_is e (slot_of s (image_slot e)) base fits old.image in
    let is_former : IsOfEpoch ((e + 1 + 1) % 2) e (slot_of s (image_slot e)) =
    record {
      version = former.version;
      rest = former.rest;
      encoding = former.encoding;
      fits = former.fits;
      of_number = omega (arith, former.of_number);
    } in
    record {
      fits = old.fits;
      image = subst (λ l. HoldsImage (e + 1) l mid) (sym (own_image s x (e + 1))) image;
      segment = subst (λ l. EncodesSegment (e + 1) l next) (sym others.2) old.next_segment;
      other_image =
          subst (IsPassedImage (e + 1)) (sym (ap (slot_of c) (image_again e) ∙ others.0))
          (inr (e, omega arith, is_former));
      other_segment = subst (IsPassedSegment (e + 1)) (sym (ap (slot_of c) (segment_again e) ∙ others.1))
          (inr (
            e,
            omega arith,
            record {
              version = old.segment.version;
              rest = old.segment.content;
              encoding = old.segment.encoding;
              fits = fits;
              of_number = refl;
            },
          ));
    }

-- A slot that is being closed, or isn't open, is still ignored.

pub closing_image : (e : ℕ) (before after : List ℕ) → IsClosing 24 before after → IsPassedImage e before
    → IsPassedImage e after
closing_image e before after closing passed =
    elim closing as (λ _. IsPassedImage e after)
    [ inl same ↦ subst (IsPassedImage e) (sym same) passed | inr shut ↦ inl shut ]

pub shut_image : (e : ℕ) (after : List ℕ) → IsClosed after → IsPassedImage e after
shut_image e after shut = inl (closed_not_open 24 after shut)

pub closing_segment : (e : ℕ) (before after : List ℕ) → IsClosing 16 before after → IsPassedSegment e before
    → IsPassedSegment e after
closing_segment e before after closing passed =
    elim closing as (λ _. IsPassedSegment e after)
    [ inl same ↦ subst (IsPassedSegment e) (sym same) passed | inr shut ↦ inl shut ]

pub shut_segment : (e : ℕ) (after : List ℕ) → IsClosed after → IsPassedSegment e after
shut_segment e after shut = inl (closed_not_open 16 after shut)
