-- The state that a store in use encodes.
use Rattle.std.specs.Prelude.{◌≡◌, ℕ, ◌+◌, ◌%◌, ◌^◌, ◌<◌, ◌≤◌, List, [], ◌++◌, refl}
use Rattle.std.proofs.Common.{sym, ◌∙◌, subst, inl, inr, arith}
use Rattle.std.proofs.lemmas.List.{append-nil}
use Rattle.disk.specs.Slots.{Slots, slot_of}
use Rattle.ipc_laws.specs.RecoveryLaws.{image_header_is, one_epoch}
use Rattle.ipc_model.specs.declared.record.Record.{Record}
use Rattle.ipc_model.specs.state.State.{State}
use Rattle.ipc_model.specs.store.Recovery.{Continues, HasHeader, HoldsImage, IsOfEpoch, IsOpen, Encodes, image_header, segment_header_length}
use Rattle.ipc_model.specs.store.Store.{EncodesSegment}
use Rattle.slot_steps.specs.Steps.{image_slot, segment_slot}
use Rattle.store_layout.specs.Standing.{as_written, IsPassedImage, IsPassedSegment, InOne, InTwo}
use Rattle.store_layout.specs.Slots.{image_at, segment_at, one_of_two}

-- the header of a segment that encodes records
pub segment_header_is : (e : ℕ) (slot : List ℕ) (records : List Record) → e < 2 ^ 64 → EncodesSegment e slot records
    → IsOfEpoch (e % 2) e slot
segment_header_is e slot records fits encoded =
    record {
      version = encoded.version;
      rest = encoded.content;
      encoding = encoded.encoding;
      fits = fits;
      of_number = refl;
    }

with_number : (m n e : ℕ) (slot : List ℕ) → n ≡ m → IsOfEpoch m e slot → IsOfEpoch n e slot
with_number m n e slot same is =
    record {
      version = is.version;
      rest = is.rest;
      encoding = is.encoding;
      fits = is.fits;
      of_number = is.of_number ∙ sym same;
    }

-- Facts about all slots together: the image and the segment of an epoch are open, and the other image is ignored.
module _ (s : Slots) (e : ℕ) (base : State) (first : List Record) (fits : e < 2 ^ 64)
    (image : HoldsImage e (slot_of s (image_slot e)) base)
    (segment : EncodesSegment e (slot_of s (segment_slot e)) first)
    (other_image : IsPassedImage e (slot_of s (image_slot (e + 1)))) where
  own_image_header : HasHeader image_header (e % 2) ((as_written s).image (e % 2))
  own_image_header is_open = (
    e,
    subst (IsOfEpoch (e % 2) e) (sym (image_at s e))
        (image_header_is e (slot_of s (image_slot e)) base fits image),
  )

  other_image_header : HasHeader image_header ((e + 1) % 2) ((as_written s).image ((e + 1) % 2))
  other_image_header is_open =
      elim other_image as (λ _. (other : ℕ) × IsOfEpoch ((e + 1) % 2) other ((as_written s).image ((e + 1) % 2))) [
        | inl shut ↦ absurd (shut (subst (IsOpen image_header) (image_at s (e + 1)) is_open))
        | inr before ↦ (before.0, subst (IsOfEpoch ((e + 1) % 2) before.0) (sym (image_at s (e + 1))) before.2)
      ]

  own_segment_header : HasHeader segment_header_length (e % 2) ((as_written s).segment (e % 2))
  own_segment_header is_open = (
    e,
    subst (IsOfEpoch (e % 2) e) (sym (segment_at s e))
        (segment_header_is e (slot_of s (segment_slot e)) first fits segment),
  )

  latest_of_own : (other : ℕ) → IsOfEpoch (e % 2) other ((as_written s).image (e % 2)) → other ≤ e
  latest_of_own other is =
      let known = image_header_is e (slot_of s (image_slot e)) base fits image in
      omega (arith, one_epoch other e is.rest known.rest is.fits fits (sym is.encoding ∙ image_at s e ∙ known.encoding))

  latest_of_other : (other : ℕ) → IsOpen image_header ((as_written s).image ((e + 1) % 2))
      → IsOfEpoch ((e + 1) % 2) other ((as_written s).image ((e + 1) % 2)) → other ≤ e
  latest_of_other other is_open is = elim other_image as (λ _. other ≤ e) [
    | inl shut ↦ absurd (shut (subst (IsOpen image_header) (image_at s (e + 1)) is_open))
    | inr before ↦ omega (
      arith,
      before.1,
      one_epoch other before.0 is.rest before.2.rest is.fits before.2.fits
          (sym is.encoding ∙ image_at s (e + 1) ∙ before.2.encoding),
    )
  ]

  pub latest : (number other : ℕ) → number < 2 → IsOpen image_header ((as_written s).image number)
      → IsOfEpoch number other ((as_written s).image number) → other ≤ e
  latest number other small =
      elim (one_of_two e number small)
      as (λ _. IsOpen image_header ((as_written s).image number)
      → IsOfEpoch number other ((as_written s).image number) → other ≤ e) [
        | inl own ↦ subst (λ n. IsOpen image_header ((as_written s).image n)
            → IsOfEpoch n other ((as_written s).image n)
            → other ≤ e) (sym own) (λ (_ : _) is. latest_of_own other is)
        | inr next ↦ subst (λ n. IsOpen image_header ((as_written s).image n)
            → IsOfEpoch n other ((as_written s).image n)
            → other ≤ e) (sym next) (latest_of_other other)
      ]

  headers : HasHeader segment_header_length ((e + 1) % 2) ((as_written s).segment ((e + 1) % 2)) → (number : ℕ)
      → number < 2
      → HasHeader image_header number ((as_written s).image number)
      × HasHeader segment_header_length number ((as_written s).segment number)
  headers other_segment number small =
      elim (one_of_two e number small)
      as (λ _. HasHeader image_header number ((as_written s).image number)
      × HasHeader segment_header_length number ((as_written s).segment number)) [
        | inl own ↦ subst (λ n. HasHeader image_header n ((as_written s).image n)
            × HasHeader segment_header_length n ((as_written s).segment n)) (sym own)
            (own_image_header, own_segment_header)
        | inr next ↦ subst (λ n. HasHeader image_header n ((as_written s).image n)
            × HasHeader segment_header_length n ((as_written s).segment n)) (sym next)
            (other_image_header, other_segment)
      ]

  pub encoded_with : (next : List Record)
      → HasHeader segment_header_length ((e + 1) % 2) ((as_written s).segment ((e + 1) % 2))
      → Continues e ((as_written s).segment ((e + 1) % 2)) next → Encodes (as_written s) base (first ++ next)
  encoded_with next header other = record {
    headers = headers header;
    reading = inr (record {
      epoch = e;
      fits = fits;
      image = subst (λ l. HoldsImage e l base) (sym (image_at s e)) image;
      latest = latest;
      first = first;
      next = next;
      segment = subst (λ l. EncodesSegment e l first) (sym (segment_at s e)) segment;
      other = other;
      joined = refl;
    });
  }

pub one_encodes : (s : Slots) (e : ℕ) (base : State) (records : List Record) → InOne s e base records
    → Encodes (as_written s) base records
one_encodes s e base records one =
    let slot = (as_written s).segment ((e + 1) % 2) in
    let at = segment_at s (e + 1) in
    let passed : IsPassedSegment e slot = subst (IsPassedSegment e) (sym at) one.other_segment in
    let header : HasHeader segment_header_length ((e + 1) % 2) slot =
    λ is_open. elim passed as (λ _. (other : ℕ) × IsOfEpoch ((e + 1) % 2) other slot) [
      | inl shut ↦ absurd (shut is_open)
      | inr before ↦ (
        before.0,
        with_number (before.0 % 2) ((e + 1) % 2) before.0 slot
            (omega (arith, before.1)) before.2,
      )
    ] in
    let other : Continues e slot [] =
    elim passed as (λ _. Continues e slot [])
    [ inl shut ↦ inl (shut, refl) | inr before ↦ inr (inl (before.0, before.1, before.2, refl)) ] in
    subst (Encodes (as_written s) base) (append-nil records)
    (encoded_with s e base records one.fits one.image one.segment one.other_image [] header other)

pub two_encodes : (s : Slots) (e : ℕ) (base : State) (first next : List Record) → InTwo s e base first next
    → Encodes (as_written s) base (first ++ next)
two_encodes s e base first next two =
    let at = segment_at s (e + 1) in
    let encoded : EncodesSegment (e + 1) ((as_written s).segment ((e + 1) % 2)) next =
    subst (λ l. EncodesSegment (e + 1) l next) (sym at) two.next_segment in
    let fits : e < 2 ^ 64 = omega (arith, two.fits) in
    encoded_with s e base first fits two.image two.segment two.other_image next
    (λ is_open. (e + 1, segment_header_is (e + 1) ((as_written s).segment ((e + 1) % 2)) next two.fits encoded))
    (inr (inr (two.fits, encoded)))
