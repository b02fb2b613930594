-- The state that a reading represents.
use Rattle.std.specs.Prelude.{◌≡◌, ℕ, ◌+◌, ◌*◌, ◌%◌, ◌^◌, ◌<◌, ◌≤◌, Bool, true, false, List, [], ◌++◌, take}
use Rattle.std.proofs.Common.{refl, sym, ap, subst, inl, inr, ◌∙◌, arith, append_assoc}
use Rattle.std.proofs.lemmas.Bool.{cases_lt}
use Rattle.std.proofs.lemmas.List.{append-nil}
use Rattle.codes.specs.StoreVersion.{current}
use Rattle.disk.specs.Slots.{Slots, slot_of}
use Rattle.disk.specs.declared.slot.Slot.{Slot}
use Rattle.ipc_laws.specs.RecoveryLaws.{image_header_is, image_is_open, one_epoch}
use Rattle.ipc_model.specs.calls.Step.{Run}
use Rattle.ipc_model.specs.store.Recovery.{HoldsImage, IsOfEpoch, IsOpen, image_header, segment_header_length}
use Rattle.ipc_model.specs.store.Store.{all_records, batches_encoding, open_gate, segment_header}
use Rattle.slot_steps.specs.Steps.{image_slot, segment_slot}
use Rattle.store_layout.specs.Slots.{image_again}
use Rattle.store_layout.specs.Encoded.{one_encodes, two_encodes}
use Rattle.store_layout.specs.Standing.{InOne, InTwo, IsPassedImage, IsPassedSegment}
use Rattle.inspect.specs.still_disk.Live.{IsCopy, IsReading}
use Rattle.inspect.specs.live_reading.Moments.{Appends, HoldsBatches, Later, Moment, OtherSegment, place}
use Rattle.inspect.proofs.live_reading.Ordered.{Reading, later_joins, ordered}
use Rattle.inspect.specs.live_reading.Standing.{StandFor}
use Rattle.inspect.proofs.live_reading.Fronts.{image_epoch_alike, open_image_alike, open_segment_alike, passed_image_alike, passed_segment_alike, segment_epoch_alike}
use Rattle.inspect.proofs.live_reading.Halves.{image_copied, next_segment, next_segment_copied, own_segment_copied, passed_segment}
use Rattle.inspect.proofs.live_reading.Times.{copy_appending, copy_no_earlier, half, more_appended, no_earlier, no_earlier_epoch, same_half, stays_turned}

segment_is_open : (epoch : ℕ) (slot : List ℕ) (batches : _) → HoldsBatches epoch slot batches
    → IsOpen segment_header_length slot
segment_is_open epoch slot batches held = subst (IsOpen segment_header_length) (sym held.encoding) (omega arith, refl)

segment_is_of : (epoch : ℕ) (slot : List ℕ) (batches : _) → epoch < 2 ^ 64 → HoldsBatches epoch slot batches
    → IsOfEpoch (epoch % 2) epoch slot
segment_is_of epoch slot batches fits held = record {
  version = current;
  rest = batches_encoding 0 batches ++ held.beyond;
  encoding = held.encoding ∙ append_assoc (segment_header open_gate epoch) (batches_encoding 0 batches) held.beyond;
  fits = fits;
  of_number = refl;
}

-- An image of the next epoch isn't ignored, nor is a segment.
no_next_image : (e : ℕ) (x : List ℕ) → IsPassedImage e x → IsOpen image_header x → IsOfEpoch ((e + 1) % 2) (e + 1) x → ⊥
no_next_image e x (inl shut) is_open is = shut is_open
no_next_image e x (inr before) is_open is =
    let same : before.0 ≡ e + 1 =
    one_epoch before.0 (e + 1) before.2.rest is.rest before.2.fits is.fits (sym before.2.encoding ∙ is.encoding) in
    absurd (omega (arith, same, before.1))

no_next_segment : (e : ℕ) (x : List ℕ) → IsPassedSegment e x → IsOpen segment_header_length x
    → IsOfEpoch ((e + 1) % 2) (e + 1) x → ⊥
no_next_segment e x (inl shut) is_open is = shut is_open
no_next_segment e x (inr before) is_open is =
    let same : before.0 ≡ e + 1 =
    one_epoch before.0 (e + 1) before.2.rest is.rest before.2.fits is.fits (sym before.2.encoding ∙ is.encoding) in
    let prior : before.0 + 1 ≡ e = omega (arith, before.1) in
    absurd (omega (arith, same, prior))

-- a later moment whose image slot has the same front isn't in the next epoch
image_front_tells : (a b : Moment) → b.epoch ≡ a.epoch + 1
    → take 24 (slot_of a.slots (image_slot (a.epoch + 1))) ≡ take 24 (slot_of b.slots (image_slot (a.epoch + 1))) → ⊥
image_front_tells a b next same =
    let slot = slot_of b.slots (image_slot (a.epoch + 1)) in
    let image : HoldsImage (a.epoch + 1) slot b.base =
    subst (λ k. HoldsImage k (slot_of b.slots (image_slot k)) b.base) next b.image in
    let mine = slot_of a.slots (image_slot (a.epoch + 1)) in
    no_next_image a.epoch mine a.other_image
    (open_image_alike slot mine (sym same) (image_is_open (a.epoch + 1) slot b.base image))
    (image_epoch_alike ((a.epoch + 1) % 2) (a.epoch + 1) slot mine (sym same)
    (image_header_is (a.epoch + 1) slot b.base a.fits image))

-- At a moment when the next segment isn't open, the front of its slot differs from that of the open segment, in this
-- epoch or as the next epoch's own.
segment_front_tells : (a : Moment) (slot : List ℕ) (batches : _) → a.has_turned ≡ false
    → HoldsBatches (a.epoch + 1) slot batches
    → take 16 (slot_of a.slots (segment_slot (a.epoch + 1))) ≡ take 16 slot → ⊥
segment_front_tells a slot batches shut held same =
    let mine = slot_of a.slots (segment_slot (a.epoch + 1)) in
    no_next_segment a.epoch mine (passed_segment a.has_turned a.epoch mine a.next shut a.other_segment)
    (open_segment_alike slot mine (sym same) (segment_is_open (a.epoch + 1) slot batches held))
    (segment_epoch_alike ((a.epoch + 1) % 2) (a.epoch + 1) slot mine (sym same)
    (segment_is_of (a.epoch + 1) slot batches a.fits held))

no_next : (h : Bool) (epoch : ℕ) (slot : List ℕ) (next : _) → h ≡ false → OtherSegment h epoch slot next → next ≡ []
no_next false epoch slot next is other = other.1
no_next true epoch slot next is other = let none : 1 ≡ 0 = ap half is in absurd (omega (arith, none))

module _ (begun ended : Moment) (copies : Slots) (r : Reading begun ended copies) where
  -- the moments between which the fronts of the next epoch's image were read
  abbrev first_epoch : ℕ
  first_epoch = begun.epoch

  abbrev x : Moment
  x = r.before (image_slot (begun.epoch + 1))

  abbrev y : Moment
  y = r.after (image_slot (begun.epoch + 1))

  x_low : begun.epoch ≤ x.epoch
  x_low = no_earlier_epoch begun x (r.since (image_slot (begun.epoch + 1)))

  x_start : x.epoch ≤ r.start.epoch
  x_start = no_earlier_epoch x r.start (r.early (image_slot (begun.epoch + 1)))

  start_stop : r.start.epoch ≤ r.stop.epoch
  start_stop = no_earlier_epoch r.start r.stop r.in_time

  stop_y : r.stop.epoch ≤ y.epoch
  stop_y = no_earlier_epoch r.stop y (r.late (image_slot (begun.epoch + 1)))

  y_high : y.epoch ≤ begun.epoch + 1
  y_high = omega (arith, no_earlier_epoch y ended (r.until (image_slot (begun.epoch + 1))), r.one_turn)

  -- no image was finished between them
  one_epoch_long : y.epoch ≤ x.epoch
  one_epoch_long = elim (cases_lt x.epoch y.epoch) as (λ _. y.epoch ≤ x.epoch) [
    | inl turned ↦
        let here : x.epoch ≡ begun.epoch = omega (arith, turned, x_low, y_high) in
        let next : y.epoch ≡ x.epoch + 1 = omega (arith, turned, x_low, y_high) in
        absurd (image_front_tells x y next
        (subst (λ k. take 24 (slot_of x.slots (image_slot (k + 1))) ≡ take 24 (slot_of y.slots (image_slot (k + 1))))
        (sym here) (r.image_fronts (begun.epoch + 1))))
    | inr not ↦ omega (arith, not)
  ]

  same_epoch : r.start.epoch ≡ x.epoch
  same_epoch = omega (arith, one_epoch_long, x_start, start_stop, stop_y)

  stop_epoch : r.stop.epoch ≡ r.start.epoch
  stop_epoch = omega (arith, one_epoch_long, x_start, start_stop, stop_y)

  -- the moments between which the fronts of the next epoch's segment were read
  abbrev u : Moment
  u = r.before (segment_slot (r.start.epoch + 1))

  abbrev v : Moment
  v = r.after (segment_slot (r.start.epoch + 1))

  u_epoch : u.epoch ≡ r.start.epoch
  u_epoch =
      let low = no_earlier_epoch x u (r.images_first (begun.epoch + 1) (r.start.epoch + 1)) in
      let high = no_earlier_epoch u r.start (r.early (segment_slot (r.start.epoch + 1))) in
      omega (arith, low, high, same_epoch)

  v_low : r.stop.epoch ≤ v.epoch
  v_low = no_earlier_epoch r.stop v (r.late (segment_slot (r.start.epoch + 1)))

  v_high : v.epoch ≤ begun.epoch + 1
  v_high = omega (arith, no_earlier_epoch v ended (r.until (segment_slot (r.start.epoch + 1))), r.one_turn)

  fronts_here : take 16 (slot_of u.slots (segment_slot (u.epoch + 1)))
      ≡ take 16 (slot_of v.slots (segment_slot (r.start.epoch + 1)))
  fronts_here =
      ap (λ k. take 16 (slot_of u.slots (segment_slot (k + 1)))) u_epoch ∙ r.segment_fronts (r.start.epoch + 1)

  -- a store that hadn't rotated when the fronts were first read hasn't when they are read again
  not_turned_by_then : u.has_turned ≡ false → (v.epoch ≡ r.start.epoch) × (v.has_turned ≡ false)
  not_turned_by_then shut =
      elim (cases_lt r.start.epoch v.epoch) as (λ _. (v.epoch ≡ r.start.epoch) × (v.has_turned ≡ false)) [
        | inl later ↦
            let next : v.epoch ≡ r.start.epoch + 1 = omega (arith, later, v_high, x_low, same_epoch) in
            let held : HoldsBatches (r.start.epoch + 1) (slot_of v.slots (segment_slot (r.start.epoch + 1))) v.first =
            subst (λ k. HoldsBatches k (slot_of v.slots (segment_slot k)) v.first) next v.segment in
            absurd (segment_front_tells u (slot_of v.slots (segment_slot (r.start.epoch + 1))) v.first shut
            (subst (λ k. HoldsBatches (k + 1) (slot_of v.slots (segment_slot (r.start.epoch + 1))) v.first)
            (sym u_epoch) held) fronts_here)
        | inr not ↦
            let here : v.epoch ≡ r.start.epoch = omega (arith, not, v_low, stop_epoch) in
            (here, by_half v.has_turned refl here)
      ]
    where
      by_half : (h : Bool) → v.has_turned ≡ h → v.epoch ≡ r.start.epoch → v.has_turned ≡ false
      by_half false is here = is
      by_half true is here =
          let slot = slot_of v.slots (segment_slot (v.epoch + 1)) in
          let held = next_segment v.has_turned v.epoch slot v.next is v.other_segment in
          absurd (segment_front_tells u (slot_of v.slots (segment_slot (r.start.epoch + 1))) v.next shut
          (subst (λ k. HoldsBatches (k + 1) (slot_of v.slots (segment_slot (r.start.epoch + 1))) v.next) (sym u_epoch)
          (subst (λ k. HoldsBatches (k + 1) (slot_of v.slots (segment_slot (k + 1))) v.next) here held))
          fronts_here)

  start_turned : (h : Bool) → u.has_turned ≡ h → r.start.has_turned ≡ h
  start_turned true is = stays_turned u r.start (r.early (segment_slot (r.start.epoch + 1))) u_epoch is
  start_turned false is = by_half r.start.has_turned refl
    where
      then_ : (v.epoch ≡ r.start.epoch) × (v.has_turned ≡ false)
      then_ = not_turned_by_then is

      by_half : (h : Bool) → r.start.has_turned ≡ h → r.start.has_turned ≡ false
      by_half false here = here
      by_half true here =
          let stopped = stays_turned r.start r.stop r.in_time (sym stop_epoch) here in
          let late =
          stays_turned r.stop v (r.late (segment_slot (r.start.epoch + 1))) (stop_epoch ∙ sym then_.0) stopped in
          let none : 1 ≡ 0 = ap half (sym late ∙ then_.1) in
          absurd (omega (arith, none))

  stop_turned : (h : Bool) → u.has_turned ≡ h → r.stop.has_turned ≡ h
  stop_turned true is = stays_turned r.start r.stop r.in_time (sym stop_epoch) (start_turned true is)
  stop_turned false is = by_half r.stop.has_turned refl
    where
      then_ : (v.epoch ≡ r.start.epoch) × (v.has_turned ≡ false)
      then_ = not_turned_by_then is

      by_half : (h : Bool) → r.stop.has_turned ≡ h → r.stop.has_turned ≡ false
      by_half false here = here
      by_half true here =
          let late =
          stays_turned r.stop v (r.late (segment_slot (r.start.epoch + 1))) (stop_epoch ∙ sym then_.0) here in
          let none : 1 ≡ 0 = ap half (sym late ∙ then_.1) in
          absurd (omega (arith, none))

  -- while the copies were made the store was in one half of an epoch
  one_half : place r.stop ≡ place r.start
  one_half =
      ap (λ k. 2 * k + half r.stop.has_turned) stop_epoch ∙ ap
      (λ h. 2 * r.start.epoch + half h) (stop_turned u.has_turned refl ∙ sym (start_turned u.has_turned refl))

  module _ (slot : Slot) where
    bounds : (place r.start ≤ place (r.copy_begun slot)) × (place (r.copy_begun slot) ≤ place (r.copy_ended slot))
        × (place (r.copy_ended slot) ≤ place r.stop)
    bounds = (
      no_earlier r.start (r.copy_begun slot) (r.copied_since slot),
      copy_no_earlier (λ m. slot_of m.slots slot) (r.copy_begun slot) (r.copy_ended slot) (slot_of copies slot)
          (r.copied slot),
      no_earlier (r.copy_ended slot) r.stop (r.copied_until slot),
    )

    begun_since : Appends r.start (r.copy_begun slot)
    begun_since =
        same_half r.start (r.copy_begun slot) (r.copied_since slot) (omega (arith, bounds.1, bounds.2, one_half))

    ended_until : Appends (r.copy_ended slot) r.stop
    ended_until =
        same_half (r.copy_ended slot) r.stop (r.copied_until slot) (omega (arith, bounds.0, bounds.1, one_half))

    is_copied : IsCopy Appends (λ m. slot_of m.slots slot) (r.copy_begun slot) (r.copy_ended slot) (slot_of copies slot)
    is_copied =
        copy_appending (λ m. slot_of m.slots slot) (r.copy_begun slot) (r.copy_ended slot) (slot_of copies slot)
        (r.copied slot) (omega (arith, bounds.0, bounds.2, one_half))

  abbrev E : ℕ
  E = r.start.epoch

  -- the copy of the epoch's image
  image_encoded : HoldsImage r.start.epoch (slot_of copies (image_slot r.start.epoch)) r.start.base
  image_encoded =
      let slot = image_slot r.start.epoch in
      image_copied r.start (r.copy_begun slot) (r.copy_ended slot) (slot_of copies slot) (begun_since slot)
      (is_copied slot)

  -- the copy of the other image's slot is ignored
  image_passed : IsPassedImage r.start.epoch (slot_of copies (image_slot (r.start.epoch + 1)))
  image_passed =
      let w = r.before (image_slot (r.start.epoch + 1)) in
      let low = no_earlier_epoch begun w (r.since (image_slot (r.start.epoch + 1))) in
      let high = no_earlier_epoch w r.start (r.early (image_slot (r.start.epoch + 1))) in
      let mine = slot_of w.slots (image_slot (r.start.epoch + 1)) in
      passed_image_alike r.start.epoch mine (slot_of copies (image_slot (r.start.epoch + 1)))
      (r.copied_image_fronts (r.start.epoch + 1))
      (elim (cases_lt w.epoch r.start.epoch) as (λ _. IsPassedImage r.start.epoch mine) [
        | inl former ↦
            let prior : w.epoch + 1 + 1 ≡ r.start.epoch + 1 = omega (arith, former, low, start_stop, stop_y, y_high) in
            let slot : image_slot w.epoch ≡ image_slot (r.start.epoch + 1) =
            sym (image_again w.epoch) ∙ ap image_slot prior in
            let number : (r.start.epoch + 1) % 2 ≡ w.epoch % 2 = omega (arith, prior) in
            let fits : w.epoch < 2 ^ 64 = omega (arith, w.fits) in
            inr (
              w.epoch,
              former,
              subst (λ s. IsOfEpoch ((r.start.epoch + 1) % 2) w.epoch (slot_of w.slots s)) slot
                  (subst (λ k. IsOfEpoch k w.epoch (slot_of w.slots (image_slot w.epoch))) (sym number)
                  (image_header_is w.epoch (slot_of w.slots (image_slot w.epoch)) w.base fits w.image)),
            )
        | inr not ↦
            let here : w.epoch ≡ r.start.epoch = omega (arith, not, high) in
            subst (λ k. IsPassedImage k (slot_of w.slots (image_slot (k + 1)))) here w.other_image
      ])

  segment_passed : u.has_turned ≡ false
      → IsPassedSegment r.start.epoch (slot_of copies (segment_slot (r.start.epoch + 1)))
  segment_passed shut =
      let mine = slot_of u.slots (segment_slot (r.start.epoch + 1)) in
      passed_segment_alike r.start.epoch mine (slot_of copies (segment_slot (r.start.epoch + 1)))
      (r.copied_segment_fronts (r.start.epoch + 1))
      (subst (λ k. IsPassedSegment k (slot_of u.slots (segment_slot (k + 1)))) u_epoch
      (passed_segment u.has_turned u.epoch
      (slot_of u.slots (segment_slot (u.epoch + 1))) u.next shut u.other_segment))

  stand : (h : Bool) → u.has_turned ≡ h → StandFor r.start r.stop copies
  stand false shut =
      let slot = segment_slot r.start.epoch in
      let own =
      own_segment_copied r.start (r.copy_begun slot) (r.copy_ended slot) (slot_of copies slot) (begun_since slot)
      (is_copied slot) in
      let all = more_appended r.start (r.copy_begun slot) own.at (begun_since slot) own.since in
      let fits : r.start.epoch < 2 ^ 64 = omega (arith, r.start.fits) in
      let one : InOne copies r.start.epoch r.start.base (all_records own.at.first) =
      record {
        fits = fits;
        image = image_encoded;
        segment = own.encodes;
        other_image = image_passed;
        other_segment = segment_passed shut;
      } in
      record {
        at = own.at;
        since = inl all;
        until = inl (more_appended own.at (r.copy_ended slot) r.stop own.until (ended_until slot));
        recovered = record {
          base = r.start.base;
          records = all_records own.at.first;
          encoded = one_encodes copies r.start.epoch r.start.base (all_records own.at.first) one;
          run =
              subst (λ l. Run r.start.base l own.at.state)
              (ap (λ l. all_records own.at.first ++ all_records l)
              (no_next own.at.has_turned own.at.epoch
              (slot_of own.at.slots (segment_slot (own.at.epoch + 1))) own.at.next
              (all.half ∙ start_turned false shut) own.at.other_segment)
              ∙ append-nil (all_records own.at.first))
              (subst (λ b. Run b (all_records own.at.first ++ all_records own.at.next) own.at.state) all.base
              own.at.run);
        };
      }
  stand true turned =
      let slot = segment_slot r.start.epoch in
      let own =
      own_segment_copied r.start (r.copy_begun slot) (r.copy_ended slot) (slot_of copies slot) (begun_since slot)
      (is_copied slot) in
      let before = more_appended r.start (r.copy_begun slot) own.at (begun_since slot) own.since in
      let other = segment_slot (r.start.epoch + 1) in
      let has = start_turned true turned in
      let next =
      next_segment_copied r.start (r.copy_begun other) (r.copy_ended other)
      (slot_of copies other) has (begun_since other) (is_copied other) in
      let all = more_appended r.start (r.copy_begun other) next.at (begun_since other) next.since in
      let full : (m : Moment) → (a : Appends r.start m) → m.first ≡ r.start.first =
      λ m a. a.first ∙ ap (λ l. r.start.first ++ l) (a.full has) ∙ append-nil r.start.first in
      let same : own.at.first ≡ next.at.first = full own.at before ∙ sym (full next.at all) in
      let two : InTwo copies r.start.epoch r.start.base (all_records own.at.first) (all_records next.at.next) =
      record {
        fits = r.start.fits;
        image = image_encoded;
        segment = own.encodes;
        other_image = image_passed;
        next_segment = next.encodes;
      } in
      record {
        at = next.at;
        since = inl all;
        until = inl (more_appended next.at (r.copy_ended other) r.stop next.until (ended_until other));
        recovered = record {
          base = r.start.base;
          records = all_records own.at.first ++ all_records next.at.next;
          encoded =
              two_encodes copies r.start.epoch r.start.base (all_records own.at.first) (all_records next.at.next) two;
          run = subst (λ l. Run r.start.base (all_records l ++ all_records next.at.next) next.at.state) (sym same)
              (subst (λ b. Run b (all_records next.at.first ++ all_records next.at.next) next.at.state) all.base
              next.at.run);
        };
      }

half_stands : (begun ended : Moment) (copies : Slots) (r : Reading begun ended copies) → StandFor r.start r.stop copies
half_stands begun ended copies r =
    stand begun ended copies r (r.before (segment_slot (r.start.epoch + 1))).has_turned refl

pub stands : (begun ended : Moment) (copies : Slots) → IsReading Later (λ m. m.slots) begun ended copies
    → ended.epoch ≤ begun.epoch + 1 → StandFor begun ended copies
stands begun ended copies (fronts, again, tried, agree) one_turn =
    let r = ordered begun ended fronts copies again tried agree.0 agree.1 one_turn in
    let found = half_stands begun ended copies r in
    let slot = segment_slot 0 in
    record {
      at = found.at;
      since =
          later_joins begun r.start found.at
          (later_joins begun (r.before slot) r.start (r.since slot) (r.early slot)) found.since;
      until =
          later_joins found.at r.stop ended found.until
          (later_joins r.stop (r.after slot) ended (r.late slot) (r.until slot));
      recovered = found.recovered;
    }
