-- The effect of the next image's steps on a store in each phase of a checkpoint.
use Rattle.std.proofs.Common.{◌≡◌, inl, inr, ℕ, ◌+◌, ◌^◌, ◌<◌, List, [], length, sym, ap, subst, ◌∙◌, arith}
use Rattle.std.proofs.lemmas.List.{append-nil}
use Rattle.codes.specs.StoreVersion.{current}
use Rattle.checkpoint.specs.Images.{IsFinishing, open_image}
use Rattle.disk.specs.Moments.{View, Passes, Follows, IsSynced}
use Rattle.disk.specs.Slots.{Slots, slot_of, with_slot}
use Rattle.ipc_model.specs.state.State.{State}
use Rattle.ipc_model.specs.store.Recovery.{HoldsImage, IsImageOf}
use Rattle.ipc_model.specs.store.Store.{IsInUse}
use Rattle.ipc_model.specs.encodings.Images.{image_encoding}
use Rattle.journal.specs.declared.segment.Segment.{Segment}
use Rattle.store_half.proofs.phases.Alongside.{segment_stays}
use Rattle.store_half.proofs.phases.Stops.{first_gate, first_left, second_gate, second_left}
use Rattle.store_half.specs.phases.Phases.{InFirst, InSecond, IsImaging, IsRolling, without_image}
use Rattle.recover.proofs.Rest.{rest_but_changed}
use Rattle.recover.proofs.Stages.{next_image, one_stands, two_stands}
use Rattle.recover.specs.Kept.{IsKept}
use Rattle.slot_steps.proofs.Gates.{closed_not_open}
use Rattle.disk.proofs.Moments.{passes_as, with_own, with_twice}
use Rattle.slot_steps.specs.Steps.{IsRemade, IsShut, image_slot, segment_slot}
use Rattle.store_layout.specs.Changes.{one_image_changed, two_finished, two_image_changed}
use Rattle.store_layout.proofs.Gates.{gates_alongside_image, two_gates}
use Rattle.store_layout.specs.Gates.{HasLastGate, StandForState}
use Rattle.store_layout.specs.Slots.{alongside_image}
use Rattle.store_layout.specs.Standing.{InOne, InTwo, IsPassedImage}
use Rattle.store_half.specs.Values.{CheckpointValue}

-- a step on the next image's slot
module _ (old new : View) (epoch : ℕ) (x : List ℕ) (is : new.seen ≡ with_slot old.seen (image_slot (epoch + 1)) x) where
  same_without : without_image new epoch ≡ without_image old epoch
  same_without =
      ap (λ (s : Slots). with_slot s (image_slot (epoch + 1)) []) is ∙ with_twice (image_slot (epoch + 1)) old.seen x []

  same_segment : (number : ℕ) → slot_of new.seen (segment_slot number) ≡ slot_of old.seen (segment_slot number)
  same_segment number =
      ap (λ (s : Slots). slot_of s (segment_slot number)) is ∙ segment_stays old.seen x (epoch + 1) number

  over_without : new.seen ≡ with_slot (without_image old epoch) (image_slot (epoch + 1)) x
  over_without = is ∙ sym (with_twice (image_slot (epoch + 1)) old.seen [] x)

  imaging_on : (step : List ℕ → List ℕ → Type 0) (imaged made : ℕ)
      → Passes old new (Follows old (image_slot (epoch + 1)) step) → IsShut new (image_slot (epoch + 1)) → 0 < made
      → IsImaging old epoch imaged → IsImaging new epoch made
  imaging_on step imaged made time shut some imaging = record {
    rest = rest_but_changed (image_slot (epoch + 1)) old new step x time is imaging.rest;
    untouched = λ none. absurd (omega (arith, some, none));
    passed = λ none. absurd (omega (arith, some, none));
    shut = λ _. shut;
  }

module _ (old new : View) (segment : Segment) (checkpoint : CheckpointValue) (state : State)
    (phase : InFirst old segment checkpoint state) (step : List ℕ → List ℕ → Type 0)
    (time : Passes old new (Follows old (image_slot (segment.epoch + 1)) step)) where
  pub first_on : (x : List ℕ) (made : ℕ) → new.seen ≡ with_slot old.seen (image_slot (segment.epoch + 1)) x
      → IsShut new (image_slot (segment.epoch + 1)) → 0 < made
      → InFirst new segment (record checkpoint { imaged = made }) state
  first_on x made is shut some =
      let e = segment.epoch in
      record {
        before = phase.before;
        next = phase.next;
        fits = phase.fits;
        imaging = imaging_on old new e x is step checkpoint.imaged made time shut some phase.imaging;
        rolling =
            subst (λ (l : List ℕ). IsRolling l (e + 1) checkpoint.rolled)
            (sym (same_segment old new e x is (e + 1))) phase.rolling;
        base = phase.base;
        records = phase.records;
        stands =
            subst (λ (s : Slots). InOne s e phase.base phase.records) (sym (same_without old new e x is)) phase.stands;
        in_use = subst (λ (l : List ℕ). IsInUse e l phase.records) (sym (same_segment old new e x is e)) phase.in_use;
        run = phase.run;
        counted = phase.counted;
      }

  pub first_passes : ((was now : List ℕ) → step was now
      → IsPassedImage segment.epoch was → IsPassedImage segment.epoch now)
      → Passes old new (StandForState state)
  first_passes passed =
      let e = segment.epoch in
      let slot = image_slot (e + 1) in
      passes_as old new (Follows old slot step) (StandForState state) time (λ c made.
      let one = first_left old segment checkpoint state phase made.0 made.1 in
      let x = slot_of c slot in
      subst (StandForState state) (sym made.3)
      (one_stands (with_slot made.0 slot x) e phase.base state phase.records
      (one_image_changed made.0 e phase.base phase.records x one
      (passed (slot_of made.0 slot) x made.2 one.other_image)) phase.run
      (subst HasLastGate (sym (alongside_image made.0 x e).1)
      (first_gate old segment checkpoint state phase made.0 made.1))))

module _ (old new : View) (segment : Segment) (checkpoint : CheckpointValue) (mid state : State)
    (phase : InSecond old segment checkpoint mid state) where
  pub second_on : (step : List ℕ → List ℕ → Type 0) (x : List ℕ) (made : ℕ)
      → Passes old new (Follows old (image_slot (phase.former + 1)) step)
      → new.seen ≡ with_slot old.seen (image_slot (phase.former + 1)) x
      → IsShut new (image_slot (phase.former + 1)) → 0 < made
      → InSecond new segment (record checkpoint { imaged = made }) mid state
  second_on step x made time is shut some =
      let e = phase.former in
      record {
        after = phase.after;
        former = e;
        next = phase.next;
        epoch = phase.epoch;
        imaging = imaging_on old new e x is step checkpoint.imaged made time shut some phase.imaging;
        base = phase.base;
        first = phase.first;
        records = phase.records;
        stands =
            subst (λ (s : Slots). InTwo s e phase.base phase.first phase.records)
            (sym (same_without old new e x is)) phase.stands;
        in_use =
            subst (λ (l : List ℕ). IsInUse (e + 1) l phase.records)
            (sym (same_segment old new e x is (e + 1))) phase.in_use;
        run_first = phase.run_first;
        run = phase.run;
        counted = phase.counted;
      }

  pub second_passes : (step : List ℕ → List ℕ → Type 0)
      → ((was now : List ℕ) → step was now → IsPassedImage phase.former was → IsPassedImage phase.former now)
      → Passes old new (Follows old (image_slot (phase.former + 1)) step)
      → Passes old new (StandForState state)
  second_passes step passed time =
      let e = phase.former in
      let slot = image_slot (e + 1) in
      passes_as old new (Follows old slot step) (StandForState state) time (λ c made.
      let two = second_left old segment checkpoint mid state phase made.0 made.1 in
      let x = slot_of c slot in
      subst (StandForState state) (sym made.3)
      (two_stands (with_slot made.0 slot x) e phase.base mid state phase.first phase.records
      (two_image_changed made.0 e phase.base phase.first phase.records x two
      (passed (slot_of made.0 slot) x made.2 two.other_image)) phase.run_first phase.run
      (subst HasLastGate (sym (alongside_image made.0 x e).2)
      (second_gate old segment checkpoint mid state phase made.0 made.1))))

-- a whole image of a state
holds_image : (epoch : ℕ) (encoding : List ℕ) (state : State) → IsImageOf encoding state → length encoding < 2 ^ 64
    → HoldsImage epoch (open_image epoch encoding) state
holds_image epoch encoding state image fits = record {
  version = current;
  rest = [];
  encoding =
      ap (λ (l : List ℕ). open_image epoch l) image.encoding_is
      ∙ sym (append-nil (open_image epoch (image_encoding state)));
  fits = subst (λ (l : List ℕ). length l < 2 ^ 64) image.encoding_is fits;
  lawful = image.lawful;
  acyclic = image.acyclic;
  short = image.short;
  limits = image.limits;
  kept = image.kept;
}

-- the image is finished, and the store is in the next epoch
module _ (old new : View) (segment : Segment) (checkpoint : CheckpointValue) (mid state : State)
    (phase : InSecond old segment checkpoint mid state) (encoding : List ℕ) (image : IsImageOf encoding mid)
    (fits : length encoding < 2 ^ 64)
    (time : Passes old new (Follows old (image_slot (phase.former + 1))
    (IsFinishing (phase.former + 1) encoding))) where
  holds : HoldsImage (phase.former + 1) (open_image (phase.former + 1) encoding) mid
  holds = holds_image (phase.former + 1) encoding mid image fits

  pub finished_passes : Passes old new (StandForState state)
  finished_passes =
      let e = phase.former in
      let slot = image_slot (e + 1) in
      let content : List ℕ = open_image (e + 1) encoding in
      passes_as old new (Follows old slot (IsFinishing (e + 1) encoding)) (StandForState state) time
      (λ c made.
      let x = slot_of c slot in
      let remade : IsRemade 24 content (slot_of made.0 slot) x =
      elim made.2 [ inl shut ↦ inl (inr (closed_not_open 24 x shut)) | inr whole ↦ inr whole ] in
      let two = second_left old segment checkpoint mid state phase made.0 made.1 in
      subst (StandForState state) (sym made.3) (record {
        recovered =
            next_image made.0 e phase.base mid state phase.first phase.records x content two phase.run_first phase.run
            holds remade;
        gates = gates_alongside_image made.0 x (e + 1) (two_gates made.0 e phase.base phase.first phase.records two
            (second_gate old segment checkpoint mid state phase made.0 made.1));
      }))

  pub finished_keeps : new.seen ≡ with_slot old.seen (image_slot (phase.former + 1))
      (open_image (phase.former + 1) encoding) → IsSynced new (image_slot (phase.former + 1)) → IsKept new segment state
  finished_keeps is synced =
      let e = phase.former in
      let slot = image_slot (e + 1) in
      let x : List ℕ = open_image (e + 1) encoding in
      let one : InOne new.seen (e + 1) mid phase.records =
      subst (λ (s : Slots). InOne s (e + 1) mid phase.records) (sym (over_without old new e x is))
      (two_finished (without_image old e) e phase.base mid phase.first phase.records x phase.stands holds) in
      let used : IsInUse (e + 1) (slot_of new.seen (segment_slot (e + 1))) phase.records =
      subst (λ (l : List ℕ). IsInUse (e + 1) l phase.records)
      (sym (same_segment old new e x is (e + 1))) phase.in_use in
      record {
        at_rest =
            λ c left. rest_but_changed slot old new (IsFinishing (e + 1) encoding) x time is phase.imaging.rest c left
            ∙ ap (λ (l : List ℕ). with_slot new.seen slot l) (synced c left) ∙ with_own slot new.seen;
        base = mid;
        records = phase.records;
        stands = subst (λ (n : ℕ). InOne new.seen n mid phase.records) (sym phase.next) one;
        in_use = subst (λ (n : ℕ). IsInUse n (slot_of new.seen (segment_slot n)) phase.records) (sym phase.next) used;
        run = phase.run;
        counted = phase.counted;
      }
