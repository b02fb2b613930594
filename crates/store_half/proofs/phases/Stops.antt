-- The contents after a crash in each phase of a checkpoint.
use Rattle.std.proofs.Common.{◌≡◌, inl, inr, ℕ, ◌+◌, ◌<◌, List, [], sym, ap, subst, ◌∙◌, arith}
use Rattle.std.specs.Prelude.{Option, Some}
use Rattle.std.proofs.lemmas.Bool.{cases_eq}
use Rattle.disk.specs.Moments.{View, MayLeave, IsSynced}
use Rattle.disk.specs.Slots.{Slots, slot_of, with_slot}
use Rattle.ipc_model.specs.state.State.{State}
use Rattle.ipc_model.specs.store.Store.{IsClosed, IsInUse}
use Rattle.journal.specs.declared.segment.Segment.{Segment}
use Rattle.store_half.proofs.phases.Alongside.{segment_stays}
use Rattle.store_half.specs.phases.Phases.{InFirst, InSecond, IsCheckpointing, IsImaging, Keeps, without_image}
use Rattle.recover.proofs.Gates.{in_use_has_gate}
use Rattle.recover.proofs.Rest.{rest_is_synced}
use Rattle.slot_steps.proofs.Following.{synced_shut}
use Rattle.disk.proofs.Moments.{with_twice}
use Rattle.slot_steps.specs.Steps.{IsShut, image_slot, segment_slot}
use Rattle.store_layout.specs.Changes.{one_image_changed, shut_image, two_image_changed}
use Rattle.store_layout.specs.Gates.{HasLastGate}
use Rattle.store_layout.specs.Standing.{InOne, InTwo, IsPassedImage}
use Rattle.store_half.specs.Values.{CheckpointValue}

module _ (disk : View) (epoch imaged : ℕ) (imaging : IsImaging disk epoch imaged) where
  -- the next image is ignored
  pub imaging_passed : (c : Slots) → MayLeave disk c → IsPassedImage epoch (slot_of c (image_slot (epoch + 1)))
  imaging_passed c left = elim (cases_eq imaged 0) as (λ _. IsPassedImage epoch (slot_of c (image_slot (epoch + 1)))) [
    | inl none ↦ subst (IsPassedImage epoch)
        (sym (ap (λ (s : Slots). slot_of s (image_slot (epoch + 1))) (imaging.untouched none c left)))
        (imaging.passed none)
    | inr some ↦ shut_image epoch (slot_of c (image_slot (epoch + 1))) (imaging.shut (omega (arith, some)) c left)
  ]

  -- the other slots are as reads return them
  pub imaging_left : (c : Slots) → MayLeave disk c
      → c ≡ with_slot (without_image disk epoch) (image_slot (epoch + 1)) (slot_of c (image_slot (epoch + 1)))
  imaging_left c left =
      imaging.rest c left ∙ sym (with_twice (image_slot (epoch + 1)) disk.seen [] (slot_of c (image_slot (epoch + 1))))

  pub imaging_synced : (number : ℕ) → IsSynced disk (segment_slot number)
  imaging_synced number c left =
      ap (λ (s : Slots). slot_of s (segment_slot number)) (imaging.rest c left)
      ∙ segment_stays disk.seen (slot_of c (image_slot (epoch + 1))) (epoch + 1) number

pub first_left : (disk : View) (segment : Segment) (checkpoint : CheckpointValue) (state : State)
    → (phase : InFirst disk segment checkpoint state) → (c : Slots) → MayLeave disk c
    → InOne c segment.epoch phase.base phase.records
first_left disk segment checkpoint state phase c left =
    let e = segment.epoch in
    subst (λ (s : Slots). InOne s e phase.base phase.records)
    (sym (imaging_left disk e checkpoint.imaged phase.imaging c left))
    (one_image_changed (without_image disk e) e phase.base phase.records (slot_of c (image_slot (e + 1))) phase.stands
    (imaging_passed disk e checkpoint.imaged phase.imaging c left))

pub second_left : (disk : View) (segment : Segment) (checkpoint : CheckpointValue) (mid state : State)
    → (phase : InSecond disk segment checkpoint mid state) → (c : Slots) → MayLeave disk c
    → InTwo c phase.former phase.base phase.first phase.records
second_left disk segment checkpoint mid state phase c left =
    let e = phase.former in
    subst (λ (s : Slots). InTwo s e phase.base phase.first phase.records)
    (sym (imaging_left disk e checkpoint.imaged phase.imaging c left))
    (two_image_changed (without_image disk e) e phase.base phase.first phase.records
    (slot_of c (image_slot (e + 1))) phase.stands (imaging_passed disk e checkpoint.imaged phase.imaging c left))

-- The segment in use has its last gate.

pub first_gate : (disk : View) (segment : Segment) (checkpoint : CheckpointValue) (state : State)
    → InFirst disk segment checkpoint state → (c : Slots) → MayLeave disk c
    → HasLastGate (slot_of c (segment_slot segment.epoch))
first_gate disk segment checkpoint state phase c left =
    let e = segment.epoch in
    in_use_has_gate e (slot_of c (segment_slot e)) phase.records
    (subst (λ (l : List ℕ). IsInUse e l phase.records)
    (sym (imaging_synced disk e checkpoint.imaged phase.imaging e c left)) phase.in_use)

pub second_gate : (disk : View) (segment : Segment) (checkpoint : CheckpointValue) (mid state : State)
    → (phase : InSecond disk segment checkpoint mid state) → (c : Slots) → MayLeave disk c
    → HasLastGate (slot_of c (segment_slot (phase.former + 1)))
second_gate disk segment checkpoint mid state phase c left =
    let e = phase.former + 1 in
    in_use_has_gate e (slot_of c (segment_slot e)) phase.records
    (subst (λ (l : List ℕ). IsInUse e l phase.records)
    (sym (imaging_synced disk phase.former checkpoint.imaged phase.imaging e c left)) phase.in_use)

-- The phase of a checkpoint.
module _ (disk : View) (segment : Segment) (checkpoint : CheckpointValue) (mid state : State)
    (keeps : IsCheckpointing disk segment checkpoint mid state) where
  pub first_phase : checkpoint.rolled < 3 → InFirst disk segment checkpoint state
  first_phase before =
      elim keeps.phase [ inl first ↦ first | inr second ↦ absurd (omega (arith, before, second.after)) ]

  pub second_phase : checkpoint.rolled ≡ 3 → InSecond disk segment checkpoint mid state
  second_phase after =
      elim keeps.phase [ inl first ↦ absurd (omega (arith, after, first.before)) | inr second ↦ second ]

  -- The contents of the next image's slot after a crash.

  pub image_synced : checkpoint.imaged ≡ 0 → IsSynced disk (image_slot checkpoint.epoch)
  image_synced none = elim keeps.phase as (λ _. IsSynced disk (image_slot checkpoint.epoch)) [
    | inl first ↦ rest_is_synced (image_slot checkpoint.epoch) disk (first.imaging.untouched none)
    | inr second ↦ rest_is_synced (image_slot checkpoint.epoch) disk (second.imaging.untouched none)
  ]

  pub image_shut : 0 < checkpoint.imaged → IsShut disk (image_slot checkpoint.epoch)
  image_shut some = elim keeps.phase as (λ _. IsShut disk (image_slot checkpoint.epoch)) [
    | inl first ↦ subst (λ (n : ℕ). IsShut disk (image_slot n)) (sym first.next) (first.imaging.shut some)
    | inr second ↦ subst (λ (n : ℕ). IsShut disk (image_slot n)) (sym second.epoch) (second.imaging.shut some)
  ]

  -- the next segment's slot is synced until the segment is opened
  pub next_synced : checkpoint.rolled < 3 → IsSynced disk (segment_slot checkpoint.epoch)
  next_synced before =
      let phase = first_phase before in
      imaging_synced disk segment.epoch checkpoint.imaged phase.imaging checkpoint.epoch

  pub next_shut : checkpoint.rolled ≡ 1 → IsShut disk (segment_slot checkpoint.epoch)
  next_shut one =
      let phase = first_phase (omega (arith, one)) in
      let closed : IsClosed (slot_of disk.seen (segment_slot checkpoint.epoch)) =
      subst (λ (n : ℕ). IsClosed (slot_of disk.seen (segment_slot n))) (sym phase.next)
      (phase.rolling.closed (omega (arith, one))) in
      synced_shut (segment_slot checkpoint.epoch) disk (next_synced (omega (arith, one))) closed

-- a store with the invariant during a checkpoint
pub keeps_under_way : (disk : View) (segment : Segment) (found : Option CheckpointValue) (checkpoint : CheckpointValue)
    (mid state : State) → Keeps disk segment found mid state → found ≡ Some checkpoint
    → IsCheckpointing disk segment checkpoint mid state
keeps_under_way disk segment found checkpoint mid state keeps is =
    subst (λ (o : Option CheckpointValue). Keeps disk segment o mid state) is keeps

pub keeps_on : (disk : View) (now segment : Segment) (found : Option CheckpointValue) (checkpoint : CheckpointValue)
    (mid state : State) → now ≡ segment → found ≡ Some checkpoint → IsCheckpointing disk segment checkpoint mid state
    → Keeps disk now found mid state
keeps_on disk now segment found checkpoint mid state same is keeps =
    subst (λ (o : Option CheckpointValue). Keeps disk now o mid state) (sym is)
    (subst (λ (g : Segment). IsCheckpointing disk g checkpoint mid state) (sym same) keeps)
