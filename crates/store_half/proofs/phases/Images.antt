-- The steps of the next image keep the invariant, and the contents after a crash during one represent the store's
-- state.
use Rattle.std.proofs.Common.{◌≡◌, inl, inr, ℕ, ◌+◌, ◌^◌, ◌<◌, List, length, sym, ap, subst, arith}
use Rattle.std.specs.Prelude.{Option, Some}
use Rattle.checkpoint.specs.Images.{IsFinishing, open_image}
use Rattle.disk.specs.Moments.{View, Passes, Follows, IsSynced}
use Rattle.disk.specs.Slots.{slot_of, with_slot}
use Rattle.ipc_model.specs.state.State.{State}
use Rattle.journal.specs.declared.segment.Segment.{Segment}
use Rattle.store_half.proofs.phases.Imaging.{finished_keeps, finished_passes, first_on, first_passes, second_on, second_passes}
use Rattle.store_half.proofs.phases.Stops.{image_shut, image_synced, keeps_on, keeps_under_way, second_phase}
use Rattle.store_half.specs.phases.Phases.{IsCheckpointing, Keeps}
use Rattle.recover.specs.Kept.{IsKept}
use Rattle.slot_steps.specs.Steps.{IsClosing, IsShut, IsStillClosed, image_slot}
use Rattle.store_layout.specs.Changes.{closing_image, shut_image}
use Rattle.store_layout.specs.Gates.{StandForState}
use Rattle.store_layout.specs.Standing.{IsPassedImage}
use Rattle.store_half.specs.Changes.{ClosesImage, FailsToCloseImage, FailsToFinish, FailsToWritePiece, Finishes, WritesPiece}
use Rattle.store_half.specs.Values.{CheckpointValue, StoreValue}

-- For the views of the disks.

module _ (old new : View) (segment : Segment) (checkpoint : CheckpointValue) (mid state : State)
    (keeps : IsCheckpointing old segment checkpoint mid state) where
  -- The slot is still ignored.

  image_keeps : (step : List ℕ → List ℕ → Type 0) (made : ℕ) → 0 < made
      → Passes old new (Follows old (image_slot checkpoint.epoch) step)
      → new.seen ≡ with_slot old.seen (image_slot checkpoint.epoch) (slot_of new.seen (image_slot checkpoint.epoch))
      → IsShut new (image_slot checkpoint.epoch)
      → IsCheckpointing new segment (record checkpoint { imaged = made }) mid state
  image_keeps step made some passes others shut =
      let time : (n : ℕ) → checkpoint.epoch ≡ n → Passes old new (Follows old (image_slot n) step) =
      λ n at. subst (λ (m : ℕ). Passes old new (Follows old (image_slot m) step)) at passes in
      let is : (n : ℕ) → checkpoint.epoch ≡ n
      → new.seen ≡ with_slot old.seen (image_slot n) (slot_of new.seen (image_slot n)) =
      λ n at. subst (λ (m : ℕ). new.seen ≡ with_slot old.seen (image_slot m) (slot_of new.seen (image_slot m))) at
      others in
      let closed : (n : ℕ) → checkpoint.epoch ≡ n → IsShut new (image_slot n) =
      λ n at. subst (λ (m : ℕ). IsShut new (image_slot m)) at shut in
      record {
        image = keeps.image;
        phase = elim keeps.phase [
          | inl first ↦
              let n = segment.epoch + 1 in
              inl (first_on old new segment checkpoint state first step (time n first.next)
              (slot_of new.seen (image_slot n)) made (is n first.next) (closed n first.next) some)
          | inr second ↦
              let n = second.former + 1 in
              inr (second_on old new segment checkpoint mid state second step (slot_of new.seen (image_slot n)) made
              (time n second.epoch) (is n second.epoch) (closed n second.epoch) some)
        ];
      }

  image_passes : (step : List ℕ → List ℕ → Type 0)
      → ((e : ℕ) (was now : List ℕ) → step was now → IsPassedImage e was → IsPassedImage e now)
      → Passes old new (Follows old (image_slot checkpoint.epoch) step)
      → Passes old new (StandForState state)
  image_passes step passed passes = elim keeps.phase as (λ _. Passes old new (StandForState state)) [
    | inl first ↦ first_passes old new segment checkpoint state first step
        (subst (λ (n : ℕ). Passes old new (Follows old (image_slot n) step)) first.next passes) (passed segment.epoch)
    | inr second ↦ second_passes old new segment checkpoint mid state second step (passed second.former)
        (subst (λ (n : ℕ). Passes old new (Follows old (image_slot n) step)) second.epoch passes)
  ]

  -- it is closed
  close_passes : checkpoint.imaged ≡ 0
      → (IsSynced old (image_slot checkpoint.epoch)
      → Passes old new (Follows old (image_slot checkpoint.epoch) (IsClosing 24)))
      → Passes old new (StandForState state)
  close_passes none passes =
      image_passes (IsClosing 24) closing_image (passes (image_synced old segment checkpoint mid state keeps none))

  -- a piece is written
  write_passes : 0 < checkpoint.imaged
      → (IsShut old (image_slot checkpoint.epoch)
      → Passes old new (Follows old (image_slot checkpoint.epoch) IsStillClosed))
      → Passes old new (StandForState state)
  write_passes some passes =
      image_passes IsStillClosed (λ e was now shut passed. shut_image e now shut)
      (passes (image_shut old segment checkpoint mid state keeps some))

  -- the image is finished

  end_passes : 0 < checkpoint.imaged → checkpoint.rolled ≡ 3 → length checkpoint.encoding < 2 ^ 64
      → (IsShut old (image_slot checkpoint.epoch)
      → Passes old new (Follows old (image_slot checkpoint.epoch)
      (IsFinishing checkpoint.epoch checkpoint.encoding)))
      → Passes old new (StandForState state)
  end_passes some after fits passes =
      let phase = second_phase old segment checkpoint mid state keeps after in
      finished_passes old new segment checkpoint mid state phase checkpoint.encoding keeps.image fits
      (subst (λ (n : ℕ). Passes old new (Follows old (image_slot n) (IsFinishing n checkpoint.encoding))) phase.epoch
      (passes (image_shut old segment checkpoint mid state keeps some)))

  end_keeps : 0 < checkpoint.imaged → checkpoint.rolled ≡ 3 → length checkpoint.encoding < 2 ^ 64
      → (IsShut old (image_slot checkpoint.epoch)
      → Passes old new (Follows old (image_slot checkpoint.epoch)
      (IsFinishing checkpoint.epoch checkpoint.encoding)))
      → new.seen ≡ with_slot old.seen (image_slot checkpoint.epoch) (open_image checkpoint.epoch checkpoint.encoding)
      → IsSynced new (image_slot checkpoint.epoch) → IsKept new segment state
  end_keeps some after fits passes made synced =
      let phase = second_phase old segment checkpoint mid state keeps after in
      finished_keeps old new segment checkpoint mid state phase checkpoint.encoding keeps.image fits
      (subst (λ (n : ℕ). Passes old new (Follows old (image_slot n) (IsFinishing n checkpoint.encoding))) phase.epoch
      (passes (image_shut old segment checkpoint mid state keeps some)))
      (subst (λ (n : ℕ). new.seen ≡ with_slot old.seen (image_slot n) (open_image n checkpoint.encoding)) phase.epoch
      made) (subst (λ (n : ℕ). IsSynced new (image_slot n)) phase.epoch synced)

-- For the store half.

module _ {D : Type 0} (honest : Type 0) (view : D → View) (is_honest : honest) (old new : StoreValue D)
    (mid state : State) where
  under_way : (checkpoint : CheckpointValue) → Keeps (view old.disk) old.segment old.checkpoint mid state
      → old.checkpoint ≡ Some checkpoint → IsCheckpointing (view old.disk) old.segment checkpoint mid state
  under_way checkpoint = keeps_under_way (view old.disk) old.segment old.checkpoint checkpoint mid state

  goes_on : (checkpoint : CheckpointValue) → new.segment ≡ old.segment → new.checkpoint ≡ Some checkpoint
      → IsCheckpointing (view new.disk) old.segment checkpoint mid state
      → Keeps (view new.disk) new.segment new.checkpoint mid state
  goes_on checkpoint = keeps_on (view new.disk) new.segment old.segment new.checkpoint checkpoint mid state

  pub image_close_keeps : Keeps (view old.disk) old.segment old.checkpoint mid state → ClosesImage honest view old new
      → Keeps (view new.disk) new.segment new.checkpoint mid state
  image_close_keeps kept step =
      let known = under_way step.checkpoint kept step.under_way in
      goes_on (record step.checkpoint { imaged = 1 }) (ap (λ (s : StoreValue D). s.segment) step.rest)
      (ap (λ (s : StoreValue D). s.checkpoint) step.rest)
      (image_keeps (view old.disk) (view new.disk) old.segment step.checkpoint mid state known (IsClosing 24) 1
      (omega arith)
      (step.passes is_honest (image_synced (view old.disk) old.segment step.checkpoint mid state known step.next))
      (step.others is_honest) (step.shut is_honest))

  pub image_close_passes : Keeps (view old.disk) old.segment old.checkpoint mid state → ClosesImage honest view old new
      → Passes (view old.disk) (view new.disk) (StandForState state)
  image_close_passes kept step =
      close_passes (view old.disk) (view new.disk) old.segment step.checkpoint mid state
      (under_way step.checkpoint kept step.under_way) step.next (step.passes is_honest)

  pub image_close_fails : Keeps (view old.disk) old.segment old.checkpoint mid state
      → FailsToCloseImage honest view old new
      → Passes (view old.disk) (view new.disk) (StandForState state)
  image_close_fails kept step =
      close_passes (view old.disk) (view new.disk) old.segment step.checkpoint mid state
      (under_way step.checkpoint kept step.under_way) step.next (step.passes is_honest)

  pub piece_keeps : Keeps (view old.disk) old.segment old.checkpoint mid state → WritesPiece honest view old new
      → Keeps (view new.disk) new.segment new.checkpoint mid state
  piece_keeps kept step =
      let known = under_way step.checkpoint kept step.under_way in
      let shut = image_shut (view old.disk) old.segment step.checkpoint mid state known step.next.0 in
      goes_on (record step.checkpoint { imaged = step.checkpoint.imaged + 1 })
      (ap (λ (s : StoreValue D). s.segment) step.rest) (ap (λ (s : StoreValue D). s.checkpoint) step.rest)
      (image_keeps (view old.disk) (view new.disk) old.segment step.checkpoint mid state known IsStillClosed
      (step.checkpoint.imaged + 1) (omega arith) (step.passes is_honest shut) (step.others is_honest)
      (step.shut is_honest shut))

  pub piece_passes : Keeps (view old.disk) old.segment old.checkpoint mid state → WritesPiece honest view old new
      → Passes (view old.disk) (view new.disk) (StandForState state)
  piece_passes kept step =
      write_passes (view old.disk) (view new.disk) old.segment step.checkpoint mid state
      (under_way step.checkpoint kept step.under_way) step.next.0 (step.passes is_honest)

  pub piece_fails : Keeps (view old.disk) old.segment old.checkpoint mid state → FailsToWritePiece honest view old new
      → Passes (view old.disk) (view new.disk) (StandForState state)
  piece_fails kept step =
      write_passes (view old.disk) (view new.disk) old.segment step.checkpoint mid state
      (under_way step.checkpoint kept step.under_way) step.next.0 (step.passes is_honest)

  pub finish_keeps : Keeps (view old.disk) old.segment old.checkpoint mid state → Finishes honest view old new
      → Keeps (view new.disk) new.segment new.checkpoint mid state
  finish_keeps kept step =
      let ended : IsKept (view new.disk) old.segment state =
      end_keeps (view old.disk) (view new.disk) old.segment step.checkpoint mid state
      (under_way step.checkpoint kept step.under_way) (omega (arith, step.next.0)) step.next.1 step.fits
      (step.passes is_honest) (step.made is_honest) (step.synced is_honest) in
      subst (λ (o : Option CheckpointValue). Keeps (view new.disk) new.segment o mid state)
      (sym (ap (λ (s : StoreValue D). s.checkpoint) step.rest))
      (subst (λ (g : Segment). IsKept (view new.disk) g state)
      (sym (ap (λ (s : StoreValue D). s.segment) step.rest)) ended)

  pub finish_passes : Keeps (view old.disk) old.segment old.checkpoint mid state → Finishes honest view old new
      → Passes (view old.disk) (view new.disk) (StandForState state)
  finish_passes kept step =
      end_passes (view old.disk) (view new.disk) old.segment step.checkpoint mid state
      (under_way step.checkpoint kept step.under_way) (omega (arith, step.next.0)) step.next.1 step.fits
      (step.passes is_honest)

  pub finish_fails : Keeps (view old.disk) old.segment old.checkpoint mid state → FailsToFinish honest view old new
      → Passes (view old.disk) (view new.disk) (StandForState state)
  finish_fails kept step =
      end_passes (view old.disk) (view new.disk) old.segment step.checkpoint mid state
      (under_way step.checkpoint kept step.under_way) (omega (arith, step.next.0)) step.next.1 step.fits
      (step.passes is_honest)
