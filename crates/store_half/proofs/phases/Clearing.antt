-- A step that clears the slot of the next epoch's segment keeps the invariant, and a crash during the step leaves slots
-- that represent the same state.
use Rattle.std.proofs.Common.{◌≡◌, ℕ, ◌+◌, List, None, sym, ap, subst, ◌∙◌}
use Rattle.std.specs.Prelude.{Option}
use Rattle.disk.specs.declared.slot.Slot.{Slot}
use Rattle.disk.specs.Moments.{View, MayLeave, Passes, Follows, ReadsOnly}
use Rattle.disk.specs.Slots.{Slots, slot_of, with_slot}
use Rattle.ipc_model.specs.state.State.{State}
use Rattle.ipc_model.specs.store.Store.{IsInUse}
use Rattle.journal.specs.declared.segment.Segment.{Segment}
use Rattle.store_half.specs.phases.Phases.{Keeps}
use Rattle.recover.proofs.Gates.{in_use_has_gate}
use Rattle.recover.proofs.Rest.{rest_after, rest_is_synced, rest_kept}
use Rattle.recover.proofs.Stages.{one_stands}
use Rattle.recover.specs.Kept.{IsKept}
use Rattle.disk.proofs.Moments.{passes_as, with_own}
use Rattle.slot_steps.specs.Steps.{ClearsSlot, IsClosing, segment_slot}
use Rattle.store_layout.specs.Changes.{closing_segment, one_next_segment_changed, shut_segment}
use Rattle.store_layout.specs.Slots.{alongside_next_segment}
use Rattle.store_layout.specs.Gates.{StandForState}
use Rattle.store_layout.specs.Standing.{InOne, IsPassedSegment}
use Rattle.store_half.specs.Changes.{Clears, FailsToClear, FindsClear}
use Rattle.store_half.specs.Values.{CheckpointValue, StoreValue}

-- For the views of the disks.

module _ (old new : View) (segment : Segment) (state : State) (kept : IsKept old segment state) where
  abbrev next_slot : Slot
  next_slot = segment_slot (segment.epoch + 1)

  -- synced slots with other bytes in the next segment's slot, which is ignored
  changed_stands : (c : Slots) → c ≡ old.seen → (x : List ℕ) → IsPassedSegment segment.epoch x
      → StandForState state (with_slot c next_slot x)
  changed_stands c at_rest x passed =
      let n = segment.epoch in
      let changed : Slots = with_slot old.seen next_slot x in
      let used : IsInUse n (slot_of changed (segment_slot n)) kept.records =
      subst (λ (l : List ℕ). IsInUse n l kept.records) (sym (alongside_next_segment old.seen x n).2) kept.in_use in
      subst (λ (s : Slots). StandForState state (with_slot s next_slot x)) (sym at_rest)
      (one_stands changed n kept.base state kept.records
      (one_next_segment_changed old.seen n kept.base kept.records x kept.stands passed) kept.run
      (in_use_has_gate n (slot_of changed (segment_slot n)) kept.records used))

  cleared_passes : Passes old new (Follows old next_slot (IsClosing 16)) → Passes old new (StandForState state)
  cleared_passes time =
      passes_as old new (Follows old next_slot (IsClosing 16)) (StandForState state) time (λ c made.
      let same = kept.at_rest made.0 made.1 in
      let x = slot_of c next_slot in
      let was : IsPassedSegment segment.epoch (slot_of made.0 next_slot) =
      subst (λ (s : Slots). IsPassedSegment segment.epoch (slot_of s next_slot)) (sym same)
      kept.stands.other_segment in
      subst (StandForState state) (sym made.3)
      (changed_stands made.0 same x (closing_segment segment.epoch (slot_of made.0 next_slot) x made.2 was)))

  cleared_keeps : (most : ℕ) → Passes old new (Follows old next_slot (IsClosing 16))
      → ClearsSlot 16 most old new next_slot → IsKept new segment state
  cleared_keeps most time clears =
      let n = segment.epoch in
      let bytes : List ℕ = slot_of new.seen next_slot in
      let stays : slot_of new.seen (segment_slot n) ≡ slot_of old.seen (segment_slot n) =
      ap (λ (s : Slots). slot_of s (segment_slot n)) clears.others ∙ (alongside_next_segment old.seen bytes n).2 in
      record {
        at_rest = rest_after next_slot old new (IsClosing 16) bytes time clears.others clears.synced kept.at_rest;
        base = kept.base;
        records = kept.records;
        stands =
            subst (λ (s : Slots). InOne s n kept.base kept.records) (sym clears.others)
            (one_next_segment_changed old.seen n kept.base kept.records bytes kept.stands
            (shut_segment n bytes clears.closed));
        in_use = subst (λ (l : List ℕ). IsInUse n l kept.records) (sym stays) kept.in_use;
        run = kept.run;
        counted = kept.counted;
      }

  -- the slot is read, and needs no step

  found_passes : ReadsOnly old new → Passes old new (StandForState state)
  found_passes reads =
      passes_as old new (MayLeave old) (StandForState state) reads.time (λ c left.
      let same = kept.at_rest c left in
      subst (StandForState state) (with_own next_slot c)
      (changed_stands c same (slot_of c next_slot)
      (subst (λ (s : Slots). IsPassedSegment segment.epoch (slot_of s next_slot)) (sym same)
      kept.stands.other_segment)))

  found_keeps : ReadsOnly old new → IsKept new segment state
  found_keeps reads =
      let n = segment.epoch in
      record {
        at_rest = rest_kept old new reads.time reads.seen kept.at_rest;
        base = kept.base;
        records = kept.records;
        stands = subst (λ (s : Slots). InOne s n kept.base kept.records) (sym reads.seen) kept.stands;
        in_use =
            subst (λ (s : Slots). IsInUse n (slot_of s (segment_slot n)) kept.records) (sym reads.seen) kept.in_use;
        run = kept.run;
        counted = kept.counted;
      }

-- For the store half.

-- a store with the invariant outside a checkpoint
outside : (disk : View) (segment : Segment) (found : Option CheckpointValue) (mid state : State)
    → Keeps disk segment found mid state → found ≡ None → IsKept disk segment state
outside disk segment found mid state keeps none =
    subst (λ (o : Option CheckpointValue). Keeps disk segment o mid state) none keeps

module _ {D : Type 0} (honest : Type 0) (view : D → View) (is_honest : honest) (old new : StoreValue D)
    (mid state : State) where
  is_kept : Keeps (view old.disk) old.segment old.checkpoint mid state → old.checkpoint ≡ None
      → IsKept (view old.disk) old.segment state
  is_kept = outside (view old.disk) old.segment old.checkpoint mid state

  stays_kept : new.segment ≡ old.segment → new.checkpoint ≡ None → IsKept (view new.disk) old.segment state
      → Keeps (view new.disk) new.segment new.checkpoint mid state
  stays_kept same none kept =
      subst (λ (o : Option CheckpointValue). Keeps (view new.disk) new.segment o mid state) (sym none)
      (subst (λ (g : Segment). IsKept (view new.disk) g state) (sym same) kept)

  -- the contents of the slot after a crash before the step are those that reads returned
  clear_time : Keeps (view old.disk) old.segment old.checkpoint mid state → Clears honest view old new
      → Passes (view old.disk) (view new.disk)
      (Follows (view old.disk) (segment_slot (old.segment.epoch + 1)) (IsClosing 16))
  clear_time kept step =
      step.passes is_honest
      (rest_is_synced (segment_slot (old.segment.epoch + 1)) (view old.disk) (is_kept kept step.possible.0).at_rest)

  pub clear_keeps : Keeps (view old.disk) old.segment old.checkpoint mid state → Clears honest view old new
      → Keeps (view new.disk) new.segment new.checkpoint mid state
  clear_keeps kept step =
      stays_kept (ap (λ (s : StoreValue D). s.segment) step.rest)
      (ap (λ (s : StoreValue D). s.checkpoint) step.rest ∙ step.possible.0)
      (cleared_keeps (view old.disk) (view new.disk) old.segment state (is_kept kept step.possible.0) _
      (clear_time kept step) (step.clears is_honest))

  pub clear_passes : Keeps (view old.disk) old.segment old.checkpoint mid state → Clears honest view old new
      → Passes (view old.disk) (view new.disk) (StandForState state)
  clear_passes kept step =
      cleared_passes (view old.disk) (view new.disk) old.segment state (is_kept kept step.possible.0)
      (clear_time kept step)

  pub clear_fails : Keeps (view old.disk) old.segment old.checkpoint mid state → FailsToClear honest view old new
      → Passes (view old.disk) (view new.disk) (StandForState state)
  clear_fails kept step =
      let was = is_kept kept step.possible.0 in
      cleared_passes (view old.disk) (view new.disk) old.segment state was
      (step.passes is_honest (rest_is_synced (segment_slot (old.segment.epoch + 1)) (view old.disk) was.at_rest))

  -- no step is left

  pub find_keeps : Keeps (view old.disk) old.segment old.checkpoint mid state → FindsClear honest view old new
      → Keeps (view new.disk) new.segment new.checkpoint mid state
  find_keeps kept finds =
      stays_kept (ap (λ (s : StoreValue D). s.segment) finds.rest)
      (ap (λ (s : StoreValue D). s.checkpoint) finds.rest ∙ finds.possible.0)
      (found_keeps (view old.disk) (view new.disk) old.segment state (is_kept kept finds.possible.0)
      (finds.finds is_honest).reads)

  pub find_passes : Keeps (view old.disk) old.segment old.checkpoint mid state → FindsClear honest view old new
      → Passes (view old.disk) (view new.disk) (StandForState state)
  find_passes kept finds =
      found_passes (view old.disk) (view new.disk) old.segment state (is_kept kept finds.possible.0)
      (finds.finds is_honest).reads
