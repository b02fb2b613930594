-- The steps of rotating keep the invariant, and the contents after a crash during one represent the store's state.
use Rattle.std.proofs.Common.{◌≡◌, inl, inr, ℕ, ◌+◌, ◌<◌, List, ◌∷◌, ◌++◌, [], length, take, drop, ap, subst, arith}
use Rattle.std.specs.Prelude.{Some}
use Rattle.disk.specs.Moments.{View, Passes, Follows, IsSynced}
use Rattle.disk.specs.Slots.{slot_of, with_slot}
use Rattle.ipc_model.specs.state.State.{State}
use Rattle.ipc_model.specs.store.Store.{IsClosed, closed_gate, epoch_encoding, open_gate}
use Rattle.journal.specs.declared.segment.Segment.{Segment}
use Rattle.store_half.proofs.phases.Rolling.{closed_rolling, header_closed, header_rolling, opened_keeps, opened_passes, rolled_keeps, rolled_passes}
use Rattle.store_half.proofs.phases.Stops.{first_phase, keeps_on, keeps_under_way, next_shut, next_synced}
use Rattle.store_half.specs.phases.Phases.{InFirst, IsCheckpointing, IsRolling, Keeps}
use Rattle.slot_steps.specs.Steps.{HasSomeGate, IsClosing, IsShut, IsStillClosed, segment_slot}
use Rattle.store_layout.specs.Changes.{closing_segment, shut_segment}
use Rattle.store_layout.specs.Gates.{StandForState}
use Rattle.store_half.specs.Changes.{FailsToRollClose, FailsToRollHead, FailsToRollOpen, RollsClose, RollsHead, RollsOpen}
use Rattle.store_half.specs.Values.{CheckpointValue, StoreValue}

-- For the views of the disks.

module _ (old new : View) (segment : Segment) (checkpoint : CheckpointValue) (mid state : State)
    (keeps : IsCheckpointing old segment checkpoint mid state) where
  first_of : checkpoint.rolled < 3 → InFirst old segment checkpoint state
  first_of = first_phase old segment checkpoint mid state keeps

  -- the next segment's slot is closed
  close_time : checkpoint.rolled ≡ 0
      → (IsSynced old (segment_slot checkpoint.epoch)
      → Passes old new (Follows old (segment_slot checkpoint.epoch) (IsClosing 16)))
      → Passes old new (Follows old (segment_slot (segment.epoch + 1)) (IsClosing 16))
  close_time none passes =
      subst (λ (n : ℕ). Passes old new (Follows old (segment_slot n) (IsClosing 16)))
      (first_of (omega (arith, none))).next
      (passes (next_synced old segment checkpoint mid state keeps (omega (arith, none))))

  closed_passes : checkpoint.rolled ≡ 0
      → (IsSynced old (segment_slot checkpoint.epoch)
      → Passes old new (Follows old (segment_slot checkpoint.epoch) (IsClosing 16)))
      → Passes old new (StandForState state)
  closed_passes none passes =
      rolled_passes old new segment checkpoint state (first_of (omega (arith, none))) (IsClosing 16)
      (λ was now closing passed. closing_segment segment.epoch was now closing passed) (close_time none passes)

  closed_keeps : checkpoint.rolled ≡ 0
      → (IsSynced old (segment_slot checkpoint.epoch)
      → Passes old new (Follows old (segment_slot checkpoint.epoch) (IsClosing 16)))
      → new.seen ≡ with_slot old.seen (segment_slot checkpoint.epoch) (slot_of new.seen (segment_slot checkpoint.epoch))
      → 0 < length (slot_of new.seen (segment_slot checkpoint.epoch))
      → IsClosed (slot_of new.seen (segment_slot checkpoint.epoch))
      → IsSynced new (segment_slot checkpoint.epoch)
      → IsCheckpointing new segment (record checkpoint { rolled = 1 }) mid state
  closed_keeps none passes others begun closed synced =
      let phase = first_of (omega (arith, none)) in
      let at = phase.next in
      let bytes = slot_of new.seen (segment_slot (segment.epoch + 1)) in
      let is_closed : IsClosed bytes = subst (λ (n : ℕ). IsClosed (slot_of new.seen (segment_slot n))) at closed in
      record {
        image = keeps.image;
        phase = inl (rolled_keeps old new segment checkpoint state phase (IsClosing 16) bytes 1 (close_time none passes)
            (subst (λ (n : ℕ). new.seen ≡ with_slot old.seen (segment_slot n) (slot_of new.seen (segment_slot n))) at
            others) (subst (λ (n : ℕ). IsSynced new (segment_slot n)) at synced) is_closed (omega arith)
            (closed_rolling bytes (segment.epoch + 1)
            (subst (λ (n : ℕ). 0 < length (slot_of new.seen (segment_slot n))) at begun) is_closed));
      }

  -- its header is written
  head_time : checkpoint.rolled ≡ 1
      → (IsShut old (segment_slot checkpoint.epoch)
      → Passes old new (Follows old (segment_slot checkpoint.epoch) IsStillClosed))
      → Passes old new (Follows old (segment_slot (segment.epoch + 1)) IsStillClosed)
  head_time one passes =
      subst (λ (n : ℕ). Passes old new (Follows old (segment_slot n) IsStillClosed))
      (first_of (omega (arith, one))).next (passes (next_shut old segment checkpoint mid state keeps one))

  head_passes : checkpoint.rolled ≡ 1
      → (IsShut old (segment_slot checkpoint.epoch)
      → Passes old new (Follows old (segment_slot checkpoint.epoch) IsStillClosed))
      → Passes old new (StandForState state)
  head_passes one passes =
      rolled_passes old new segment checkpoint state (first_of (omega (arith, one))) IsStillClosed
      (λ was now shut passed. shut_segment segment.epoch now shut) (head_time one passes)

  head_keeps : checkpoint.rolled ≡ 1
      → (IsShut old (segment_slot checkpoint.epoch)
      → Passes old new (Follows old (segment_slot checkpoint.epoch) IsStillClosed))
      → new.seen ≡ with_slot old.seen (segment_slot checkpoint.epoch)
      (take 1 (slot_of old.seen (segment_slot checkpoint.epoch))
      ++ (epoch_encoding checkpoint.epoch ++ closed_gate ∷ [])) → IsSynced new (segment_slot checkpoint.epoch)
      → IsCheckpointing new segment (record checkpoint { rolled = 2 }) mid state
  head_keeps one passes header synced =
      let phase = first_of (omega (arith, one)) in
      let at = phase.next in
      let n = segment.epoch + 1 in
      let slot = slot_of old.seen (segment_slot n) in
      let bytes : List ℕ = take 1 slot ++ (epoch_encoding n ++ closed_gate ∷ []) in
      let is : new.seen ≡ with_slot old.seen (segment_slot n) bytes =
      subst (λ (m : ℕ). new.seen ≡ with_slot old.seen (segment_slot m)
      (take 1 (slot_of old.seen (segment_slot m)) ++ (epoch_encoding m ++ closed_gate ∷ []))) at header in
      record {
        image = keeps.image;
        phase =
            inl (rolled_keeps old new segment checkpoint state phase IsStillClosed bytes 2 (head_time one passes) is
            (subst (λ (m : ℕ). IsSynced new (segment_slot m)) at synced)
            (header_closed slot n (subst (λ (k : ℕ). IsRolling slot n k) one phase.rolling)) (omega arith)
            (header_rolling slot n (subst (λ (k : ℕ). IsRolling slot n k) one phase.rolling)));
      }

  -- it is opened
  open_time : checkpoint.rolled ≡ 2 → Passes old new (Follows old (segment_slot checkpoint.epoch) HasSomeGate)
      → Passes old new (Follows old (segment_slot (segment.epoch + 1)) HasSomeGate)
  open_time two =
      subst (λ (n : ℕ). Passes old new (Follows old (segment_slot n) HasSomeGate)) (first_of (omega (arith, two))).next

  open_passes : checkpoint.rolled ≡ 2 → Passes old new (Follows old (segment_slot checkpoint.epoch) HasSomeGate)
      → Passes old new (StandForState state)
  open_passes two passes =
      opened_passes old new segment checkpoint state (first_of (omega (arith, two))) two (open_time two passes)

  open_keeps : state ≡ mid → checkpoint.rolled ≡ 2
      → Passes old new (Follows old (segment_slot checkpoint.epoch) HasSomeGate)
      → new.seen ≡ with_slot old.seen (segment_slot checkpoint.epoch)
      (open_gate ∷ drop 1 (slot_of old.seen (segment_slot checkpoint.epoch)))
      → IsSynced new (segment_slot checkpoint.epoch)
      → IsCheckpointing new (record { epoch = checkpoint.epoch; records = 0 })
      (record checkpoint { rolled = 3 }) mid state
  open_keeps same two passes opened synced =
      let phase = first_of (omega (arith, two)) in
      let at = phase.next in
      let is =
      subst (λ (n : ℕ). new.seen ≡ with_slot old.seen (segment_slot n)
      (open_gate ∷ drop 1 (slot_of old.seen (segment_slot n)))) at opened in
      record {
        image = keeps.image;
        phase =
            inr (opened_keeps old new segment checkpoint state phase mid same two (open_time two passes) is
            (subst (λ (n : ℕ). IsSynced new (segment_slot n)) at synced));
      }

-- For the store half.

module _ {D : Type 0} (honest : Type 0) (view : D → View) (is_honest : honest) (old new : StoreValue D)
    (mid state : State) where
  under_way : (checkpoint : CheckpointValue) → Keeps (view old.disk) old.segment old.checkpoint mid state
      → old.checkpoint ≡ Some checkpoint → IsCheckpointing (view old.disk) old.segment checkpoint mid state
  under_way checkpoint = keeps_under_way (view old.disk) old.segment old.checkpoint checkpoint mid state

  goes_on : (segment : Segment) (checkpoint : CheckpointValue) → new.segment ≡ segment
      → new.checkpoint ≡ Some checkpoint → IsCheckpointing (view new.disk) segment checkpoint mid state
      → Keeps (view new.disk) new.segment new.checkpoint mid state
  goes_on segment checkpoint = keeps_on (view new.disk) new.segment segment new.checkpoint checkpoint mid state

  pub roll_close_keeps : Keeps (view old.disk) old.segment old.checkpoint mid state → RollsClose honest view old new
      → Keeps (view new.disk) new.segment new.checkpoint mid state
  roll_close_keeps kept step =
      goes_on old.segment (record step.checkpoint { rolled = 1 }) (ap (λ (s : StoreValue D). s.segment) step.rest)
      (ap (λ (s : StoreValue D). s.checkpoint) step.rest)
      (closed_keeps (view old.disk) (view new.disk) old.segment step.checkpoint mid state
      (under_way step.checkpoint kept step.under_way) step.next (step.passes is_honest) (step.others is_honest)
      (step.begun is_honest) (step.closed is_honest)
      (step.synced is_honest))

  pub roll_close_passes : Keeps (view old.disk) old.segment old.checkpoint mid state → RollsClose honest view old new
      → Passes (view old.disk) (view new.disk) (StandForState state)
  roll_close_passes kept step =
      closed_passes (view old.disk) (view new.disk) old.segment step.checkpoint mid state
      (under_way step.checkpoint kept step.under_way) step.next (step.passes is_honest)

  pub roll_close_fails : Keeps (view old.disk) old.segment old.checkpoint mid state
      → FailsToRollClose honest view old new
      → Passes (view old.disk) (view new.disk) (StandForState state)
  roll_close_fails kept step =
      closed_passes (view old.disk) (view new.disk) old.segment step.checkpoint mid state
      (under_way step.checkpoint kept step.under_way) step.next (step.passes is_honest)

  pub roll_head_keeps : Keeps (view old.disk) old.segment old.checkpoint mid state → RollsHead honest view old new
      → Keeps (view new.disk) new.segment new.checkpoint mid state
  roll_head_keeps kept step =
      goes_on old.segment (record step.checkpoint { rolled = 2 }) (ap (λ (s : StoreValue D). s.segment) step.rest)
      (ap (λ (s : StoreValue D). s.checkpoint) step.rest)
      (head_keeps (view old.disk) (view new.disk) old.segment step.checkpoint mid state
      (under_way step.checkpoint kept step.under_way) step.next (step.passes is_honest) (step.header is_honest)
      (step.synced is_honest))

  pub roll_head_passes : Keeps (view old.disk) old.segment old.checkpoint mid state → RollsHead honest view old new
      → Passes (view old.disk) (view new.disk) (StandForState state)
  roll_head_passes kept step =
      head_passes (view old.disk) (view new.disk) old.segment step.checkpoint mid state
      (under_way step.checkpoint kept step.under_way) step.next (step.passes is_honest)

  pub roll_head_fails : Keeps (view old.disk) old.segment old.checkpoint mid state → FailsToRollHead honest view old new
      → Passes (view old.disk) (view new.disk) (StandForState state)
  roll_head_fails kept step =
      head_passes (view old.disk) (view new.disk) old.segment step.checkpoint mid state
      (under_way step.checkpoint kept step.under_way) step.next (step.passes is_honest)

  -- The segment is opened in the state of the checkpoint's image.

  pub roll_open_keeps : Keeps (view old.disk) old.segment old.checkpoint mid state → state ≡ mid
      → RollsOpen honest view old new → Keeps (view new.disk) new.segment new.checkpoint mid state
  roll_open_keeps kept same step =
      goes_on (record { epoch = step.checkpoint.epoch; records = 0 }) (record step.checkpoint { rolled = 3 })
      (ap (λ (s : StoreValue D). s.segment) step.rest) (ap (λ (s : StoreValue D). s.checkpoint) step.rest)
      (open_keeps (view old.disk) (view new.disk) old.segment step.checkpoint mid state
      (under_way step.checkpoint kept step.under_way) same step.next (step.passes is_honest) (step.opened is_honest)
      (step.synced is_honest))

  pub roll_open_passes : Keeps (view old.disk) old.segment old.checkpoint mid state → state ≡ mid
      → RollsOpen honest view old new → Passes (view old.disk) (view new.disk) (StandForState state)
  roll_open_passes kept same step =
      open_passes (view old.disk) (view new.disk) old.segment step.checkpoint mid state
      (under_way step.checkpoint kept step.under_way) step.next (step.passes is_honest)

  pub roll_open_fails : Keeps (view old.disk) old.segment old.checkpoint mid state → state ≡ mid
      → FailsToRollOpen honest view old new
      → Passes (view old.disk) (view new.disk) (StandForState state)
  roll_open_fails kept same step =
      open_passes (view old.disk) (view new.disk) old.segment step.checkpoint mid state
      (under_way step.checkpoint kept step.under_way) step.next (step.passes is_honest)
