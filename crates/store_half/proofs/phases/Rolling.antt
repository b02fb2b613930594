-- The effect of the steps of rotating on a store in the first phase of a checkpoint.
use Rattle.std.proofs.Common.{◌≡◌, inl, inr, ℕ, ◌+◌, ◌<◌, List, [], ◌∷◌, ◌++◌, length, take, drop, refl, sym, ap, subst, ◌∙◌, arith}
use Rattle.disk.specs.Moments.{View, MayLeave, Passes, Follows, IsSynced}
use Rattle.disk.specs.Slots.{Slots, slot_of, with_slot}
use Rattle.ipc_model.specs.calls.Step.{Run}
use Rattle.ipc_model.specs.state.State.{State}
use Rattle.ipc_model.specs.store.Store.{IsClosed, IsInUse, closed_gate, epoch_encoding, open_gate}
use Rattle.journal.specs.declared.segment.Segment.{Segment}
use Rattle.store_half.proofs.phases.Alongside.{imaging_alongside, without_alongside}
use Rattle.store_half.proofs.phases.Stops.{first_gate, first_left, imaging_synced}
use Rattle.store_half.specs.phases.Phases.{InFirst, InSecond, IsRolling, without_image}
use Rattle.recover.proofs.Gates.{empty_has_gate}
use Rattle.recover.proofs.Stages.{empty_in_use, empty_encodes, one_stands, two_stands}
use Rattle.recover.specs.Making.{empty_segment}
use Rattle.slot_steps.proofs.Gates.{after_first, gate_opened}
use Rattle.slot_steps.proofs.Lengths.{own_of}
use Rattle.disk.proofs.Moments.{passes_as}
use Rattle.slot_steps.specs.Steps.{HasSomeGate, segment_slot}
use Rattle.store_layout.specs.Changes.{one_next_segment_changed, one_opened, shut_segment}
use Rattle.store_layout.specs.Slots.{alongside_next_segment, own_segment}
use Rattle.store_layout.specs.Gates.{HasLastGate, StandForState}
use Rattle.store_layout.specs.Standing.{InOne, InTwo, IsPassedSegment}
use Rattle.store_half.specs.Values.{CheckpointValue}

-- The first two steps, by their effect on the next segment's slot.

pub closed_rolling : (slot : List ℕ) (epoch : ℕ) → 0 < length slot → IsClosed slot → IsRolling slot epoch 1
closed_rolling slot epoch begun closed =
    record { begun = λ _. begun; closed = λ _. closed; header = λ two. absurd (omega (arith, two)) }

long_front : (slot tail : List ℕ) → 0 < length slot → 0 < length (take 1 slot ++ tail)
long_front [] tail some = absurd (omega (arith, some))
long_front (gate ∷ rest) tail some = omega arith

closed_gate_front : (slot tail : List ℕ) → 0 < length slot → IsClosed slot → IsClosed (take 1 slot ++ tail)
closed_gate_front [] tail some closed = absurd (omega (arith, some))
closed_gate_front (gate ∷ rest) tail some closed = closed

pub header_closed : (slot : List ℕ) (epoch : ℕ) → IsRolling slot epoch 1
    → IsClosed (take 1 slot ++ (epoch_encoding epoch ++ closed_gate ∷ []))
header_closed slot epoch rolling =
    closed_gate_front slot (epoch_encoding epoch ++ closed_gate ∷ []) (rolling.begun (omega arith))
    (rolling.closed (omega arith))

pub header_rolling : (slot : List ℕ) (epoch : ℕ) → IsRolling slot epoch 1
    → IsRolling (take 1 slot ++ (epoch_encoding epoch ++ closed_gate ∷ [])) epoch 2
header_rolling slot epoch rolling =
    let encoding : List ℕ = epoch_encoding epoch ++ closed_gate ∷ [] in
    record {
      begun = λ _. long_front slot encoding (rolling.begun (omega arith));
      closed = λ _. header_closed slot epoch rolling;
      header = λ _. after_first slot encoding (rolling.begun (omega arith));
    }

module _ (old new : View) (segment : Segment) (checkpoint : CheckpointValue) (state : State)
    (phase : InFirst old segment checkpoint state) where
  -- the next segment's slot is still ignored
  pub rolled_keeps : (step : List ℕ → List ℕ → Type 0) (bytes : List ℕ) (rolled : ℕ)
      → Passes old new (Follows old (segment_slot (segment.epoch + 1)) step)
      → new.seen ≡ with_slot old.seen (segment_slot (segment.epoch + 1)) bytes
      → IsSynced new (segment_slot (segment.epoch + 1)) → IsClosed bytes → rolled < 3
      → IsRolling bytes (segment.epoch + 1) rolled → InFirst new segment (record checkpoint { rolled = rolled }) state
  rolled_keeps step bytes rolled time is synced closed before rolling =
      let n = segment.epoch in
      let slot = segment_slot (n + 1) in
      let stays : slot_of new.seen (segment_slot n) ≡ slot_of old.seen (segment_slot n) =
      ap (λ (s : Slots). slot_of s (segment_slot n)) is ∙ (alongside_next_segment old.seen bytes n).2 in
      record {
        before = before;
        next = phase.next;
        fits = phase.fits;
        imaging = imaging_alongside old new (n + 1) step bytes time is synced n checkpoint.imaged phase.imaging;
        rolling =
            subst (λ (l : List ℕ). IsRolling l (n + 1) rolled) (sym (own_of slot old.seen new.seen bytes is)) rolling;
        base = phase.base;
        records = phase.records;
        stands =
            subst (λ (s : Slots). InOne s n phase.base phase.records)
            (sym (without_alongside old new (n + 1) step bytes time is synced n))
            (one_next_segment_changed (without_image old n) n phase.base phase.records bytes phase.stands
            (shut_segment n bytes closed));
        in_use = subst (λ (l : List ℕ). IsInUse n l phase.records) (sym stays) phase.in_use;
        run = phase.run;
        counted = phase.counted;
      }

  -- the gate of the segment in use, whatever the next segment's slot contains
  own_gate : (c : Slots) → MayLeave old c → (x : List ℕ)
      → HasLastGate (slot_of (with_slot c (segment_slot (segment.epoch + 1)) x) (segment_slot segment.epoch))
  own_gate c left x =
      subst HasLastGate (sym (alongside_next_segment c x segment.epoch).2)
      (first_gate old segment checkpoint state phase c left)

  pub rolled_passes : (step : List ℕ → List ℕ → Type 0)
      → ((was now : List ℕ) → step was now → IsPassedSegment segment.epoch was → IsPassedSegment segment.epoch now)
      → Passes old new (Follows old (segment_slot (segment.epoch + 1)) step)
      → Passes old new (StandForState state)
  rolled_passes step passed time =
      let n = segment.epoch in
      let slot = segment_slot (n + 1) in
      passes_as old new (Follows old slot step) (StandForState state) time (λ c made.
      let one = first_left old segment checkpoint state phase made.0 made.1 in
      let x = slot_of c slot in
      subst (StandForState state) (sym made.3)
      (one_stands (with_slot made.0 slot x) n phase.base state phase.records
      (one_next_segment_changed made.0 n phase.base phase.records x one
      (passed (slot_of made.0 slot) x made.2 one.other_segment)) phase.run (own_gate made.0 made.1 x)))

  -- the gate is followed by the whole rest of an empty segment
  after_gate : checkpoint.rolled ≡ 2
      → drop 1 (slot_of old.seen (segment_slot (segment.epoch + 1))) ≡ epoch_encoding (segment.epoch + 1)
      ++ closed_gate ∷ []
  after_gate two = phase.rolling.header two

  -- it is opened
  pub opened_keeps : (mid : State) → state ≡ mid → checkpoint.rolled ≡ 2
      → Passes old new (Follows old (segment_slot (segment.epoch + 1)) HasSomeGate)
      → new.seen ≡ with_slot old.seen (segment_slot (segment.epoch + 1))
      (open_gate ∷ drop 1 (slot_of old.seen (segment_slot (segment.epoch + 1))))
      → IsSynced new (segment_slot (segment.epoch + 1))
      → InSecond new (record { epoch = checkpoint.epoch; records = 0 }) (record checkpoint { rolled = 3 }) mid state
  opened_keeps mid same two time is synced =
      let n = segment.epoch in
      let slot = segment_slot (n + 1) in
      let bytes : List ℕ = open_gate ∷ drop 1 (slot_of old.seen slot) in
      let empty : bytes ≡ empty_segment (n + 1) = ap (λ (l : List ℕ). open_gate ∷ l) (after_gate two) in
      record {
        after = refl;
        former = n;
        next = phase.next;
        epoch = phase.next;
        imaging = imaging_alongside old new (n + 1) HasSomeGate bytes time is synced n checkpoint.imaged phase.imaging;
        base = phase.base;
        first = phase.records;
        records = [];
        stands =
            subst (λ (s : Slots). InTwo s n phase.base phase.records [])
            (sym (without_alongside old new (n + 1) HasSomeGate bytes time is synced n))
            (one_opened (without_image old n) n phase.base phase.records [] bytes phase.stands phase.fits
            (empty_encodes (n + 1) bytes empty));
        in_use = empty_in_use (n + 1) (slot_of new.seen slot) (own_of slot old.seen new.seen bytes is ∙ empty);
        run_first = subst (λ (s : State). Run phase.base phase.records s) same phase.run;
        run = same;
        counted = refl;
      }

  pub opened_passes : checkpoint.rolled ≡ 2
      → Passes old new (Follows old (segment_slot (segment.epoch + 1)) HasSomeGate)
      → Passes old new (StandForState state)
  opened_passes two time =
      let n = segment.epoch in
      let slot = segment_slot (n + 1) in
      passes_as old new (Follows old slot HasSomeGate) (StandForState state) time (λ c made.
      let one = first_left old segment checkpoint state phase made.0 made.1 in
      let x = slot_of c slot in
      let beyond : drop 1 (slot_of made.0 slot) ≡ epoch_encoding (n + 1) ++ closed_gate ∷ [] =
      ap (λ (l : List ℕ). drop 1 l) (imaging_synced old n checkpoint.imaged phase.imaging (n + 1) made.0 made.1)
      ∙ after_gate two in
      subst (StandForState state) (sym made.3)
      (elim (gate_opened (epoch_encoding (n + 1) ++ closed_gate ∷ []) (slot_of made.0 slot) x beyond made.2) [
        | inl shut ↦ one_stands (with_slot made.0 slot x) n phase.base state phase.records
            (one_next_segment_changed made.0 n phase.base phase.records x one (shut_segment n x shut)) phase.run
            (own_gate made.0 made.1 x)
        | inr whole ↦ two_stands (with_slot made.0 slot x) n phase.base state state phase.records []
            (one_opened made.0 n phase.base phase.records [] x one phase.fits (empty_encodes (n + 1) x whole)) phase.run
            refl (subst HasLastGate (sym (own_segment made.0 x (n + 1))) (empty_has_gate (n + 1) x whole))
      ]))
