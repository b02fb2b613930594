-- The last segment of a store in use has its last gate if the segment in use has it.
use Rattle.std.specs.Prelude.{ℕ, ◌+◌, ◌%◌, ◌^◌, ◌<◌, List, length}
use Rattle.std.proofs.Common.{◌≡◌, refl, sym, ◌∙◌, subst, inl, inr, arith}
use Rattle.disk.specs.Slots.{Slots, slot_of, with_slot}
use Rattle.ipc_laws.specs.RecoveryLaws.{one_epoch, segment_is_open}
use Rattle.ipc_model.specs.declared.record.Record.{Record}
use Rattle.ipc_model.specs.state.State.{State}
use Rattle.ipc_model.specs.store.Recovery.{IsOfEpoch, IsOpen, segment_header_length}
use Rattle.ipc_model.specs.store.Store.{EncodesSegment}
use Rattle.slot_steps.specs.Steps.{image_slot, segment_slot}
use Rattle.store_layout.specs.Encoded.{segment_header_is}
use Rattle.store_layout.specs.Gates.{HasLastGate, HaveLastGates, IsFollowed}
use Rattle.store_layout.specs.Slots.{by_parity, one_of_two, segment_at}
use Rattle.store_layout.specs.Standing.{as_written, InOne, InTwo, IsPassedSegment}

-- the slot of an epoch, by the slot's number
gate_at : (s : Slots) (e n : ℕ) → n ≡ e % 2 → HasLastGate (slot_of s (segment_slot e))
    → HasLastGate ((as_written s).segment n)
gate_at s e n is gate =
    subst (λ m. HasLastGate ((as_written s).segment m)) (sym is) (subst HasLastGate (sym (segment_at s e)) gate)

-- a segment that follows is of the next epoch
followed_by : (s : Slots) (e f : ℕ) (records : List Record) → e < 2 ^ 64
    → EncodesSegment e (slot_of s (segment_slot e)) records → e ≡ f + 1 → IsFollowed s f
followed_by s e f records fits encoded is =
    subst (λ n. IsOfEpoch (n % 2) n ((as_written s).segment (n % 2))) is
    (subst (IsOfEpoch (e % 2) e) (sym (segment_at s e))
    (segment_header_is e (slot_of s (segment_slot e)) records fits encoded))

same_epoch : (e f : ℕ) (slot : List ℕ) (records : List Record) → IsOfEpoch (e % 2) e slot → f < 2 ^ 64
    → EncodesSegment f slot records → f ≡ e
same_epoch e f slot records is fits encoded =
    one_epoch f e encoded.content is.rest fits is.fits (sym encoded.encoding ∙ is.encoding)

pub one_gates : (s : Slots) (e : ℕ) (base : State) (records : List Record) → InOne s e base records
    → HasLastGate (slot_of s (segment_slot e)) → HaveLastGates s
one_gates s e base records one gate = record {
  last = λ f more fits encoded alone.
      elim (one_of_two e (f % 2) (omega arith)) as (λ _. 0 < length encoded.encoded.rest) [
        | inl own ↦ gate_at s e (f % 2) own gate f more encoded
        | inr next ↦
            let slot : List ℕ = (as_written s).segment (f % 2) in
            let passed : IsPassedSegment e slot =
            subst (λ n. IsPassedSegment e ((as_written s).segment n)) (sym next)
            (subst (IsPassedSegment e) (sym (segment_at s (e + 1))) one.other_segment) in
            elim passed as (λ _. 0 < length encoded.encoded.rest) [
              | inl shut ↦ absurd (shut (segment_is_open f slot more encoded))
              | inr before ↦ absurd (alone (followed_by s e f records one.fits one.segment
                  (omega (arith, before.1, same_epoch before.0 f slot more before.2 fits encoded))))
            ]
      ];
}

pub two_gates : (s : Slots) (e : ℕ) (base : State) (first next : List Record) → InTwo s e base first next
    → HasLastGate (slot_of s (segment_slot (e + 1))) → HaveLastGates s
two_gates s e base first next two gate = record {
  last = λ f more fits encoded alone.
      elim (one_of_two e (f % 2) (omega arith)) as (λ _. 0 < length encoded.encoded.rest) [
        | inl own ↦
            let slot : List ℕ = (as_written s).segment (f % 2) in
            let is : IsOfEpoch (e % 2) e slot =
            subst (λ n. IsOfEpoch (e % 2) e ((as_written s).segment n)) (sym own)
            (subst (IsOfEpoch (e % 2) e) (sym (segment_at s e))
            (segment_header_is e (slot_of s (segment_slot e)) first (omega (arith, two.fits)) two.segment)) in
            absurd (alone (followed_by s (e + 1) f next two.fits two.next_segment
            (omega (arith, same_epoch e f slot more is fits encoded))))
        | inr other ↦ gate_at s (e + 1) (f % 2) other gate f more encoded
      ];
}

-- the segment in use isn't followed
pub one_not_followed : (s : Slots) (e : ℕ) (base : State) (records : List Record) → InOne s e base records
    → IsFollowed s e → ⊥
one_not_followed s e base records one followed =
    let slot : List ℕ = (as_written s).segment ((e + 1) % 2) in
    let passed : IsPassedSegment e slot = subst (IsPassedSegment e) (sym (segment_at s (e + 1))) one.other_segment in
    elim passed as (λ _. ⊥) [
      | inl shut ↦ shut (subst (IsOpen segment_header_length) (sym followed.encoding) (omega arith, refl))
      | inr before ↦ absurd (omega (
        arith,
        before.1,
        one_epoch (e + 1) before.0 followed.rest before.2.rest followed.fits before.2.fits
            (sym followed.encoding ∙ before.2.encoding),
      ))
    ]

-- a change of an image's slot doesn't affect the gates
pub gates_alongside_image : (s : Slots) (x : List ℕ) (e : ℕ) → HaveLastGates s
    → HaveLastGates (with_slot s (image_slot e) x)
gates_alongside_image s x e gates =
    by_parity (λ a b c d. HaveLastGates (with_slot s a x)) (record { last = gates.last })
    (record { last = gates.last }) e
