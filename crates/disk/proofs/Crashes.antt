-- Contents that have, for each slot, either torn bytes or those that a read gives, are post-crash contents.
use Rattle.std.proofs.Common.{◌≡◌, ◌⊎◌, inl, inr, ℕ, ◌≤◌, List, [], ◌∷◌, ◌++◌, length, take, refl, sym, ◌∙◌, ap, subst, arith}
use Rattle.std.specs.Prelude.{true, false}
use Rattle.disk.specs.declared.slot.Slot.{Slot}
use Rattle.disk.specs.declared.slot.Slot.TheVariants.{Image0, Image1, Segment0, Segment1}
use Rattle.disk.specs.declared.log.LoggedCall.{LoggedCall}
use Rattle.disk.specs.declared.log.LoggedCall.TheVariants.{Write, Cut, Sync}
use Rattle.disk.specs.Slots.{Slots, slot_of, with_slot, written_at, TornWrite, TornCut}
use Rattle.disk.specs.Log.{within, seen_after, left_after, replayed, outcomes}
use Rattle.disk.specs.Crashes.{Tears}
use Rattle.disk.specs.Lasting.{StepOn, cut_kept, cut_lost, with_same, write_kept, write_lost}
use Rattle.disk.proofs.Replay.{replayed-push, outcomes_of_left}

-- each slot of c has the torn bytes or those that a read gives
pub record IsMixed (left seen c : Slots) : Type 0 where
  pub image0 : (c.image0 ≡ left.image0) ⊎ (c.image0 ≡ seen.image0)
  pub image1 : (c.image1 ≡ left.image1) ⊎ (c.image1 ≡ seen.image1)
  pub segment0 : (c.segment0 ≡ left.segment0) ⊎ (c.segment0 ≡ seen.segment0)
  pub segment1 : (c.segment1 ≡ left.segment1) ⊎ (c.segment1 ≡ seen.segment1)

step_on : (slot : Slot) (R : List ℕ → List ℕ → Type 0) (P : Slots → Type 0) (left seen : Slots) (y z : List ℕ)
    → R (slot_of left slot) y → R (slot_of seen slot) z → ((c : Slots) → IsMixed left seen c → P c) → (c : Slots)
    → IsMixed (with_slot left slot y) (with_slot seen slot z) c → StepOn slot R P c
step_on Image0 R P left seen y z torn done all c mixed = elim mixed.image0 [
  | inl is ↦ (
    record c { image0 = left.image0 },
    all _ (record { image0 = inl refl; image1 = mixed.image1; segment0 = mixed.segment0; segment1 = mixed.segment1 }),
    subst (R left.image0) (sym is) torn,
    refl,
  )
  | inr is ↦ (
    record c { image0 = seen.image0 },
    all _ (record { image0 = inr refl; image1 = mixed.image1; segment0 = mixed.segment0; segment1 = mixed.segment1 }),
    subst (R seen.image0) (sym is) done,
    refl,
  )
]
step_on Image1 R P left seen y z torn done all c mixed = elim mixed.image1 [
  | inl is ↦ (
    record c { image1 = left.image1 },
    all _ (record { image0 = mixed.image0; image1 = inl refl; segment0 = mixed.segment0; segment1 = mixed.segment1 }),
    subst (R left.image1) (sym is) torn,
    refl,
  )
  | inr is ↦ (
    record c { image1 = seen.image1 },
    all _ (record { image0 = mixed.image0; image1 = inr refl; segment0 = mixed.segment0; segment1 = mixed.segment1 }),
    subst (R seen.image1) (sym is) done,
    refl,
  )
]
step_on Segment0 R P left seen y z torn done all c mixed = elim mixed.segment0 [
  | inl is ↦ (
    record c { segment0 = left.segment0 },
    all _ (record { image0 = mixed.image0; image1 = mixed.image1; segment0 = inl refl; segment1 = mixed.segment1 }),
    subst (R left.segment0) (sym is) torn,
    refl,
  )
  | inr is ↦ (
    record c { segment0 = seen.segment0 },
    all _ (record { image0 = mixed.image0; image1 = mixed.image1; segment0 = inr refl; segment1 = mixed.segment1 }),
    subst (R seen.segment0) (sym is) done,
    refl,
  )
]
step_on Segment1 R P left seen y z torn done all c mixed = elim mixed.segment1 [
  | inl is ↦ (
    record c { segment1 = left.segment1 },
    all _ (record { image0 = mixed.image0; image1 = mixed.image1; segment0 = mixed.segment0; segment1 = inl refl }),
    subst (R left.segment1) (sym is) torn,
    refl,
  )
  | inr is ↦ (
    record c { segment1 = seen.segment1 },
    all _ (record { image0 = mixed.image0; image1 = mixed.image1; segment0 = mixed.segment0; segment1 = inr refl }),
    subst (R seen.segment1) (sym is) done,
    refl,
  )
]

-- a synced slot has what a read gives
sync_on : (slot : Slot) (P : Slots → Type 0) (left seen : Slots) → ((c : Slots) → IsMixed left seen c → P c)
    → (c : Slots) → IsMixed (with_slot left slot (slot_of seen slot)) seen c → P c
    × (slot_of c slot ≡ slot_of seen slot)
sync_on Image0 P left seen all c mixed =
    let same : c.image0 ≡ seen.image0 =
    elim mixed.image0 [ inl is ↦ is | inr is ↦ is ] in (
      all c (record {
        image0 = inr same;
        image1 = mixed.image1;
        segment0 = mixed.segment0;
        segment1 = mixed.segment1;
      }),
      same,
    )
sync_on Image1 P left seen all c mixed =
    let same : c.image1 ≡ seen.image1 =
    elim mixed.image1 [ inl is ↦ is | inr is ↦ is ] in (
      all c (record {
        image0 = mixed.image0;
        image1 = inr same;
        segment0 = mixed.segment0;
        segment1 = mixed.segment1;
      }),
      same,
    )
sync_on Segment0 P left seen all c mixed =
    let same : c.segment0 ≡ seen.segment0 =
    elim mixed.segment0 [ inl is ↦ is | inr is ↦ is ] in (
      all c (record {
        image0 = mixed.image0;
        image1 = mixed.image1;
        segment0 = inr same;
        segment1 = mixed.segment1;
      }),
      same,
    )
sync_on Segment1 P left seen all c mixed =
    let same : c.segment1 ≡ seen.segment1 =
    elim mixed.segment1 [ inl is ↦ is | inr is ↦ is ] in (
      all c (record {
        image0 = mixed.image0;
        image1 = mixed.image1;
        segment0 = mixed.segment0;
        segment1 = inr same;
      }),
      same,
    )

module _ (P : Slots → Type 0) (left seen new : Slots) (all : (c : Slots) → IsMixed left seen c → P c) where
  mixed_on : (slot : Slot) (R : List ℕ → List ℕ → Type 0) (y z : List ℕ) (now : Slots) → R (slot_of left slot) y
      → R (slot_of seen slot) z → new ≡ with_slot left slot y → now ≡ with_slot seen slot z → (c : Slots)
      → IsMixed new now c → StepOn slot R P c
  mixed_on slot R y z now torn done is becomes c mixed =
      step_on slot R P left seen y z torn done all c
      (subst (λ s. IsMixed (with_slot left slot y) s c) becomes (subst (λ s. IsMixed s now c) is mixed))

  -- one more call
  pub tears_on : (call : LoggedCall) → Tears call seen left new → (c : Slots) → IsMixed new (seen_after call seen) c
      → left_after call seen P c
  tears_on (Write slot at bytes true) torn c mixed =
      let begins : within seen slot at ≤ length (slot_of seen slot) = omega arith in
      mixed_on slot (TornWrite (within seen slot at) (length bytes.items)) torn.0
      (written_at (slot_of seen slot) (within seen slot at) bytes.items) _ torn.1
      (write_kept (within seen slot at) (length bytes.items) (slot_of seen slot) bytes.items begins refl) torn.2
      refl c mixed
  tears_on (Write slot at bytes false) torn c mixed =
      mixed_on slot (TornWrite (within seen slot at) (length bytes.items)) torn.0 (slot_of seen slot) seen torn.1
      (write_lost (within seen slot at) (length bytes.items) (slot_of seen slot)) torn.2
      (sym (with_same slot seen)) c mixed
  tears_on (Cut slot len true) torn c mixed =
      mixed_on slot (TornCut len) torn.0 (take len (slot_of seen slot)) _ torn.1
      (cut_kept len (slot_of seen slot)) torn.2 refl c mixed
  tears_on (Cut slot len false) torn c mixed =
      mixed_on slot (TornCut len) torn.0 (slot_of seen slot) seen torn.1 (cut_lost len (slot_of seen slot)) torn.2
      (sym (with_same slot seen)) c mixed
  tears_on (Sync slot) torn c mixed = sync_on slot P left seen all c (subst (λ s. IsMixed s seen c) torn mixed)

-- The torn bytes and what a read gives, after the first calls of a log: each mixture of them is what a crash then may
-- leave.
pub record IsTornReplay (first : Slots) (log : List LoggedCall) (left seen : Slots) : Type 0 where
  pub is_replay : seen ≡ replayed first log
  pub all : (c : Slots) → IsMixed left seen c → outcomes (λ d. d ≡ first) first log c

mixed_same : (first c : Slots) → IsMixed first first c → c ≡ first
mixed_same first c mixed =
    let image0 : c.image0 ≡ first.image0 = elim mixed.image0 [ inl is ↦ is | inr is ↦ is ] in
    let image1 : c.image1 ≡ first.image1 = elim mixed.image1 [ inl is ↦ is | inr is ↦ is ] in
    let segment0 : c.segment0 ≡ first.segment0 = elim mixed.segment0 [ inl is ↦ is | inr is ↦ is ] in
    let segment1 : c.segment1 ≡ first.segment1 = elim mixed.segment1 [ inl is ↦ is | inr is ↦ is ] in
    λ i. record { image0 = image0 i; image1 = image1 i; segment0 = segment0 i; segment1 = segment1 i }

pub torn_replay_none : (first left seen : Slots) → left ≡ first → seen ≡ first → IsTornReplay first [] left seen
unfolding replayed outcomes
torn_replay_none first left seen left_is seen_is = record {
  is_replay = seen_is;
  all =
      λ c mixed. mixed_same first c (subst
      (λ s. IsMixed first s c) seen_is (subst (λ s. IsMixed s seen c) left_is mixed));
}

pub torn_replay_on : (first : Slots) (log new_log : List LoggedCall) (call : LoggedCall)
    (left seen new_left new_seen : Slots) → IsTornReplay first log left seen → new_log ≡ log ++ call ∷ []
    → new_seen ≡ seen_after call seen → Tears call seen left new_left → IsTornReplay first new_log new_left new_seen
torn_replay_on first log new_log call left seen new_left new_seen so_far logged after torn = record {
  is_replay =
      after ∙ ap (seen_after call) so_far.is_replay ∙ sym (replayed-push first log call)
      ∙ ap (replayed first) (sym logged);
  all = λ c mixed.
      let step =
      tears_on (outcomes (λ d. d ≡ first) first log) left seen new_left so_far.all call torn c
      (subst (λ s. IsMixed new_left s c) after mixed) in
      let step_from_replay =
      subst (λ s. left_after call s (outcomes (λ d. d ≡ first) first log) c) so_far.is_replay step in
      subst (λ l. outcomes (λ d. d ≡ first) first l c) (sym logged)
      (outcomes_of_left (λ d. d ≡ first) first log call c step_from_replay);
}

pub left_is_left : (first left seen : Slots) (log : List LoggedCall) → IsTornReplay first log left seen
    → outcomes (λ d. d ≡ first) first log left
left_is_left first left seen log torn =
    torn.all left (record { image0 = inl refl; image1 = inl refl; segment0 = inl refl; segment1 = inl refl })
