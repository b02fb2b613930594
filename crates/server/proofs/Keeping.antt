-- What a store stands for while a call's record is appended to it, and after that.
use Rattle.std.proofs.Common.{◌≡◌, ◌⊎◌, inl, inr, ℕ, ◌<◌, ◌≤◌, true, [], ◌∷◌, Option, refl, sym, subst, arith}
use Rattle.codes.specs.declared.limits.TheConstants.{MAX_RECORDS}
use Rattle.disk.specs.Moments.{View, LeftSince, Passes, IsSynced}
use Rattle.disk.specs.Slots.{Slots}
use Rattle.ipc_laws.specs.NumberedSteps.{kept_fits}
use Rattle.ipc_model.specs.calls.Step.{Step, has_record}
use Rattle.ipc_model.specs.declared.call.Call.{Call}
use Rattle.ipc_model.specs.declared.reply.Reply.{Reply}
use Rattle.ipc_model.specs.state.State.{State}
use Rattle.ipc_model.specs.encodings.Encodings.{FitsCall, canonical_record, IsRecord}
use Rattle.journal.specs.Batch.{BatchValue, Holds}
use Rattle.store_fault.specs.declared.fault.StoreFault.{StoreFault}
use Rattle.store_fault.specs.declared.fault.StoreFault.TheVariants.{Device, NoMemory}
use Rattle.journal.specs.declared.segment.Segment.{Segment}
use Rattle.system.specs.Passed.{IsReadyBatch, with_more}
use Rattle.system.specs.Passed.{Keeps}
use Rattle.system.proofs.Passed.{append_keeps, append_mid, kept_stands, kept_synced}
use Rattle.server.specs.Keeping.{IsBeforeOrAfter, IsHeld}
use Rattle.disk.proofs.Moments.{passes_as}
use Rattle.slot_steps.specs.Steps.{segment_slot}
use Rattle.std.proofs.lemmas.Bool.{cases_lt}
use Rattle.system.specs.Passed.{IsAppended, PassesAppend}
use Rattle.system.specs.Passed.{CheckpointValue, StoreValue}
use Rattle.system.specs.Core.{SystemValue}
use Rattle.system.specs.GoingOn.{IsStanding, TakesMemory}
use Rattle.system.specs.Passed.{entry_of}

-- a crash while a store is kept leaves its state
pub kept_held : {D : Type 0} (view : D → View) (store : StoreValue D) (state : State) → IsStanding view store state
    → IsHeld (view store.disk) state
kept_held view store state standing =
    kept_stands (view store.disk) store.segment store.checkpoint standing.0 state standing.1

-- one record, as a batch of its own
one_ready : (before after : State) (count space : ℕ) (c : Call) (answer : Reply) (batch : BatchValue) → FitsCall c
    → Step before space c answer after → IsRecord (canonical_record (entry_of space c answer)) → count < MAX_RECORDS
    → Holds count (entry_of space c answer ∷ []) batch
    → IsReadyBatch before after count (entry_of space c answer ∷ []) batch
one_ready before after count space c answer batch in_range step fits room holds = record {
  run = (after, inl step, refl);
  fit = ((in_range, kept_fits answer fits.reply.fits), tt);
  are = (fits, tt);
  some = omega arith;
  room = omega (arith, room);
  holds = holds;
}

pub batch_stands : (old new : View) (segment : Segment) (checkpoint : Option CheckpointValue) (mid before after : State)
    (space : ℕ) (c : Call) (answer : Reply) (batch : BatchValue) → Keeps old segment checkpoint mid before → FitsCall c
    → Step before space c answer after → IsRecord (canonical_record (entry_of space c answer))
    → has_record c answer ≡ true → segment.records < MAX_RECORDS
    → Holds segment.records (entry_of space c answer ∷ []) batch
    → (IsSynced old (segment_slot segment.epoch) → PassesAppend segment.epoch old new batch)
    → Passes old new (IsBeforeOrAfter before space c after)
batch_stands old new segment checkpoint mid before after space c answer batch kept in_range step fits recorded room
    holds passes =
    let ready = one_ready before after segment.records space c answer batch in_range step fits room holds in
    passes_as old new _ (IsBeforeOrAfter before space c after)
    (passes (kept_synced old segment checkpoint mid before kept))
    (λ left made. elim (append_mid old segment checkpoint mid before after
    (entry_of space c answer ∷ []) batch kept ready left made) [
      | inl first ↦ inl first
      | inr last ↦ inr (answer, step, recorded, last)
    ])

pub batch_kept : (old new : View) (segment : Segment) (checkpoint : Option CheckpointValue) (mid before after : State)
    (space : ℕ) (c : Call) (answer : Reply) (batch : BatchValue) → Keeps old segment checkpoint mid before → FitsCall c
    → Step before space c answer after → IsRecord (canonical_record (entry_of space c answer))
    → segment.records < MAX_RECORDS → Holds segment.records (entry_of space c answer ∷ []) batch
    → IsAppended segment.epoch old.seen new.seen batch → IsSynced new (segment_slot segment.epoch)
    → (IsSynced old (segment_slot segment.epoch) → PassesAppend segment.epoch old new batch)
    → Keeps new (with_more segment 1) checkpoint mid after
batch_kept old new segment checkpoint mid before after space c answer batch kept in_range step fits room holds stored
    synced passes =
    append_keeps old new segment checkpoint mid before after (entry_of space c answer ∷ []) batch kept
    (one_ready before after segment.records space c answer batch in_range step fits room holds) stored synced
    (passes (kept_synced old segment checkpoint mid before kept))

-- post-crash contents with one property have another one too
pub passes_so : (old new : View) (P Q : Slots → Type 0) → Passes old new P → ((c : Slots) → P c → Q c)
    → Passes old new Q
passes_so old new P Q time f = passes_as old new P Q time f

later_or_now : (m n : ℕ) → m ≤ n → (m < n) ⊎ (n ≤ m)
later_or_now m n le = elim (cases_lt m n) [ inl later ↦ inl later | inr now ↦ inr now ]

-- The post-crash contents at a moment from the beginning of a call on.
pub since_held : (old new : View) (before after : State) (space : ℕ) (call : Call) → IsHeld old before
    → Passes old new (IsBeforeOrAfter before space call after) → (c : Slots) → LeftSince new old.moment c
    → IsBeforeOrAfter before space call after c
since_held old new before after space call held time c left = elim (later_or_now old.moment left.0 left.1) [
  | inl later ↦ time.since left.0 c later left.2 left.3
  | inr now ↦
      let same : left.0 ≡ old.moment = omega (arith, now, left.1) in
      inl (held c (subst (λ k. old.left_at k c) same ((time.past left.0 c now).0 left.3)))
]

-- no time passes on a disk that is the same
pub no_time : {D : Type 0} (view : D → View) (old new : D) (P : Slots → Type 0) → new ≡ old
    → Passes (view old) (view new) P
no_time view old new P same =
    subst (λ d. Passes (view old) (view d) P) (sym same)
    (record {
      later = omega arith;
      past = λ k c _. (λ left. left, λ left. left);
      since = λ k c later until _. absurd (omega arith);
    })

-- a fault that is out of memory, and no other: what is due allocates, and nothing changed
pub is_wanted : {D : Type 0} (records : ℕ) (old new : SystemValue D) (fault : StoreFault) → fault ≡ NoMemory
    → (fault ≡ Device) ⊎ ((fault ≡ NoMemory) × TakesMemory records old.store old.store.checkpoint × (new ≡ old))
    → TakesMemory records old.store old.store.checkpoint × (new ≡ old)
is_wanted records old new fault short is =
    elim is as (λ _. TakesMemory records old.store old.store.checkpoint × (new ≡ old))
    [ inl device ↦ absurd (cc (device, short)) | inr wanted ↦ (wanted.1, wanted.2) ]

-- a fault that isn't out of memory is the device's
pub is_of_device : {D : Type 0} (records : ℕ) (old new : SystemValue D) (fault : StoreFault) → (fault ≡ NoMemory → ⊥)
    → (fault ≡ Device) ⊎ ((fault ≡ NoMemory) × TakesMemory records old.store old.store.checkpoint × (new ≡ old))
    → fault ≡ Device
is_of_device records old new fault other is =
    elim is as (λ _. fault ≡ Device) [ inl device ↦ device | inr wanted ↦ absurd (other wanted.0) ]
