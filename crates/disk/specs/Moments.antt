-- A disk over time: what a read gives now, and the post-crash contents at each moment so far.
use Rattle.std.specs.Prelude.{◌≡◌, ◌↔◌, ℕ, ◌+◌, ◌<◌, ◌≤◌, ◌^◌, ◌-◌, min, List, Result, OnErr, OnOk}
use Rattle.disk.specs.declared.slot.Slot.{Slot}
use Rattle.disk.specs.Slots.{Slots, slot_of, with_slot}

-- A disk as the model sees it. Moments are numbered from 0; `moment` is the present one, and `left_at k` has the
-- post-crash contents at moment k: what a crash then may leave. Moments within a call have numbers of their own.
pub record View : Type 1 where
  pub seen : Slots
  pub moment : ℕ
  pub left_at : ℕ → Slots → Type 0

-- what a crash now may leave
abbrev pub MayLeave : View → Slots → Type 0
MayLeave disk c = disk.left_at disk.moment c

-- what a crash at some moment from t on might have left: the crash set of t
abbrev pub LeftSince : View → ℕ → Slots → Type 0
LeftSince disk t c = (k : ℕ) × (t ≤ k) × (k ≤ disk.moment) × disk.left_at k c

-- Time went on from old to new: the past is as it was, and the post-crash contents at each moment since then satisfy P.
pub record Passes (old new : View) (P : Slots → Type 0) : Type 0 where
  pub later : old.moment ≤ new.moment
  pub past : (k : ℕ) (c : Slots) → k ≤ old.moment → new.left_at k c ↔ old.left_at k c
  pub since : (k : ℕ) (c : Slots) → old.moment < k → k ≤ new.moment → new.left_at k c → P c

-- Nothing was written: the slots are as they were, and a crash leaves nothing that it might not have left before.
pub record ReadsOnly (old new : View) : Type 0 where
  pub seen : new.seen ≡ old.seen
  pub time : Passes old new (MayLeave old)

-- what a step on the bytes of one slot may make of the post-crash contents before it; the other slots stay
abbrev pub Follows : View → Slot → (List ℕ → List ℕ → Type 0) → Slots → Type 0
Follows old slot step c =
    (d : Slots) × MayLeave old d × step (slot_of d slot) (slot_of c slot) × (c ≡ with_slot d slot (slot_of c slot))

-- after a crash this slot holds what a read gives now
abbrev pub IsSynced : View → Slot → Type 0
IsSynced disk slot = (c : Slots) → MayLeave disk c → slot_of c slot ≡ slot_of disk.seen slot

-- A count of failures plus one. It stops counting only at the end of its range.
abbrev pub one_more : ℕ → ℕ
one_more failures = min (failures + 1) (2 ^ 64 - 1)

-- a failed call adds one to the count, and no other does
pub record CountsFailure {T E : Type 0} (before now : ℕ) (result : Result T E) : Type 0 where
  pub ok : OnOk result (now ≡ before)
  pub err : OnErr result (now ≡ one_more before)
