-- Disks that are synced, and still are after changes of one slot.
use Rattle.std.proofs.Common.{◌≡◌, inl, inr, ℕ, List, sym, ap, subst, ◌∙◌}
use Rattle.disk.specs.declared.slot.Slot.{Slot}
use Rattle.disk.specs.Moments.{View, MayLeave, Passes, Follows, IsSynced}
use Rattle.disk.specs.Slots.{Slots, slot_of, with_slot}
use Rattle.disk.proofs.Moments.{left_now, left_before, passes_as, with_own, with_twice}
use Rattle.recover.specs.AtRest.{IsAtRest}
use Rattle.recover.specs.Making.{DiffersIn}

-- a crash leaves the contents that reads return, except in this slot, of which it may leave anything
abbrev pub IsAtRestBut : Slot → View → Type 0
IsAtRestBut slot disk = (c : Slots) → MayLeave disk c → c ≡ with_slot disk.seen slot (slot_of c slot)

pub rest_kept : (old new : View) → Passes old new (MayLeave old) → new.seen ≡ old.seen → IsAtRest old → IsAtRest new
rest_kept old new time same rest c left = rest c (left_before old new time c left) ∙ sym same

pub rest_is_synced : (slot : Slot) (disk : View) → IsAtRest disk → IsSynced disk slot
rest_is_synced slot disk rest c left = ap (λ (s : Slots). slot_of s slot) (rest c left)

-- a write or a truncation of one slot of a synced disk
pub rest_called : (slot : Slot) (old new : View) (step : List ℕ → List ℕ → Type 0) → IsAtRest old
    → Passes old new (Follows old slot step) → Passes old new (DiffersIn old.seen slot (step (slot_of old.seen slot)))
rest_called slot old new step rest time =
    passes_as old new (Follows old slot step) (DiffersIn old.seen slot (step (slot_of old.seen slot))) time (λ c made.
    subst (λ (d : Slots). step (slot_of d slot) (slot_of c slot) × (c ≡ with_slot d slot (slot_of c slot)))
    (rest made.0 made.1) (made.2, made.3))

-- A disk that is synced except for one slot.

pub rest_but : (slot : Slot) (disk : View) → IsAtRest disk → IsAtRestBut slot disk
rest_but slot disk rest c left =
    sym (with_own slot c) ∙ ap (λ (s : Slots). with_slot s slot (slot_of c slot)) (rest c left)

-- a write or a truncation of that slot
pub rest_but_changed : (slot : Slot) (old new : View) (step : List ℕ → List ℕ → Type 0) (bytes : List ℕ)
    → Passes old new (Follows old slot step) → new.seen ≡ with_slot old.seen slot bytes → IsAtRestBut slot old
    → IsAtRestBut slot new
rest_but_changed slot old new step bytes time is rest c left =
    let y = slot_of c slot in
    let over : with_slot new.seen slot y ≡ with_slot old.seen slot y =
    ap (λ (s : Slots). with_slot s slot y) is ∙ with_twice slot old.seen bytes y in
    let at_old : c ≡ with_slot old.seen slot y = elim (left_now old new (Follows old slot step) time c left) [
      | inl before ↦ rest c before
      | inr since ↦ since.3 ∙ ap (λ (s : Slots). with_slot s slot y) (rest since.0 since.1)
          ∙ with_twice slot old.seen (slot_of since.0 slot) y
    ] in
    at_old ∙ sym over

-- the sync of that slot
pub rest_synced : (slot : Slot) (old new : View) → Passes old new (MayLeave old) → new.seen ≡ old.seen
    → IsSynced new slot → IsAtRestBut slot old → IsAtRest new
rest_synced slot old new time same synced rest c left =
    rest c (left_before old new time c left) ∙ (λ i. with_slot (sym same i) slot (synced c left i))
    ∙ with_own slot new.seen

-- steps on that slot that end with its sync
pub rest_after : (slot : Slot) (old new : View) (step : List ℕ → List ℕ → Type 0) (bytes : List ℕ)
    → Passes old new (Follows old slot step) → new.seen ≡ with_slot old.seen slot bytes → IsSynced new slot
    → IsAtRest old → IsAtRest new
rest_after slot old new step bytes time is synced rest c left =
    rest_but_changed slot old new step bytes time is (rest_but slot old rest) c left ∙ ap
    (λ (l : List ℕ). with_slot new.seen slot l) (synced c left) ∙ with_own slot new.seen
