-- The contents that a crash may leave in one slot, whatever it might have left in the others before.
use Rattle.std.proofs.Common.{◌≡◌, inl, inr, ℕ, zero, suc, ◌<◌, List, [], ◌∷◌, take, get_or, sym, ap, subst, ◌∙◌, arith, Result, Ok, Err, OnOk}
use Rattle.disk.specs.declared.slot.Slot.{Slot}
use Rattle.disk.specs.Moments.{View, MayLeave, Passes, Follows, IsSynced}
use Rattle.disk.specs.Slots.{Slots, slot_of, with_slot, TornWrite, TornCut}
use Rattle.ipc_model.specs.store.Store.{IsClosed}
use Rattle.slot_steps.specs.Steps.{IsShut, IsStillClosed}
use Rattle.disk.proofs.Moments.{left_now, left_before, passes_then, passes_as, with_own, with_twice}

-- the contents that a crash might have left before, if they satisfy the step
pub follows_self : (slot : Slot) (old : View) (step : List ℕ → List ℕ → Type 0) (c : Slots) → MayLeave old c
    → step (slot_of c slot) (slot_of c slot) → Follows old slot step c
follows_self slot old step c left is = (c, left, is, sym (with_own slot c))

-- a weaker description of the step's effect on the contents after a crash
pub follows_as : (slot : Slot) (old new : View) (P R : List ℕ → List ℕ → Type 0) → Passes old new (Follows old slot P)
    → ((d : Slots) (after : List ℕ) → MayLeave old d → P (slot_of d slot) after → R (slot_of d slot) after)
    → Passes old new (Follows old slot R)
follows_as slot old new P R time less =
    passes_as old new (Follows old slot P) (Follows old slot R) time
    (λ c made. (made.0, made.1, less made.0 (slot_of c slot) made.1 made.2, made.3))

-- two successive steps
pub follows_join : (slot : Slot) (old mid : View) (P Q R : List ℕ → List ℕ → Type 0)
    → Passes old mid (Follows old slot P)
    → ((d : Slots) (after : List ℕ) → MayLeave old d → Q (slot_of d slot) after → R (slot_of d slot) after)
    → ((d : Slots) (between after : List ℕ) → MayLeave old d → P (slot_of d slot) between → Q between after
    → R (slot_of d slot) after)
    → (c : Slots) → Follows mid slot Q c → Follows old slot R c
follows_join slot old mid P Q R time alone both c made =
    elim (left_now old mid (Follows old slot P) time made.0 made.1) [
      | inl before ↦ (made.0, before, alone made.0 (slot_of c slot) before made.2, made.3)
      | inr since ↦ (
        since.0,
        since.1,
        both since.0 (slot_of made.0 slot) (slot_of c slot) since.1 since.2 made.2,
        made.3 ∙ ap (λ (s : Slots). with_slot s slot (slot_of c slot)) since.3
            ∙ with_twice slot since.0 (slot_of made.0 slot) (slot_of c slot),
      )
    ]

pub follows_then : (slot : Slot) (old mid new : View) (P Q R : List ℕ → List ℕ → Type 0)
    → Passes old mid (Follows old slot P) → Passes mid new (Follows mid slot Q)
    → ((d : Slots) (after : List ℕ) → MayLeave old d → P (slot_of d slot) after → R (slot_of d slot) after)
    → ((d : Slots) (after : List ℕ) → MayLeave old d → Q (slot_of d slot) after → R (slot_of d slot) after)
    → ((d : Slots) (between after : List ℕ) → MayLeave old d → P (slot_of d slot) between → Q between after
    → R (slot_of d slot) after)
    → Passes old new (Follows old slot R)
follows_then slot old mid new P Q R first second early alone both =
    passes_then old mid new (Follows old slot P) (Follows mid slot Q) (Follows old slot R) first second
    (λ c made. (made.0, made.1, early made.0 (slot_of c slot) made.1 made.2, made.3))
    (follows_join slot old mid P Q R first alone both)

-- a call, then one that changes nothing
pub follows_still : (slot : Slot) (old mid new : View) (P : List ℕ → List ℕ → Type 0) → ((x : List ℕ) → P x x)
    → Passes old mid (Follows old slot P) → Passes mid new (MayLeave mid) → Passes old new (Follows old slot P)
follows_still slot old mid new P same first second =
    passes_then old mid new (Follows old slot P) (MayLeave mid) (Follows old slot P) first second (λ c made. made)
    (λ c left. elim (left_now old mid (Follows old slot P) first c left) [
      | inl before ↦ follows_self slot old P c before (same (slot_of c slot))
      | inr since ↦ since
    ])

-- a call that changes nothing, then another one
pub still_then : (slot : Slot) (old mid new : View) (P : List ℕ → List ℕ → Type 0) → ((x : List ℕ) → P x x)
    → Passes old mid (MayLeave old) → Passes mid new (Follows mid slot P) → Passes old new (Follows old slot P)
still_then slot old mid new P same first second =
    passes_then old mid new (MayLeave old) (Follows mid slot P) (Follows old slot P) first second
    (λ c left. follows_self slot old P c left (same (slot_of c slot)))
    (λ c made. (made.0, left_before old mid first made.0 made.1, made.2, made.3))

-- After a closed gate.

-- a gate among bytes that are unchanged stays closed
pub still_closed : (n : ℕ) (before after : List ℕ) → 0 < n → take n after ≡ take n before → IsClosed before
    → IsClosed after
still_closed zero before after some is closed = absurd (omega (arith, some))
still_closed (suc n) before [] some is closed = tt
still_closed (suc n) [] (gate ∷ after) some is closed = absurd (cc is)
still_closed (suc n) (first ∷ before) (gate ∷ after) some is closed =
    λ is_open. closed (sym (ap (λ (l : List ℕ). get_or l 0 0) is) ∙ is_open)

pub write_closed : (slot : Slot) (old new : View) (at n : ℕ) → 0 < at → IsShut old slot
    → Passes old new (Follows old slot (TornWrite at n)) → Passes old new (Follows old slot IsStillClosed)
write_closed slot old new at n some shut time =
    follows_as slot old new (TornWrite at n) IsStillClosed time
    (λ d after left torn. still_closed at (slot_of d slot) after some torn.before (shut d left))

pub cut_closed : (slot : Slot) (old new : View) (n : ℕ) → 0 < n → IsShut old slot
    → Passes old new (Follows old slot (TornCut n)) → Passes old new (Follows old slot IsStillClosed)
cut_closed slot old new n some shut time =
    follows_as slot old new (TornCut n) IsStillClosed time
    (λ d after left torn. still_closed n (slot_of d slot) after some torn.front (shut d left))

pub shut_kept : (slot : Slot) (old new : View) → IsShut old slot → Passes old new (Follows old slot IsStillClosed)
    → IsShut new slot
shut_kept slot old new shut time c left =
    elim (left_now old new (Follows old slot IsStillClosed) time c left)
    [ inl before ↦ shut c before | inr since ↦ since.2 ]

-- a synced slot without an open gate
pub synced_shut : (slot : Slot) (disk : View) → IsSynced disk slot → IsClosed (slot_of disk.seen slot)
    → IsShut disk slot
synced_shut slot disk synced closed c left = subst IsClosed (sym (synced c left)) closed

-- A crash leaves the other slots as it might have left them before.
pub others_stay : (slot : Slot) (old new : View) (step : List ℕ → List ℕ → Type 0)
    → Passes old new (Follows old slot step) → (c : Slots) → MayLeave new c → (d : Slots) × MayLeave old d
    × (c ≡ with_slot d slot (slot_of c slot))
others_stay slot old new step time c left = elim (left_now old new (Follows old slot step) time c left) [
  | inl before ↦ (c, before, sym (with_own slot c))
  | inr since ↦ (since.0, since.1, since.3)
]

-- a fact holds in case of success too
pub always_ok : {T E P : Type 0} (r : Result T E) → P → OnOk r P
always_ok r p = elim r as (λ v. OnOk v _) [ Ok x ↦ p | Err e ↦ tt ]

-- two successive calls after a closed gate
pub closed_then : (slot : Slot) (old mid new : View) → Passes old mid (Follows old slot IsStillClosed)
    → Passes mid new (Follows mid slot IsStillClosed) → Passes old new (Follows old slot IsStillClosed)
closed_then slot old mid new first second =
    follows_then slot old mid new IsStillClosed IsStillClosed IsStillClosed first second (λ d after left shut. shut)
    (λ d after left shut. shut) (λ d between after left early late. late)
