-- A step that clears a slot.
use Rattle.std.proofs.Common.{◌≡◌, inl, inr, ℕ, zero, suc, ◌<◌, ◌≤◌, List, [], ◌∷◌, length, take, sym, ap, subst, ◌∙◌, arith}
use Rattle.disk.specs.declared.slot.Slot.{Slot}
use Rattle.disk.specs.Moments.{View, IsSynced}
use Rattle.disk.specs.Slots.{slot_of, with_slot}
use Rattle.ipc_model.specs.store.Recovery.{IsNotOpen}
use Rattle.ipc_model.specs.store.Store.{IsClosed}
use Rattle.slot_steps.proofs.Gates.{closed_or_open}
use Rattle.slot_steps.proofs.Lengths.{own_of}
use Rattle.slot_steps.specs.Steps.{ClearsSlot, shortened}

-- a slot with a complete header that isn't open has a closed gate
pub shut_closed : (header : ℕ) (slot : List ℕ) → header ≤ length slot → IsNotOpen header slot → IsClosed slot
shut_closed header slot whole shut = elim (closed_or_open slot) [
  | inl closed ↦ closed
  | inr is ↦ absurd (shut (whole, ap (λ (l : List ℕ). take 1 l) is))
]

cut_closed_gate : (n : ℕ) (slot : List ℕ) → IsClosed slot → IsClosed (take n slot)
cut_closed_gate zero slot closed = tt
cut_closed_gate (suc n) [] closed = tt
cut_closed_gate (suc n) (gate ∷ rest) closed = closed

-- a slot that isn't open is truncated
pub shortens : (header most : ℕ) (old new : View) (slot : Slot) (len : ℕ)
    → len ≡ shortened header most (length (slot_of old.seen slot))
    → IsNotOpen header (slot_of old.seen slot) → header < length (slot_of old.seen slot)
    → new.seen ≡ with_slot old.seen slot (take len (slot_of old.seen slot)) → IsSynced new slot
    → ClearsSlot header most old new slot
shortens header most old new slot len long shut longer is synced =
    let own = own_of slot old.seen new.seen (take len (slot_of old.seen slot)) is in
    record {
      step = inr (shut, longer, own ∙ ap (λ (n : ℕ). take n (slot_of old.seen slot)) long);
      closed =
          subst IsClosed (sym own) (cut_closed_gate len (slot_of old.seen slot)
          (shut_closed header (slot_of old.seen slot) (omega (arith, longer)) shut));
      others = is ∙ ap (λ (l : List ℕ). with_slot old.seen slot l) (sym own);
      synced = synced;
    }
