-- A fact about a slot, an epoch and an encoding holds of equal ones.
use Rattle.std.proofs.Common.{◌≡◌, ℕ, List, subst}
use Rattle.disk.specs.declared.slot.Slot.{Slot}

pub along : (P : Slot → ℕ → List ℕ → Type 0) (s slot : Slot) (e epoch : ℕ) (t encoding : List ℕ) → s ≡ slot → e ≡ epoch
    → t ≡ encoding → P s e t → P slot epoch encoding
along P s slot e epoch t encoding same_slot same_epoch same_encoding holds =
    subst (λ (x : Slot). P x epoch encoding) same_slot
    (subst (λ (x : ℕ). P s x encoding) same_epoch (subst (λ (x : List ℕ). P s e x) same_encoding holds))
