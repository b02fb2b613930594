-- A slot's gate, when it is read and while it is written.
use Rattle.std.proofs.Common.{◌≡◌, ◌⊎◌, inl, inr, ℕ, ◌<◌, List, [], ◌∷◌, ◌++◌, length, take, drop, get_or, refl, sym, ap, ◌∙◌, arith}
use Rattle.std.proofs.lemmas.Bool.{cases_lt}
use Rattle.disk.specs.declared.slot.Slot.{Slot}
use Rattle.disk.specs.Moments.{View, Passes, Follows, IsSynced}
use Rattle.disk.specs.Slots.{slot_of, TornWrite}
use Rattle.ipc_model.specs.store.Recovery.{IsOpen}
use Rattle.ipc_model.specs.store.Store.{IsClosed, open_gate}
use Rattle.slot_steps.specs.Steps.{HasSomeGate, IsClosing, IsRemade, IsStillClosed}
use Rattle.slot_steps.proofs.Following.{follows_as, follows_then}

-- an open gate, and the bytes after it
pub gate_apart : (slot : List ℕ) → take 1 slot ≡ open_gate ∷ [] → slot ≡ open_gate ∷ drop 1 slot
gate_apart [] is = absurd (cc is)
gate_apart (gate ∷ rest) is = ap (λ (l : List ℕ). get_or l 0 0 ∷ rest) is

pub closed_or_open : (slot : List ℕ) → IsClosed slot ⊎ (slot ≡ open_gate ∷ drop 1 slot)
closed_or_open [] = inl tt
closed_or_open (gate ∷ rest) = elim (cases_lt gate open_gate) [
  | inl below ↦ inl (λ is. omega (arith, below, is))
  | inr above ↦ elim (cases_lt open_gate gate) [
    | inl beyond ↦ inl (λ is. omega (arith, beyond, is))
    | inr within ↦ inr (ap (λ (g : ℕ). g ∷ rest) (omega (arith, above, within)))
  ]
]

-- bytes that don't begin with an open gate
pub no_open_gate : (slot : List ℕ) → IsClosed slot → take 1 slot ≡ open_gate ∷ [] → ⊥
no_open_gate [] shut is = absurd (cc is)
no_open_gate (gate ∷ rest) shut is = shut (ap (λ (l : List ℕ). get_or l 0 0) is)

pub closed_not_open : (header : ℕ) (slot : List ℕ) → IsClosed slot → IsOpen header slot → ⊥
closed_not_open header slot shut is_open = no_open_gate slot shut is_open.1

-- a write of the gate, which a crash may interrupt
pub torn_gate : (before after : List ℕ) → TornWrite 0 1 before after → HasSomeGate before after
torn_gate before after torn = record { beyond = torn.after; no_shorter = torn.no_shorter; no_longer = torn.no_longer }

pub same_gate : (slot : List ℕ) → HasSomeGate slot slot
same_gate slot = record { beyond = refl; no_shorter = omega arith; no_longer = omega arith }

-- a slot that is too short for its header, or open, and is being closed
pub gate_closing : (header : ℕ) (before after : List ℕ) → 1 < header → (length before < header)
    ⊎ (take 1 before ≡ open_gate ∷ []) → HasSomeGate before after → IsClosing header before after
gate_closing header before after some needs gate = elim needs [
  | inl short ↦ inr (λ is_open. omega (arith, some, short, gate.no_longer, is_open.0))
  | inr is ↦ elim (closed_or_open after) [
    | inl shut ↦ inr (closed_not_open header after shut)
    | inr whole ↦ inl (whole ∙ ap (λ (l : List ℕ). open_gate ∷ l) gate.beyond ∙ sym (gate_apart before is))
  ]
]

-- the bytes after the first byte of a slot
pub after_first : (slot encoding : List ℕ) → 0 < length slot → drop 1 (take 1 slot ++ encoding) ≡ encoding
after_first [] encoding some = absurd (omega (arith, some))
after_first (gate ∷ rest) encoding some = refl

-- a gate that is being opened is closed, or open with all the bytes after it
pub gate_opened : (beyond shut after : List ℕ) → drop 1 shut ≡ beyond → HasSomeGate shut after → IsClosed after
    ⊎ (after ≡ open_gate ∷ beyond)
gate_opened beyond shut after is gate = elim (closed_or_open after) [
  | inl still ↦ inl still
  | inr whole ↦ inr (whole ∙ ap (λ (l : List ℕ). open_gate ∷ l) (gate.beyond ∙ is))
]

-- a slot is closed, then written after its gate
pub closing_then : (slot : Slot) (old mid new : View) (header : ℕ)
    → Passes old mid (Follows old slot (IsClosing header)) → Passes mid new (Follows mid slot IsStillClosed)
    → Passes old new (Follows old slot (IsClosing header))
closing_then slot old mid new header first second =
    follows_then slot old mid new (IsClosing header) IsStillClosed (IsClosing header) first second
    (λ d after left closing. closing)
    (λ d after left shut. inr (closed_not_open header after shut))
    (λ d between after left early late. inr (closed_not_open header after late))

-- the gate is opened before the bytes after it
pub opening_then : (slot : Slot) (old mid new : View) (beyond : List ℕ) → IsSynced mid slot
    → drop 1 (slot_of mid.seen slot) ≡ beyond → Passes old mid (Follows old slot IsStillClosed)
    → Passes mid new (Follows mid slot HasSomeGate)
    → Passes old new (Follows old slot (λ before after. IsClosed after ⊎ (after ≡ open_gate ∷ beyond)))
opening_then slot old mid new beyond synced is first second =
    let opening : Passes mid new (Follows mid slot
    (λ (before after : List ℕ). IsClosed after ⊎ (after ≡ open_gate ∷ beyond))) =
    follows_as slot mid new HasSomeGate
    (λ (before after : List ℕ). IsClosed after ⊎ (after ≡ open_gate ∷ beyond)) second
    (λ d after left gate. gate_opened beyond (slot_of d slot) after
    (ap (λ (l : List ℕ). drop 1 l) (synced d left) ∙ is) gate) in
    follows_then slot old mid new IsStillClosed
    (λ (before after : List ℕ). IsClosed after ⊎ (after ≡ open_gate ∷ beyond))
    (λ (before after : List ℕ). IsClosed after ⊎ (after ≡ open_gate ∷ beyond)) first opening
    (λ d after left shut. inl shut) (λ d after left opened. opened) (λ d between after left early late. late)

-- a slot gets new content: it is closed, then it has the whole content, or its gate isn't open
pub closing_remade : (slot : Slot) (old new : View) (header : ℕ) (content : List ℕ)
    → Passes old new (Follows old slot (IsClosing header)) → Passes old new (Follows old slot (IsRemade header content))
closing_remade slot old new header content time =
    follows_as slot old new (IsClosing header) (IsRemade header content) time (λ d after left closing. inl closing)

made : (header : ℕ) (before after content : List ℕ) → IsClosed after ⊎ (after ≡ content)
    → IsRemade header content before after
made header before after content opened =
    elim opened [ inl shut ↦ inl (inr (closed_not_open header after shut)) | inr whole ↦ inr whole ]

pub remade_then : (slot : Slot) (old mid new : View) (header : ℕ) (content : List ℕ)
    → Passes old mid (Follows old slot (IsClosing header))
    → Passes mid new (Follows mid slot (λ before after. IsClosed after ⊎ (after ≡ content)))
    → Passes old new (Follows old slot (IsRemade header content))
remade_then slot old mid new header content first second =
    follows_then slot old mid new (IsClosing header)
    (λ (before after : List ℕ). IsClosed after ⊎ (after ≡ content)) (IsRemade header content) first second
    (λ d after left closing. inl closing)
    (λ d after left opened. made header (slot_of d slot) after content opened)
    (λ d between after left early late. made header (slot_of d slot) after content late)
