-- The lengths of written bytes.
use Rattle.std.proofs.Common.{◌≡◌, ℕ, ◌+◌, ◌≤◌, ◌<◌, List, [], ◌∷◌, ◌++◌, length, take, drop, replicate, Result, Ok, Err, OnOk, ap, ◌∙◌, arith, length-append, length-take}
use Rattle.std.proofs.lemmas.List.{append-nil, take_all, drop_all}
use Rattle.disk.specs.declared.slot.Slot.{Slot}
use Rattle.disk.specs.Slots.{Slots, slot_of, with_slot, written_at}
use Rattle.ipc_model.specs.store.Store.{IsClosed}
use Rattle.disk.proofs.Moments.{own_bytes, with_twice}

pub written_long : (old bytes : List ℕ) (at : ℕ) → at ≤ length old
    → at + length bytes ≤ length (written_at old at bytes)
written_long old bytes at fits =
    omega (
      arith,
      length-append (take at old ++ bytes) (drop (at + length bytes) old),
      length-append (take at old) bytes,
      length-take at old,
    )

pub cut_length : (old : List ℕ) (n : ℕ) → n ≤ length old → length (take n old) ≡ n
cut_length old n fits = omega (arith, length-take n old)

-- a consequence in case of success
pub on_ok : {T E P Q : Type 0} (r : Result T E) → (P → Q) → OnOk r P → OnOk r Q
on_ok (Ok x) f p = f p
on_ok (Err e) f p = tt

-- a slot is long enough after zeros were written after its gate
pub zeros_long : (slot : Slot) (old new : Slots) → 0 < length (slot_of old slot)
    → new ≡ with_slot old slot (written_at (slot_of old slot) 1 (replicate 23 0)) → 24 ≤ length (slot_of new slot)
zeros_long slot old new some is =
    let bytes : List ℕ = written_at (slot_of old slot) 1 (replicate 23 0) in
    let long = written_long (slot_of old slot) (replicate 23 0) 1 (omega arith) in
    let same : length (slot_of new slot) ≡ length bytes =
    ap (λ (s : Slots). length (slot_of s slot)) is ∙ ap length (own_bytes slot old bytes) in
    omega arith

pub cleared : (slot : Slot) (old new : Slots) → 24 ≤ length (slot_of old slot)
    → new ≡ with_slot old slot (take 24 (slot_of old slot)) → length (slot_of new slot) ≡ 24
cleared slot old new long is =
    ap (λ (s : Slots). length (slot_of s slot)) is ∙ ap length (own_bytes slot old (take 24 (slot_of old slot)))
    ∙ cut_length (slot_of old slot) 24 long

-- a fact holds in case of success too
pub always : {T E P : Type 0} (r : Result T E) → P → OnOk r P
always r p = elim r as (λ v. OnOk v _) [ Ok x ↦ p | Err e ↦ tt ]

-- the slot after a write behind its gate, if the gate was its only byte
pub segment_written : (slot : Slot) (old mid new after : Slots) (start : List ℕ) → 0 < length (slot_of old slot)
    → mid ≡ with_slot old slot (take 1 (slot_of old slot))
    → new ≡ with_slot mid slot (written_at (slot_of mid slot) 1 start) → after ≡ new
    → after ≡ with_slot old slot (take 1 (slot_of old slot) ++ start)
segment_written slot old mid new after start some first second last =
    let gate : List ℕ = take 1 (slot_of old slot) in
    let own : slot_of mid slot ≡ gate = ap (λ (s : Slots). slot_of s slot) first ∙ own_bytes slot old gate in
    let one : length gate ≡ 1 = cut_length (slot_of old slot) 1 (omega arith) in
    let whole : written_at gate 1 start ≡ gate ++ start =
    (λ i. take_all 1 gate (omega arith) i ++ start ++ drop_all (1 + length start) gate (omega arith) i)
    ∙ append-nil (gate ++ start) in
    last ∙ second ∙ (λ i. with_slot (first i) slot (written_at (own i) 1 start))
    ∙ with_twice slot old gate (written_at gate 1 start) ∙ ap (λ (b : List ℕ). with_slot old slot b) whole

-- a closed gate stays closed while the bytes after it are written or truncated
pub closed_written : (slot : List ℕ) (bytes : List ℕ) → 0 < length slot → IsClosed slot
    → IsClosed (written_at slot 1 bytes)
closed_written [] bytes some shut = absurd (omega (arith, some))
closed_written (gate ∷ rest) bytes some shut = shut

pub closed_cut : (slot : List ℕ) → IsClosed slot → IsClosed (take 24 slot)
closed_cut [] shut = tt
closed_cut (gate ∷ rest) shut = shut

-- the bytes of one slot, if only it was changed
pub own_of : (slot : Slot) (old new : Slots) (bytes : List ℕ) → new ≡ with_slot old slot bytes
    → slot_of new slot ≡ bytes
own_of slot old new bytes is = ap (λ (s : Slots). slot_of s slot) is ∙ own_bytes slot old bytes
