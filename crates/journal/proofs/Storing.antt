-- The contents after a crash, while bytes are stored after a slot's gate, one device call after another.
use Rattle.std.proofs.Common.{◌≡◌, ◌⊎◌, inl, inr, ℕ, ◌+◌, ◌-◌, ◌<◌, ◌≤◌, List, Result, Ok, Err, [], ◌∷◌, ◌++◌, length, take, drop, get_or, refl, sym, ◌∙◌, ap, subst, arith, length-append, append_assoc, take-append-drop}
use Rattle.std.proofs.lemmas.Bool.{cases_lt}
use Rattle.std.proofs.lemmas.List.{append-nil, take_at, drop_at, take_all, take-append-le, drop_all, drop_more, take_more, length-take}
use Rattle.disk.specs.declared.slot.Slot.{Slot}
use Rattle.disk.specs.declared.slot.Slot.TheVariants.{Image0, Image1, Segment0, Segment1}
use Rattle.disk.specs.Slots.{Slots, slot_of, with_slot, written_at, TornWrite}
use Rattle.disk.specs.Moments.{View, MayLeave, Passes, Follows, IsSynced, CountsFailure, one_more}
use Rattle.journal.specs.Storing.{IsMidStore}

-- no call
pub passes_none : (disk : View) (P : Slots → Type 0) → Passes disk disk P
passes_none disk P =
    record {
      later = omega arith;
      past = λ k c le. (λ left. left, λ left. left);
      since = λ k c after le left. absurd (omega arith);
    }

-- one call, then another
pub passes_then : (old mid new : View) (P Q : Slots → Type 0) → Passes old mid P → Passes mid new Q
    → ((c : Slots) → Q c → P c) → Passes old new P
passes_then old mid new P Q first second less = record {
  later = omega (arith, first.later, second.later);
  past = λ k c le.
      let le_mid : k ≤ mid.moment = omega (arith, first.later) in (
        λ left. (first.past k c le).0 ((second.past k c le_mid).0 left),
        λ left. (second.past k c le_mid).1 ((first.past k c le).1 left),
      );
  since = λ k c after le left. elim (cases_lt mid.moment k) [
    | inl later ↦ less c (second.since k c later le left)
    | inr sooner ↦ first.since k c after sooner ((second.past k c sooner).0 left)
  ];
}

-- The possible contents after a crash following a call: the former ones, or their changes by the call.
pub left_after : (old new : View) (P : Slots → Type 0) → Passes old new P → (c : Slots) → MayLeave new c
    → MayLeave old c ⊎ P c
left_after old new P time c left = elim (cases_lt old.moment new.moment) [
  | inl later ↦ inr (time.since new.moment c later (omega arith) left)
  | inr same ↦
      let is : new.moment ≡ old.moment = omega (arith, time.later) in
      inl (subst (λ k. old.left_at k c) is ((time.past new.moment c same).0 left))
]

pub same_slot : (c : Slots) (slot : Slot) → c ≡ with_slot c slot (slot_of c slot)
same_slot c Image0 = refl
same_slot c Image1 = refl
same_slot c Segment0 = refl
same_slot c Segment1 = refl

pub slot_twice : (c : Slots) (slot : Slot) (x y : List ℕ) → with_slot (with_slot c slot x) slot y ≡ with_slot c slot y
slot_twice c Image0 x y = refl
slot_twice c Image1 x y = refl
slot_twice c Segment0 x y = refl
slot_twice c Segment1 x y = refl

pub slot_set : (c : Slots) (slot : Slot) (x : List ℕ) → slot_of (with_slot c slot x) slot ≡ x
slot_set c Image0 x = refl
slot_set c Image1 x = refl
slot_set c Segment0 x = refl
slot_set c Segment1 x = refl

-- while the bytes are stored: the contents that a crash may have left so far, and those that a crash may leave now
pub record IsStoring (old new : View) (slot : Slot) (encoding : List ℕ) : Type 0 where
  pub time : Passes old new (Follows old slot (IsMidStore encoding))
  pub now : (c : Slots) → MayLeave new c → Follows old slot (IsMidStore encoding) c

-- before the first call
pub storing_none : (disk : View) (slot : Slot) (encoding : List ℕ) → IsStoring disk disk slot encoding
storing_none disk slot encoding = record {
  time = passes_none disk (Follows disk slot (IsMidStore encoding));
  now = λ c left. (c, left, inl ([], sym (append-nil (slot_of c slot))), same_slot c slot);
}

-- one more call
pub storing_on : (old mid new : View) (slot : Slot) (encoding : List ℕ) (Q : Slots → Type 0)
    → IsStoring old mid slot encoding → Passes mid new Q
    → ((c : Slots) → Q c → Follows old slot (IsMidStore encoding) c) → IsStoring old new slot encoding
storing_on old mid new slot encoding Q so_far time less = record {
  time = passes_then old mid new (Follows old slot (IsMidStore encoding)) Q so_far.time time less;
  now = λ c left. elim (left_after mid new Q time c left) [ inl before ↦ so_far.now c before | inr made ↦ less c made ];
}

-- a sync adds no possible contents
pub storing_sync : (old mid new : View) (slot : Slot) (encoding : List ℕ) → IsStoring old mid slot encoding
    → Passes mid new (MayLeave mid) → IsStoring old new slot encoding
storing_sync old mid new slot encoding so_far time =
    storing_on old mid new slot encoding (MayLeave mid) so_far time so_far.now

-- a write at a slot's end keeps the bytes before it
tail_written : (old new : List ℕ) (at n : ℕ) → at ≡ length old → TornWrite at n old new → new ≡ old ++ drop at new
tail_written old new at n ends torn =
    sym (take-append-drop at new) ∙ ap (λ l. l ++ drop at new) (torn.before ∙ take_all at old (omega arith))

-- the write of the bytes after the gate
pub storing_encoding : (old new : View) (slot : Slot) (encoding : List ℕ) (at n : ℕ) → IsSynced old slot
    → at ≡ length (slot_of old.seen slot) → Passes old new (Follows old slot (TornWrite at n))
    → IsStoring old new slot encoding
storing_encoding old new slot encoding at n synced ends time =
    storing_on old old new slot encoding (Follows old slot (TornWrite at n)) (storing_none old slot encoding) time
    (λ c made. (
      made.0,
      made.1,
      inl (
        drop at (slot_of c slot),
        tail_written (slot_of made.0 slot) (slot_of c slot) at n
            (ends ∙ sym (ap length (synced made.0 made.1))) made.2,
      ),
      made.3,
    ))

-- a write of one byte within the slot
gate_written : (front encoding new : List ℕ) (gate at : ℕ) → at ≡ length front
    → TornWrite at 1 (front ++ (gate ∷ encoding)) new → new ≡ front ++ (get_or new at 0 ∷ encoding)
gate_written front encoding new gate at begins torn =
    let long : at < length new = omega (arith, torn.no_shorter, length-append front (gate ∷ encoding)) in
    let beyond : drop (at + 1) new ≡ encoding =
    torn.after ∙ ap (λ l. drop (at + 1) l) (sym (append_assoc front (gate ∷ []) encoding))
    ∙ drop_at (front ++ gate ∷ []) encoding (at + 1) (omega (arith, length-append front (gate ∷ []))) in
    sym (take-append-drop at new) ∙
    (λ i. (torn.before ∙ take_at front (gate ∷ encoding) at (sym begins)) i
    ++ (drop_more new at 0 long ∙ ap (λ l. get_or new at 0 ∷ l) beyond) i)

-- the write that opens the gate, once the bytes are durable
pub storing_gate : (old mid new : View) (slot : Slot) (encoding front : List ℕ) (gate at : ℕ) → IsSynced old slot
    → slot_of old.seen slot ≡ front ++ gate ∷ [] → at ≡ length front → IsStoring old mid slot encoding
    → ((c : Slots) → MayLeave mid c → slot_of c slot ≡ front ++ (gate ∷ encoding))
    → Passes mid new (Follows mid slot (TornWrite at 1)) → IsStoring old new slot encoding
storing_gate old mid new slot encoding front gate at synced whole begins so_far stored time =
    storing_on old mid new slot encoding (Follows mid slot (TornWrite at 1)) so_far time (λ c made.
    let e = made.0 in
    let before = so_far.now e made.1 in
    let d = before.0 in
    let y : ℕ = get_or (slot_of c slot) at 0 in
    let is : slot_of c slot ≡ front ++ (y ∷ encoding) =
    gate_written front encoding (slot_of c slot) gate at begins
    (subst (λ l. TornWrite at 1 l (slot_of c slot)) (stored e made.1) made.2) in
    let held : slot_of d slot ≡ front ++ gate ∷ [] = synced d before.1 ∙ whole in
    let cut : take (length (slot_of d slot) - 1) (slot_of d slot) ≡ front =
    (let k : length (slot_of d slot) - 1
    ≡ length front = omega (arith, ap length held, length-append front (gate ∷ [])) in
    (λ i. take (k i) (held i)) ∙ take_at front (gate ∷ []) (length front) refl) in (
      d,
      before.1,
      inr (y, is ∙ ap (λ l. l ++ (y ∷ encoding)) (sym cut)),
      made.3 ∙ ap (λ s. with_slot s slot (slot_of c slot)) before.3
          ∙ slot_twice d slot (slot_of e slot) (slot_of c slot),
    ))

-- a slot's last byte, and the bytes before it
last_apart : (slot : List ℕ) (at : ℕ) → 0 < length slot → at ≡ length slot - 1
    → slot ≡ take at slot ++ get_or slot at 0 ∷ []
last_apart slot at some last = sym (take_all (at + 1) slot (omega arith)) ∙ take_more slot at 0 (omega arith)

-- the bytes were written and synced, then the gate was written
pub storing_whole : (old written synced new : View) (slot : Slot) (encoding : List ℕ) (gate n : ℕ) → IsSynced old slot
    → 0 < length (slot_of old.seen slot) → gate ≡ length (slot_of old.seen slot) - 1
    → Passes old written (Follows old slot (TornWrite (gate + 1) (length encoding)))
    → written.seen ≡ with_slot old.seen slot (written_at (slot_of old.seen slot) (gate + 1) encoding)
    → Passes written synced (MayLeave written) → synced.seen ≡ written.seen → IsSynced synced slot
    → n ≡ 1 → Passes synced new (Follows synced slot (TornWrite gate n)) → IsStoring old new slot encoding
storing_whole old written synced new slot encoding gate n settled some last time_written is_written time_synced same
    is_synced one time =
    let s = slot_of old.seen slot in
    let front = take gate s in
    let y = get_or s gate 0 in
    let apart : s ≡ front ++ y ∷ [] = last_apart s gate some last in
    let at_end : written_at s (gate + 1) encoding ≡ front ++ (y ∷ encoding) =
    (λ i. take_all (gate + 1) s (omega arith) i ++ encoding ++ drop_all (gate + 1 + length encoding) s (omega arith) i)
    ∙ append-nil (s ++ encoding) ∙ ap (λ l. l ++ encoding) apart ∙ append_assoc front (y ∷ []) encoding in
    let held : slot_of synced.seen slot ≡ front ++ (y ∷ encoding) =
    ap (λ c. slot_of c slot) (same ∙ is_written) ∙ slot_set old.seen slot (written_at s (gate + 1) encoding) ∙ at_end in
    let so_far =
    storing_sync old written synced slot encoding
    (storing_encoding old written slot encoding (gate + 1) (length encoding) settled (omega arith) time_written)
    time_synced in
    storing_gate old synced new slot encoding front y gate settled apart (omega (arith, length-take gate s)) so_far
    (λ c left. is_synced c left ∙ held)
    (subst (λ k. Passes synced new (Follows synced slot (TornWrite gate k))) one time)

-- a call that failed after successful calls
pub counted_error : {T E : Type 0} (before mid now : ℕ) (r : Result T E) (e : E) → r ≡ Err e → mid ≡ before
    → now ≡ one_more mid → CountsFailure before now r
counted_error before mid now (Ok v) e is same counted = absurd (cc is)
counted_error before mid now (Err f) e is same counted = record { ok = tt; err = counted ∙ ap one_more same }

-- the open gate replaces the last byte, and the stored bytes follow it
opened_encoding : (s encoding : List ℕ) (gate x : ℕ) → gate + 1 ≡ length s
    → written_at (written_at s (gate + 1) encoding) gate (x ∷ []) ≡ take gate s ++ (x ∷ encoding)
opened_encoding s encoding gate x last =
    let first : written_at s (gate + 1) encoding ≡ s ++ encoding =
    (λ i. take_all (gate + 1) s (omega (arith, last)) i ++ encoding
    ++ drop_all (gate + 1 + length encoding) s (omega (arith, last)) i) ∙ append-nil (s ++ encoding) in
    let front : take gate (s ++ encoding) ≡ take gate s = take-append-le gate s encoding (omega (arith, last)) in
    let beyond : drop (gate + 1) (s ++ encoding) ≡ encoding = drop_at s encoding (gate + 1) (sym last) in
    ap (λ (l : List ℕ). written_at l gate (x ∷ [])) first ∙ (λ i. front i ++ (x ∷ []) ++ beyond i)
    ∙ append_assoc (take gate s) (x ∷ []) encoding

pub batch_written : (slot : Slot) (old mid synced new after : Slots) (encoding : List ℕ) (gate x : ℕ)
    → 0 < length (slot_of old slot) → gate ≡ length (slot_of old slot) - 1
    → mid ≡ with_slot old slot (written_at (slot_of old slot) (gate + 1) encoding) → synced ≡ mid
    → new ≡ with_slot synced slot (written_at (slot_of synced slot) gate (x ∷ [])) → after ≡ new
    → after ≡ with_slot old slot (take (length (slot_of old slot) - 1) (slot_of old slot) ++ (x ∷ encoding))
batch_written slot old mid synced new after encoding gate x some last first same second end =
    let s : List ℕ = slot_of old slot in
    let bytes : List ℕ = written_at s (gate + 1) encoding in
    let stood : synced ≡ with_slot old slot bytes = same ∙ first in
    let own : slot_of synced slot ≡ bytes = ap (λ (c : Slots). slot_of c slot) stood ∙ slot_set old slot bytes in
    end ∙ second ∙ (λ i. with_slot (stood i) slot (written_at (own i) gate (x ∷ [])))
    ∙ slot_twice old slot bytes (written_at bytes gate (x ∷ []))
    ∙ ap (λ (b : List ℕ). with_slot old slot b) (opened_encoding s encoding gate x (omega (arith, some, last))) ∙ ap
    (λ (n : ℕ). with_slot old slot (take n s ++ (x ∷ encoding))) last
