-- Moments of a disk, joined call by call; and one slot of four.
use Rattle.std.proofs.Common.{◌≡◌, ◌⊎◌, inl, inr, ℕ, ◌<◌, ◌≤◌, List, refl, sym, ap, subst, ◌∙◌, arith}
use Rattle.std.proofs.lemmas.Bool.{cases_lt}
use Rattle.disk.specs.declared.slot.Slot.{Slot}
use Rattle.disk.specs.declared.slot.Slot.TheVariants.{Image0, Image1, Segment0, Segment1}
use Rattle.disk.specs.Moments.{View, MayLeave, Passes, ReadsOnly, IsSynced}
use Rattle.disk.specs.Slots.{Slots, slot_of, with_slot}

pub later_or_now : (m n : ℕ) → m ≤ n → (m < n) ⊎ (n ≡ m)
later_or_now m n le = elim (cases_lt m n) [ inl later ↦ inl later | inr now ↦ inr (omega arith) ]

-- what a crash may leave now it might have left before, or that came about since
pub left_now : (old new : View) (P : Slots → Type 0) → Passes old new P → (c : Slots) → MayLeave new c → MayLeave old c
    ⊎ P c
left_now old new P time c left = elim (later_or_now old.moment new.moment time.later) [
  | inl later ↦ inr (time.since new.moment c later (omega arith) left)
  | inr now ↦ inl (subst (λ k. old.left_at k c) now ((time.past new.moment c (omega arith)).0 left))
]

pub left_before : (old new : View) → Passes old new (MayLeave old) → (c : Slots) → MayLeave new c → MayLeave old c
left_before old new time c left =
    elim (left_now old new (MayLeave old) time c left) [ inl before ↦ before | inr before ↦ before ]

-- two stretches of time, one after the other
pub passes_then : (old mid new : View) (P Q R : Slots → Type 0) → Passes old mid P → Passes mid new Q
    → ((c : Slots) → P c → R c) → ((c : Slots) → Q c → R c) → Passes old new R
passes_then old mid new P Q R first second early late = record {
  later = omega (arith, first.later, second.later);
  past = λ k c le.
      let le_mid : k ≤ mid.moment = omega (arith, first.later) in (
        λ left. (first.past k c le).0 ((second.past k c le_mid).0 left),
        λ left. (second.past k c le_mid).1 ((first.past k c le).1 left),
      );
  since = λ k c after le left. elim (cases_lt mid.moment k) [
    | inl later ↦ late c (second.since k c later le left)
    | inr sooner ↦ early c (first.since k c after sooner ((second.past k c sooner).0 left))
  ];
}

pub passes_as : (old new : View) (P R : Slots → Type 0) → Passes old new P → ((c : Slots) → P c → R c)
    → Passes old new R
passes_as old new P R time less =
    record { later = time.later; past = time.past; since = λ k c after le left. less c (time.since k c after le left) }

-- one slot of four

pub with_own : (slot : Slot) (s : Slots) → with_slot s slot (slot_of s slot) ≡ s
with_own Image0 s = refl
with_own Image1 s = refl
with_own Segment0 s = refl
with_own Segment1 s = refl

pub with_twice : (slot : Slot) (s : Slots) (x y : List ℕ) → with_slot (with_slot s slot x) slot y ≡ with_slot s slot y
with_twice Image0 s x y = refl
with_twice Image1 s x y = refl
with_twice Segment0 s x y = refl
with_twice Segment1 s x y = refl

pub own_bytes : (slot : Slot) (s : Slots) (x : List ℕ) → slot_of (with_slot s slot x) slot ≡ x
own_bytes Image0 s x = refl
own_bytes Image1 s x = refl
own_bytes Segment0 s x = refl
own_bytes Segment1 s x = refl

-- a slot that is synced stays so while nothing changes
pub synced_kept : (slot : Slot) (old new : View) → Passes old new (MayLeave old) → new.seen ≡ old.seen
    → IsSynced old slot → IsSynced new slot
synced_kept slot old new time same synced c left =
    synced c (left_before old new time c left) ∙ ap (λ (s : Slots). slot_of s slot) (sym same)

-- calls that change nothing, one after another
pub unchanged_then : (old mid new : View) → Passes old mid (MayLeave old) → Passes mid new (MayLeave mid)
    → Passes old new (MayLeave old)
unchanged_then old mid new first second =
    passes_then old mid new (MayLeave old) (MayLeave mid) (MayLeave old) first second
    (λ c left. left) (left_before old mid first)

pub reads_only : (old new : View) → new.seen ≡ old.seen → Passes old new (MayLeave old) → ReadsOnly old new
reads_only old new seen time = record { seen = seen; time = time }

-- no call at all
pub reads_nothing : (disk : View) → ReadsOnly disk disk
reads_nothing disk = record {
  seen = refl;
  time = record {
    later = omega arith;
    past = λ k c le. (λ left. left, λ left. left);
    since = λ k c after le left. absurd (omega arith);
  };
}

-- calls that only read, one after another
pub reads_then : (old mid new : View) → ReadsOnly old mid → ReadsOnly mid new → ReadsOnly old new
reads_then old mid new first second =
    reads_only old new (second.seen ∙ first.seen) (unchanged_then old mid new first.time second.time)
