-- What a read gives now is among the post-crash contents: nothing that was written has to be lost.
use Rattle.std.proofs.Common.{◌≡◌, ℕ, ◌+◌, ◌-◌, ◌≤◌, List, [], ◌∷◌, ◌++◌, length, take, drop, refl, sym, ◌∙◌, ap, subst, arith, length-append, append_assoc}
use Rattle.std.specs.Prelude.{true, false, Option, None, Some, option_map}
use Rattle.std.proofs.lemmas.List.{take_at, drop_at, take_all, length-take, length-drop}
use Rattle.disk.specs.declared.log.LoggedCall.{LoggedCall}
use Rattle.disk.specs.declared.log.LoggedCall.TheVariants.{Write, Cut, Sync}
use Rattle.disk.specs.declared.memory.MemDisk.{MemDisk}
use Rattle.disk.specs.declared.memory_folder.MemFolder.{MemFolder}
use Rattle.disk.specs.declared.slot.Slot.{Slot}
use Rattle.disk.specs.declared.slot.Slot.TheVariants.{Image0, Image1, Segment0, Segment1}
use Rattle.disk.specs.Folders.{Files, FilesMayLeave, files_of, folder_of, slot_named}
use Rattle.disk.specs.Log.{within, seen_after, left_after, replayed, outcomes, slots_of}
use Rattle.disk.specs.Memory.{memory_view}
use Rattle.disk.specs.Moments.{MayLeave}
use Rattle.disk.specs.Slots.{Slots, slot_of, with_slot, written_at, TornWrite, TornCut}

-- what a step on one slot may make of slots that satisfy P
abbrev pub StepOn : Slot → (List ℕ → List ℕ → Type 0) → (Slots → Type 0) → Slots → Type 0
StepOn slot R P c = (d : Slots) × P d × R (slot_of d slot) (slot_of c slot) × (c ≡ with_slot d slot (slot_of c slot))

pub with_same : (slot : Slot) (seen : Slots) → with_slot seen slot (slot_of seen slot) ≡ seen
with_same Image0 seen = refl
with_same Image1 seen = refl
with_same Segment0 seen = refl
with_same Segment1 seen = refl

-- a crash may lose a write or a truncation, or leave it whole
pub write_lost : (at n : ℕ) (old : List ℕ) → TornWrite at n old old
write_lost at n old = record { before = refl; after = refl; no_shorter = omega arith; no_longer = omega arith }

pub write_kept : (at n : ℕ) (old bytes : List ℕ) → at ≤ length old → length bytes ≡ n
    → TornWrite at n old (written_at old at bytes)
write_kept at n old bytes le long =
    let front : length (take at old) ≡ at = omega (arith, length-take at old) in
    let back = drop (at + length bytes) old in
    let written : length (take at old ++ bytes) ≡ at + length bytes =
    omega (arith, front, length-append (take at old) bytes) in
    let parts : length (written_at old at bytes) ≡ at + length bytes + length back =
    omega (arith, written, length-append (take at old ++ bytes) back) in
    let rest : length back ≡ length old - (at + length bytes) = length-drop (at + length bytes) old in
    let begins : take at (written_at old at bytes) ≡ take at old =
    ap (take at) (append_assoc (take at old) bytes back) ∙ take_at (take at old) (bytes ++ back) at front in
    record {
      before = begins;
      after =
          subst (λ k. drop (at + k) (written_at old at bytes) ≡ drop (at + k) old) long
          (drop_at (take at old ++ bytes) back (at + length bytes) written);
      no_shorter = omega arith;
      no_longer = omega arith;
    }

pub cut_lost : (n : ℕ) (old : List ℕ) → TornCut n old old
cut_lost n old = record { front = refl; no_shorter = omega arith; no_longer = omega arith }

pub cut_kept : (n : ℕ) (old : List ℕ) → TornCut n old (take n old)
cut_kept n old = record {
  front = take_all n (take n old) (omega (arith, length-take n old));
  no_shorter = omega (arith, length-take n old);
  no_longer = omega (arith, length-take n old);
}

of_with : (slot : Slot) (s : Slots) (bytes : List ℕ) → slot_of (with_slot s slot bytes) slot ≡ bytes
of_with Image0 s bytes = refl
of_with Image1 s bytes = refl
of_with Segment0 s bytes = refl
of_with Segment1 s bytes = refl

-- a call leaves what a read then gives
step_seen : (slot : Slot) (R : List ℕ → List ℕ → Type 0) (P : Slots → Type 0) (seen : Slots) (z : List ℕ)
    → R (slot_of seen slot) z → P seen → StepOn slot R P (with_slot seen slot z)
step_seen slot R P seen z done left = (
  seen,
  left,
  subst (R (slot_of seen slot)) (sym (of_with slot seen z)) done,
  ap (with_slot seen slot) (sym (of_with slot seen z)),
)

stay_seen : (slot : Slot) (R : List ℕ → List ℕ → Type 0) (P : Slots → Type 0) (seen : Slots)
    → R (slot_of seen slot) (slot_of seen slot) → P seen → StepOn slot R P seen
stay_seen slot R P seen lost left = (seen, left, lost, sym (with_same slot seen))

left_seen : (P : Slots → Type 0) (seen : Slots) → P seen → (call : LoggedCall)
    → left_after call seen P (seen_after call seen)
left_seen P seen left (Write slot at bytes true) =
    let begins : within seen slot at ≤ length (slot_of seen slot) = omega arith in
    step_seen slot (TornWrite (within seen slot at) (length bytes.items)) P seen _
    (write_kept (within seen slot at) (length bytes.items) (slot_of seen slot) bytes.items begins refl) left
left_seen P seen left (Write slot at bytes false) =
    stay_seen slot (TornWrite (within seen slot at) (length bytes.items)) P seen
    (write_lost (within seen slot at) (length bytes.items) (slot_of seen slot)) left
left_seen P seen left (Cut slot len true) =
    step_seen slot (TornCut len) P seen _ (cut_kept len (slot_of seen slot)) left
left_seen P seen left (Cut slot len false) = stay_seen slot (TornCut len) P seen (cut_lost len (slot_of seen slot)) left
left_seen P seen left (Sync slot) = (left, refl)

outcomes_seen : (P : Slots → Type 0) (seen : Slots) (log : List LoggedCall) → P seen
    → outcomes P seen log (replayed seen log)
unfolding replayed outcomes
outcomes_seen P seen [] left = left
outcomes_seen P seen (call ∷ log) left =
    outcomes_seen (left_after call seen P) (seen_after call seen) log (left_seen P seen left call)

pub seen_may_be_left : (first seen : Slots) (log : List LoggedCall) → seen ≡ replayed first log
    → outcomes (λ d. d ≡ first) first (take (length log) log) seen
seen_may_be_left first seen log is =
    let all : log ≡ take (length log) log = sym (take_all (length log) log (omega arith)) in
    subst (λ l. outcomes (λ d. d ≡ first) first l seen) all
    (subst (outcomes (λ d. d ≡ first) first log) (sym is) (outcomes_seen (λ d. d ≡ first) first log refl))

-- a disk in memory
pub memory_lasts : Unit {0} → (disk : MemDisk) → MayLeave (memory_view disk) (memory_view disk).seen
memory_lasts honest disk = seen_may_be_left (slots_of disk.first) (slots_of disk.seen) disk.log.items disk.is_replay

-- and the files that its slots are
pub folder_lasts : Unit {0} → (folder : MemFolder)
    → FilesMayLeave (folder_of (memory_view folder.disk)) (folder_of (memory_view folder.disk)).seen
folder_lasts honest folder = ((memory_view folder.disk).seen, memory_lasts honest folder.disk, λ name. refl)

-- a file that isn't there, no crash leaves
same_none : (a b : Slots) (slot : Option Slot) → option_map (slot_of a) slot ≡ None → option_map (slot_of b) slot ≡ None
same_none a b None none = refl
same_none a b (Some slot) none = cc none

pub folder_returns_none : Unit {0} → (folder : MemFolder) (c : Files)
    → FilesMayLeave (folder_of (memory_view folder.disk)) c → (name : List ℕ)
    → files_of (memory_view folder.disk).seen name ≡ None → c name ≡ None
folder_returns_none honest folder c left name none =
    left.2 name ∙ same_none (memory_view folder.disk).seen left.0 (slot_named name) none
