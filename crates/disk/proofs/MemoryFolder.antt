-- The slots of a disk in memory as the files of a folder.
use Rattle.std.proofs.Common.{◌≡◌, ◌⊎◌, inl, inr, ℕ, List, refl, sym, ap, subst, ◌∙◌}
use Rattle.std.specs.Prelude.{Bool, true, false, Option, None, Some, is_some, option_map, bytes_eq, if◌then◌else◌}
use Rattle.std.proofs.lemmas.Slice.Eq.{bytes_eq-Decides}
use Rattle.disk.specs.declared.slot.Slot.{Slot}
use Rattle.disk.specs.declared.slot.Slot.TheVariants.{Image0, Image1, Segment0, Segment1}
use Rattle.disk.specs.Folders.{AreNamesSynced, AreSame, AreSameBut, Files, FilesFollow, FilesMayLeave, FilesPass, HasWritten, HaveSameNames, IsFileAfter, IsFileSynced, OnlyReads, bytes_of, bytes_or_none, files_of, folder_of, slot_named}
use Rattle.disk.specs.Moments.{View, Follows, IsSynced, MayLeave, Passes}
use Rattle.disk.specs.Slots.{Slots, file_name, slot_of, with_slot}

-- the names of the four files

chosen : (a b c d : Bool) (P : Slot → Type 0) → (a ≡ true → P Image0) → (b ≡ true → P Image1)
    → (c ≡ true → P Segment0) → (d ≡ true → P Segment1) → (slot : Slot)
    → (if a then Some Image0 else if b then Some Image1 else if c then Some Segment0 else if d then Some Segment1
    else None) ≡ Some slot → P slot
chosen true b c d P first second third fourth slot is = let e : Image0 ≡ slot = cc is in subst P e (first refl)
chosen false true c d P first second third fourth slot is = let e : Image1 ≡ slot = cc is in subst P e (second refl)
chosen false false true d P first second third fourth slot is =
    let e : Segment0 ≡ slot = cc is in subst P e (third refl)
chosen false false false true P first second third fourth slot is =
    let e : Segment1 ≡ slot = cc is in subst P e (fourth refl)
chosen false false false false P first second third fourth slot is = absurd (cc is)

pub name_is : (name : List ℕ) (slot : Slot) → slot_named name ≡ Some slot → name ≡ file_name slot
name_is name slot is =
    chosen (bytes_eq name (file_name Image0)) (bytes_eq name (file_name Image1)) (bytes_eq name (file_name Segment0))
    (bytes_eq name (file_name Segment1)) (λ s. name ≡ file_name s)
    (bytes_eq-Decides name (file_name Image0)).0 (bytes_eq-Decides name (file_name Image1)).0
    (bytes_eq-Decides name (file_name Segment0)).0 (bytes_eq-Decides name (file_name Segment1)).0 slot is

pub named_slot : (name : List ℕ) (slot : Slot) (slots : Slots) → slot_named name ≡ Some slot
    → files_of slots name ≡ Some (slot_of slots slot)
named_slot name slot slots is = ap (option_map (slot_of slots)) is

pub named_bytes : (name : List ℕ) (slot : Slot) (slots : Slots) → slot_named name ≡ Some slot
    → bytes_of (files_of slots) name ≡ slot_of slots slot
named_bytes name slot slots is = ap bytes_or_none (named_slot name slot slots is)

-- one slot has new bytes: so has its file, and no other
other_slot : (slots : Slots) (slot other : Slot) (bytes : List ℕ)
    → (other ≡ slot) ⊎ (slot_of (with_slot slots slot bytes) other ≡ slot_of slots other)
other_slot slots Image0 Image0 bytes = inl refl
other_slot slots Image0 Image1 bytes = inr refl
other_slot slots Image0 Segment0 bytes = inr refl
other_slot slots Image0 Segment1 bytes = inr refl
other_slot slots Image1 Image0 bytes = inr refl
other_slot slots Image1 Image1 bytes = inl refl
other_slot slots Image1 Segment0 bytes = inr refl
other_slot slots Image1 Segment1 bytes = inr refl
other_slot slots Segment0 Image0 bytes = inr refl
other_slot slots Segment0 Image1 bytes = inr refl
other_slot slots Segment0 Segment0 bytes = inl refl
other_slot slots Segment0 Segment1 bytes = inr refl
other_slot slots Segment1 Image0 bytes = inr refl
other_slot slots Segment1 Image1 bytes = inr refl
other_slot slots Segment1 Segment0 bytes = inr refl
other_slot slots Segment1 Segment1 bytes = inl refl

other_files : (slots : Slots) (slot : Slot) (bytes other : List ℕ) (found : Option Slot) → slot_named other ≡ found
    → (other ≡ file_name slot) ⊎ (files_of (with_slot slots slot bytes) other ≡ files_of slots other)
other_files slots slot bytes other None is =
    inr (ap (option_map (slot_of (with_slot slots slot bytes))) is ∙ sym (ap (option_map (slot_of slots)) is))
other_files slots slot bytes other (Some found) is = elim (other_slot slots slot found bytes) [
  | inl own ↦ inl (name_is other slot (is ∙ ap Some own))
  | inr same ↦
      inr (named_slot other found (with_slot slots slot bytes) is ∙ ap Some same
      ∙ sym (named_slot other found slots is))
]

pub same_but_one : (slots : Slots) (slot : Slot) (bytes : List ℕ)
    → AreSameBut (file_name slot) (files_of (with_slot slots slot bytes)) (files_of slots)
same_but_one slots slot bytes other = other_files slots slot bytes other (slot_named other) refl

own_slot : (slot : Slot) (slots : Slots) (bytes : List ℕ) → slot_of (with_slot slots slot bytes) slot ≡ bytes
own_slot Image0 slots bytes = refl
own_slot Image1 slots bytes = refl
own_slot Segment0 slots bytes = refl
own_slot Segment1 slots bytes = refl

pub slot_written : (name : List ℕ) (slot : Slot) (old new : Slots) (bytes : List ℕ) → slot_named name ≡ Some slot
    → new ≡ with_slot old slot bytes → HasWritten (files_of old) name bytes (files_of new)
slot_written name slot old new bytes named is =
    subst (λ (s : Slots). HasWritten (files_of old) name bytes (files_of s)) (sym is)
    (subst (λ (n : List ℕ). HasWritten (files_of old) n bytes (files_of (with_slot old slot bytes)))
    (sym (name_is name slot named)) (record {
      written =
          subst (λ (n : List ℕ). files_of (with_slot old slot bytes) n ≡ Some bytes) (name_is name slot named)
          (named_slot name slot (with_slot old slot bytes) named ∙ ap Some (own_slot slot old bytes));
      others = same_but_one old slot bytes;
    }))

-- moments

pub folder_passes : (old new : View) (P : Slots → Type 0) (Q : Files → Type 0) → Passes old new P
    → ((slots : Slots) (files : Files) → P slots → AreSame files (files_of slots) → Q files)
    → FilesPass (folder_of old) (folder_of new) Q
folder_passes old new P Q time leads = record {
  later = time.later;
  past = λ k c le. (
    λ left. (left.0, (time.past k left.0 le).0 left.1, left.2),
    λ left. (left.0, (time.past k left.0 le).1 left.1, left.2),
  );
  since = λ k c after le left. leads left.0 c (time.since k left.0 after le left.1) left.2;
}

pub folder_reads : (old new : View) → new.seen ≡ old.seen → Passes old new (MayLeave old)
    → OnlyReads (folder_of old) (folder_of new)
folder_reads old new same time = record {
  seen = λ name. ap (λ (s : Slots). files_of s name) same;
  time = folder_passes old new (MayLeave old) (FilesMayLeave (folder_of old)) time
      (λ slots files left alike. (slots, left, alike));
  has_lost = refl;
}

pub folder_follows : (name : List ℕ) (slot : Slot) (old : View) (step : List ℕ → List ℕ → Type 0)
    → slot_named name ≡ Some slot → (slots : Slots) (files : Files) → Follows old slot step slots
    → AreSame files (files_of slots) → FilesFollow (folder_of old) name step files
folder_follows name slot old step named slots files follows alike =
    let before : Slots = follows.0 in (
      files_of before,
      (before, follows.1, λ n. refl),
      subst (IsFileAfter step (files_of before name)) (sym (alike name ∙ named_slot name slot slots named))
          (subst (λ (o : Option (List ℕ)). IsFileAfter step o (Some (slot_of slots slot)))
          (sym (named_slot name slot before named)) follows.2),
      λ other. elim (same_but_one before slot (slot_of slots slot) other) [
        | inl own ↦ inl (own ∙ sym (name_is name slot named))
        | inr same ↦ inr (alike other ∙ ap (λ (s : Slots). files_of s other) follows.3 ∙ same)
      ],
    )

same_names : (a b : Slots) (found : Option Slot)
    → is_some (option_map (slot_of a) found) ≡ is_some (option_map (slot_of b) found)
same_names a b None = refl
same_names a b (Some slot) = refl

pub folder_names : (a b : Slots) → HaveSameNames (files_of a) (files_of b)
folder_names a b name = same_names a b (slot_named name)

pub folder_synced : (name : List ℕ) (slot : Slot) (disk : View) → slot_named name ≡ Some slot → IsSynced disk slot
    → IsFileSynced (folder_of disk) name
folder_synced name slot disk named synced c left =
    inr (left.2 name ∙ named_slot name slot left.0 named ∙ ap Some (synced left.0 left.1)
    ∙ sym (named_slot name slot disk.seen named))

pub none_synced : (name : List ℕ) (disk : View) → slot_named name ≡ None → IsFileSynced (folder_of disk) name
none_synced name disk named c left =
    inl (left.2 name ∙ ap (option_map (slot_of left.0)) named)

pub names_synced : (disk : View) → AreNamesSynced (folder_of disk)
names_synced disk = record {
  all = λ c left name there. ap is_some (left.2 name) ∙ folder_names left.0 disk.seen name ∙ there;
}
