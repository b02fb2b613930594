-- Slots in files: what a call on a file does to the disk that the folder is.
use Rattle.std.proofs.Common.{◌≡◌, ◌⊎◌, inl, inr, ℕ, List, [], refl, sym, ap, subst, ◌∙◌, arith, true≢false}
use Rattle.std.specs.Prelude.{true, false, bytes_eq, Option, None, Some, is_some, Result, Ok, Err, OnOk}
use Rattle.disk.specs.declared.slot.Slot.{Slot}
use Rattle.disk.specs.declared.slot.Slot.TheVariants.{Image0, Image1, Segment0, Segment1}
use Rattle.disk.specs.Folders.{AreNamesSynced, AreSame, AreSameBut, Files, FilesCreate, FilesFollow, FilesMayLeave, FilesPass, FolderView, HasWritten, HaveSameNames, IsFileAfter, IsFileSynced, bytes_of, bytes_or_none, disk_of, slots_of_files}
use Rattle.disk.specs.Moments.{View, Follows, IsSynced, MayLeave, Passes}
use Rattle.disk.specs.Slots.{Slots, file_name, slot_of, with_slot}
use Rattle.disk.proofs.Moments.{left_before, later_or_now, passes_then, with_own}

-- slots

pub slot_is : (slot : Slot) (files : Files) → slot_of (slots_of_files files) slot ≡ bytes_of files (file_name slot)
slot_is Image0 files = refl
slot_is Image1 files = refl
slot_is Segment0 files = refl
slot_is Segment1 files = refl

pub same_slots : (a b : Files) → AreSame a b → slots_of_files a ≡ slots_of_files b
same_slots a b same = λ i. record {
  image0 = ap bytes_or_none (same (file_name Image0)) i;
  image1 = ap bytes_or_none (same (file_name Image1)) i;
  segment0 = ap bytes_or_none (same (file_name Segment0)) i;
  segment1 = ap bytes_or_none (same (file_name Segment1)) i;
}

-- names that a test tells apart
differ : (a b : List ℕ) → bytes_eq a b ≡ false → bytes_eq b b ≡ true → a ≡ b → ⊥
differ a b apart own alike =
    true≢false (sym own ∙ ap (λ (n : List ℕ). bytes_eq n b) (sym alike) ∙ apart)

-- the bytes of another slot's file, which has another name
other_bytes : (a b : Files) (name other : List ℕ) → AreSameBut name a b → (other ≡ name → ⊥)
    → bytes_of a other ≡ bytes_of b other
other_bytes a b name other same differ =
    elim (same other) [ inl alike ↦ absurd (differ alike) | inr is ↦ ap bytes_or_none is ]

-- files that are the same but for a slot's make slots that are the same but for it
pub but_one_slot : (slot : Slot) (a b : Files) → AreSameBut (file_name slot) a b
    → slots_of_files a ≡ with_slot (slots_of_files b) slot (bytes_of a (file_name slot))
but_one_slot Image0 a b same = λ i. record {
  image0 = bytes_of a (file_name Image0);
  image1 = other_bytes a b _ (file_name Image1) same (differ _ _ refl refl) i;
  segment0 = other_bytes a b _ (file_name Segment0) same (differ _ _ refl refl) i;
  segment1 = other_bytes a b _ (file_name Segment1) same (differ _ _ refl refl) i;
}
but_one_slot Image1 a b same = λ i. record {
  image0 = other_bytes a b _ (file_name Image0) same (differ _ _ refl refl) i;
  image1 = bytes_of a (file_name Image1);
  segment0 = other_bytes a b _ (file_name Segment0) same (differ _ _ refl refl) i;
  segment1 = other_bytes a b _ (file_name Segment1) same (differ _ _ refl refl) i;
}
but_one_slot Segment0 a b same = λ i. record {
  image0 = other_bytes a b _ (file_name Image0) same (differ _ _ refl refl) i;
  image1 = other_bytes a b _ (file_name Image1) same (differ _ _ refl refl) i;
  segment0 = bytes_of a (file_name Segment0);
  segment1 = other_bytes a b _ (file_name Segment1) same (differ _ _ refl refl) i;
}
but_one_slot Segment1 a b same = λ i. record {
  image0 = other_bytes a b _ (file_name Image0) same (differ _ _ refl refl) i;
  image1 = other_bytes a b _ (file_name Image1) same (differ _ _ refl refl) i;
  segment0 = other_bytes a b _ (file_name Segment0) same (differ _ _ refl refl) i;
  segment1 = bytes_of a (file_name Segment1);
}

pub written_slot : (slot : Slot) (old new : Files) (bytes : List ℕ) → HasWritten old (file_name slot) bytes new
    → slots_of_files new ≡ with_slot (slots_of_files old) slot bytes
written_slot slot old new bytes written =
    but_one_slot slot new old written.others
    ∙ ap (λ (content : Option (List ℕ)). with_slot (slots_of_files old) slot (bytes_or_none content)) written.written

-- an empty file in place of none
pub created_slot : (slot : Slot) (old new : Files) → old (file_name slot) ≡ None
    → HasWritten old (file_name slot) [] new → slots_of_files new ≡ slots_of_files old
created_slot slot old new none written =
    written_slot slot old new [] written
    ∙ ap (with_slot (slots_of_files old) slot) (sym (slot_is slot old ∙ ap bytes_or_none none))
    ∙ with_own slot (slots_of_files old)

-- moments

pub disk_passes : (old new : FolderView) (P : Files → Type 0) (Q : Slots → Type 0) → FilesPass old new P
    → ((files : Files) → P files → Q (slots_of_files files)) → Passes (disk_of old) (disk_of new) Q
disk_passes old new P Q time leads = record {
  later = time.later;
  past = λ k c le. (
    λ left. (left.0, (time.past k left.0 le).0 left.1, left.2),
    λ left. (left.0, (time.past k left.0 le).1 left.1, left.2),
  );
  since = λ k c after le left. subst Q (sym left.2) (leads left.0 (time.since k left.0 after le left.1));
}

pub disk_stays : (old new : FolderView) → FilesPass old new (FilesMayLeave old)
    → Passes (disk_of old) (disk_of new) (MayLeave (disk_of old))
disk_stays old new time =
    disk_passes old new (FilesMayLeave old) (MayLeave (disk_of old)) time (λ files left. (files, left, refl))

-- what a crash may leave of a folder now it might have left before, or that came about since
pub files_left_now : (old new : FolderView) (P : Files → Type 0) → FilesPass old new P → (c : Files)
    → FilesMayLeave new c → FilesMayLeave old c ⊎ P c
files_left_now old new P time c left = elim (later_or_now old.moment new.moment time.later) [
  | inl later ↦ inr (time.since new.moment c later (omega arith) left)
  | inr now ↦ inl (subst (λ k. old.left_at k c) now ((time.past new.moment c (omega arith)).0 left))
]

pub files_left_before : (old new : FolderView) → FilesPass old new (FilesMayLeave old) → (c : Files)
    → FilesMayLeave new c → FilesMayLeave old c
files_left_before old new time c left =
    elim (files_left_now old new (FilesMayLeave old) time c left) [ inl before ↦ before | inr before ↦ before ]

-- making a file leaves the slots as they were
pub created_passes : (slot : Slot) (old new : FolderView)
    → ((c : Files) → FilesMayLeave old c → c (file_name slot) ≡ None)
    → FilesPass old new (FilesCreate old (file_name slot))
    → Passes (disk_of old) (disk_of new) (MayLeave (disk_of old))
created_passes slot old new gone time =
    disk_passes old new (FilesCreate old (file_name slot)) (MayLeave (disk_of old)) time (λ files made.
    elim made.2 [
      | inl same ↦ (made.0, made.1, same_slots files made.0 same)
      | inr written ↦ (made.0, made.1, created_slot slot made.0 files (gone made.0 made.1) written)
    ])

-- steps on the bytes of a file

bytes_after : (step : List ℕ → List ℕ → Type 0) (old new : Option (List ℕ)) → step [] []
    → IsFileAfter step old new → step (bytes_or_none old) (bytes_or_none new)
bytes_after step None None none after = none
bytes_after step None (Some new) none after = absurd after
bytes_after step (Some old) None none after = absurd after
bytes_after step (Some old) (Some new) none after = after

pub files_follow : (slot : Slot) (folder : FolderView) (step : List ℕ → List ℕ → Type 0) → step [] []
    → (files : Files) → FilesFollow folder (file_name slot) step files
    → Follows (disk_of folder) slot step (slots_of_files files)
files_follow slot folder step none files follows =
    let before : Slots = slots_of_files follows.0 in
    let own = slot_is slot files in (
      before,
      (follows.0, follows.1, refl),
      subst (λ (b : List ℕ). step b (slot_of (slots_of_files files) slot)) (sym (slot_is slot follows.0))
          (subst (step (bytes_of follows.0 (file_name slot))) (sym own)
          (bytes_after step (follows.0 (file_name slot)) (files (file_name slot)) none follows.2)),
      but_one_slot slot files follows.0 follows.3 ∙ ap (with_slot before slot) (sym own),
    )

-- a step that may do nothing
pub stays_follow : (slot : Slot) (old : View) (step : List ℕ → List ℕ → Type 0) → ((b : List ℕ) → step b b)
    → (c : Slots) → MayLeave old c → Follows old slot step c
stays_follow slot old step none c left = (c, left, none (slot_of c slot), sym (with_own slot c))

-- a step after moments in which nothing changed
pub follows_after : (slot : Slot) (old mid new : View) (step : List ℕ → List ℕ → Type 0) → ((b : List ℕ) → step b b)
    → Passes old mid (MayLeave old) → Passes mid new (Follows mid slot step)
    → Passes old new (Follows old slot step)
follows_after slot old mid new step none first second =
    passes_then old mid new (MayLeave old) (Follows mid slot step) (Follows old slot step) first second
    (stays_follow slot old step none)
    (λ c follows. (follows.0, left_before old mid first follows.0 follows.1, follows.2, follows.3))

-- names

is_there_after : (step : List ℕ → List ℕ → Type 0) (old new : Option (List ℕ)) → IsFileAfter step old new
    → is_some new ≡ is_some old
is_there_after step None None after = refl
is_there_after step None (Some new) after = absurd after
is_there_after step (Some old) None after = absurd after
is_there_after step (Some old) (Some new) after = refl

-- a step on a file that is there leaves synced names synced
pub names_follow : (name : List ℕ) (old new : FolderView) (step : List ℕ → List ℕ → Type 0)
    → FilesPass old new (FilesFollow old name step) → HaveSameNames new.seen old.seen
    → AreNamesSynced old → AreNamesSynced new
names_follow name old new step time same synced = record {
  all = λ c left other there.
      let was : is_some (old.seen other) ≡ true = sym (same other) ∙ there in
      elim (files_left_now old new (FilesFollow old name step) time c left) [
        | inl before ↦ synced.all c before other was
        | inr follows ↦
            elim (follows.3 other) [
              | inl own ↦
                  ap (λ (n : List ℕ). is_some (c n)) own
                  ∙ is_there_after step (follows.0 name) (c name) follows.2
                  ∙ ap (λ (n : List ℕ). is_some (follows.0 n)) (sym own)
                  ∙ synced.all follows.0 follows.1 other was
              | inr is ↦ ap is_some is ∙ synced.all follows.0 follows.1 other was
            ]
      ];
}

pub names_stay : (old new : FolderView) → FilesPass old new (FilesMayLeave old) → AreSame new.seen old.seen
    → AreNamesSynced old → AreNamesSynced new
names_stay old new time same synced = record {
  all = λ c left other there.
      synced.all c (files_left_before old new time c left) other (ap is_some (sym (same other)) ∙ there);
}

pub file_stays_synced : (name : List ℕ) (old new : FolderView) → FilesPass old new (FilesMayLeave old)
    → AreSame new.seen old.seen → IsFileSynced old name → IsFileSynced new name
file_stays_synced name old new time same synced c left =
    elim (synced c (files_left_before old new time c left)) [
      | inl none ↦ inl none
      | inr is ↦ inr (is ∙ sym (same name))
    ]

-- a synced file whose name is synced makes a synced slot
pub slot_synced : (slot : Slot) (folder : FolderView) → IsFileSynced folder (file_name slot) → AreNamesSynced folder
    → is_some (folder.seen (file_name slot)) ≡ true → IsSynced (disk_of folder) slot
slot_synced slot folder file names there c left =
    let same : left.0 (file_name slot) ≡ folder.seen (file_name slot) =
    elim (file left.0 left.1) [
      | inl none ↦ cc (none, names.all left.0 left.1 (file_name slot) there)
      | inr is ↦ is
    ] in
    ap (λ (s : Slots). slot_of s slot) left.2 ∙ slot_is slot left.0 ∙ ap bytes_or_none same
    ∙ sym (slot_is slot folder.seen)

-- a slot whose file isn't there is as a sync leaves it
pub none_synced : (slot : Slot) (folder : FolderView)
    → ((c : Files) → FilesMayLeave folder c → c (file_name slot) ≡ None)
    → folder.seen (file_name slot) ≡ None → IsSynced (disk_of folder) slot
none_synced slot folder gone none c left =
    ap (λ (s : Slots). slot_of s slot) left.2 ∙ slot_is slot left.0
    ∙ ap bytes_or_none (gone left.0 left.1 ∙ sym none) ∙ sym (slot_is slot folder.seen)

pub on_ok : {X E : Type 0} {A B : Type 0} (r : Result X E) → (A → B) → OnOk r A → OnOk r B
on_ok (Ok x) leads holds = leads holds
on_ok (Err e) leads holds = tt
