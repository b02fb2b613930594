-- A folder of files over time: what a read gives now, and the post-crash contents at each moment so far.
use Rattle.std.specs.Prelude.{◌≡◌, ◌↔◌, ◌⊎◌, ℕ, ◌≤◌, ◌<◌, List, [], Option, None, Some, Bool, true, false, is_some, option_map, bytes_eq, if◌then◌else◌}
use Rattle.disk.specs.declared.slot.Slot.{Slot}
use Rattle.disk.specs.declared.slot.Slot.TheVariants.{Image0, Image1, Segment0, Segment1}
use Rattle.disk.specs.Slots.{Slots, file_name, slot_of}
use Rattle.disk.specs.Moments.{View}

-- the bytes of each file by its name, or none where there is no such file
abbrev pub Files : Type 0
Files = List ℕ → Option (List ℕ)

abbrev pub bytes_or_none : Option (List ℕ) → List ℕ
bytes_or_none None = []
bytes_or_none (Some bytes) = bytes

-- the bytes of a file; a file that isn't there has none
abbrev pub bytes_of : Files → List ℕ → List ℕ
bytes_of files name = bytes_or_none (files name)

abbrev pub AreSame : Files → Files → Type 0
AreSame a b = (name : List ℕ) → a name ≡ b name

abbrev pub HaveSameNames : Files → Files → Type 0
HaveSameNames a b = (name : List ℕ) → is_some (a name) ≡ is_some (b name)

-- the same files, but for the one of this name
abbrev pub AreSameBut : List ℕ → Files → Files → Type 0
AreSameBut name a b = (other : List ℕ) → (other ≡ name) ⊎ (a other ≡ b other)

-- the files are those from before, but for this one, which holds these bytes
pub record HasWritten (old : Files) (name bytes : List ℕ) (new : Files) : Type 0 where
  pub written : new name ≡ Some bytes
  pub others : AreSameBut name new old

-- A folder as the model sees it. Moments are numbered as those of a disk. After a failed sync the system may have
-- dropped what it could not write, so that no later sync proves anything.
pub record FolderView : Type 1 where
  pub seen : Files
  pub moment : ℕ
  pub left_at : ℕ → Files → Type 0
  pub has_lost : Bool

-- what a crash now may leave
abbrev pub FilesMayLeave : FolderView → Files → Type 0
FilesMayLeave folder c = folder.left_at folder.moment c

-- Time went on: the past is as it was, and the post-crash contents at each moment since then satisfy P.
pub record FilesPass (old new : FolderView) (P : Files → Type 0) : Type 0 where
  pub later : old.moment ≤ new.moment
  pub past : (k : ℕ) (c : Files) → k ≤ old.moment → new.left_at k c ↔ old.left_at k c
  pub since : (k : ℕ) (c : Files) → old.moment < k → k ≤ new.moment → new.left_at k c → P c

-- a file after a step on its bytes; a crash that leaves no file of the name before the step leaves none after it
abbrev pub IsFileAfter : (List ℕ → List ℕ → Type 0) → Option (List ℕ) → Option (List ℕ) → Type 0
IsFileAfter step None None = Unit {0}
IsFileAfter step None (Some new) = ⊥
IsFileAfter step (Some old) None = ⊥
IsFileAfter step (Some old) (Some new) = step old new

-- what a step on the bytes of one file may make of the post-crash contents before it; the other files stay
abbrev pub FilesFollow : FolderView → List ℕ → (List ℕ → List ℕ → Type 0) → Files → Type 0
FilesFollow old name step c =
    (d : Files) × FilesMayLeave old d × IsFileAfter step (d name) (c name) × AreSameBut name c d

-- what making an empty file may make of them: it is there, or it isn't
abbrev pub FilesCreate : FolderView → List ℕ → Files → Type 0
FilesCreate old name c = (d : Files) × FilesMayLeave old d × (AreSame c d ⊎ HasWritten d name [] c)

-- after a crash the file is gone, or it holds what a read gives now
abbrev pub IsFileSynced : FolderView → List ℕ → Type 0
IsFileSynced folder name =
    (c : Files) → FilesMayLeave folder c → (c name ≡ None) ⊎ (c name ≡ folder.seen name)

-- after a crash each file is there that is there now
pub record AreNamesSynced (folder : FolderView) : Type 0 where
  pub all : (c : Files) → FilesMayLeave folder c → (name : List ℕ) → is_some (folder.seen name) ≡ true
      → is_some (c name) ≡ true

-- A call that only reads: files and post-crash contents stay.
pub record OnlyReads (old new : FolderView) : Type 0 where
  pub seen : AreSame new.seen old.seen
  pub time : FilesPass old new (FilesMayLeave old)
  pub has_lost : new.has_lost ≡ old.has_lost

-- the slots of a store in files of these names
abbrev pub slots_of_files : Files → Slots
slots_of_files files = record {
  image0 = bytes_of files (file_name Image0);
  image1 = bytes_of files (file_name Image1);
  segment0 = bytes_of files (file_name Segment0);
  segment1 = bytes_of files (file_name Segment1);
}

-- the disk that a folder is: its slots over time
abbrev pub disk_of : FolderView → View
disk_of folder = record {
  seen = slots_of_files folder.seen;
  moment = folder.moment;
  left_at = λ k c. (files : Files) × folder.left_at k files × (c ≡ slots_of_files files);
}

-- the slot that is kept in the file of this name
abbrev pub slot_named : List ℕ → Option Slot
slot_named name =
    if bytes_eq name (file_name Image0) then Some Image0
    else if bytes_eq name (file_name Image1) then Some Image1
    else if bytes_eq name (file_name Segment0) then Some Segment0
    else if bytes_eq name (file_name Segment1) then Some Segment1
    else None

-- four files of a store, which are all there, and no others
abbrev pub files_of : Slots → Files
files_of slots name = option_map (slot_of slots) (slot_named name)

-- the folder that has the slots of a disk as its files
abbrev pub folder_of : View → FolderView
folder_of disk = record {
  seen = files_of disk.seen;
  moment = disk.moment;
  left_at = λ k c. (slots : Slots) × disk.left_at k slots × AreSame c (files_of slots);
  has_lost = false;
}
