-- What is assumed of a folder of the operating system.
use Rattle.std.proofs.Common.{refl}
use Rattle.std.specs.Prelude.{◌≡◌, ℕ, List, None, false}
use Rattle.disk.specs.Folders.{Files, FilesMayLeave, FolderView}

-- The folder over time. Nobody looks into it: no contract can say what a file holds, so what is said of it follows only
-- from the premise below. (It is that of a folder without files.)
pub folder_view : {F : Type 0} → F → FolderView
folder_view folder = record {
  seen = λ name. None;
  moment = 0;
  left_at = λ k c. (name : List ℕ) → c name ≡ None;
  has_lost = false;
}

pub view_lasts : {F : Type 0} (folder : F) → FilesMayLeave (folder_view folder) (folder_view folder).seen
unfolding folder_view
view_lasts folder name = refl

pub view_returns_none : {F : Type 0} (folder : F) (c : Files) → FilesMayLeave (folder_view folder) c → (name : List ℕ)
    → c name ≡ None
unfolding folder_view
view_returns_none folder c left name = left name

pub view_has_lost : {F : Type 0} (folder : F) → (folder_view folder).has_lost ≡ false
unfolding folder_view
view_has_lost folder = refl

-- The premise that the operating system keeps the files of a folder as `Folder` says: a read gives what was written;
-- after a crash, a write that wasn't synced has left what `TornWrite` allows, and a truncation what `TornCut` allows;
-- once `sync_all` of a file has returned without an error, a crash leaves that file as a read gives it, or not at all
-- where it was made since the folder was last synced; once `sync_all` of the folder has, each file is there.
--
-- Nothing proves it, and no proof may use what it is made of: it stands for what the operating system and its device
-- do, which no clause can say. So it is opaque, and opened in one place only: where `HostFolder` meets the clauses on
-- contents, to pass on as a premise what can only be one.
unfoldable pub FilesKeepModel : Type 0
FilesKeepModel = ⊥
