use Rattle.std.proofs.Common.{ℕ, List, [], length, subst}
use Rattle.disk.specs.Folders.{FilesFollow, FilesPass, disk_of}
use Rattle.disk.specs.Lasting.{write_lost}
use Rattle.disk.specs.Moments.{Follows, MayLeave}
use Rattle.disk.specs.Slots.{TornWrite, file_name}
use Rattle.disk.proofs.Folders.{disk_passes, files_follow, follows_after, stays_follow}
use Rattle.disk.proofs.Moments.{passes_as}
use Rattle.disk.proofs.file.write_file.Goals as goal

pub returns-in_err-make_file-clause-time : goal.returns-in_err-make_file-clause-time
returns-in_err-make_file-clause-time g c = λ honest.
    let old = disk_of (g.F.Folder.view c.args.folder.now) in
    let new = disk_of (g.F.Folder.view c.make_file.new.folder) in
    let step : List ℕ → List ℕ → Type 0 = TornWrite c.args.at (length c.args.bytes.now) in
    passes_as old new (MayLeave old) (Follows old c.args.slot step) (c.make_file.ensures.time honest)
    (stays_follow c.args.slot old step (write_lost c.args.at (length c.args.bytes.now)))

pub returns-clause-time : goal.returns-clause-time
returns-clause-time g c = λ honest.
    let old = g.F.Folder.view c.args.folder.now in
    let mid = g.F.Folder.view c.make_file.new.folder in
    let new = g.F.Folder.view c.write_at.new.self in
    let step : List ℕ → List ℕ → Type 0 = TornWrite c.args.at (length c.args.bytes.now) in
    let time : FilesPass mid new (FilesFollow mid (file_name c.args.slot) step) =
    subst (λ (n : List ℕ). FilesPass mid new (FilesFollow mid n step)) c.file_name.ensures
    (c.write_at.ensures.time honest) in
    follows_after c.args.slot (disk_of old) (disk_of mid) (disk_of new) step
    (write_lost c.args.at (length c.args.bytes.now))
    (c.make_file.ensures.time honest)
    (disk_passes mid new (FilesFollow mid (file_name c.args.slot) step) (Follows (disk_of mid) c.args.slot step) time
    (files_follow c.args.slot mid step (write_lost c.args.at (length c.args.bytes.now) [])))
