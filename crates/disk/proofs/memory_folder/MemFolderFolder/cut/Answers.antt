use Rattle.std.proofs.Common.{◌≡◌, ℕ, List, sym, ◌∙◌}
use Rattle.std.specs.Prelude.{Some}
use Rattle.disk.specs.Folders.{FilesFollow, folder_of, slot_named}
use Rattle.disk.specs.Memory.{memory_view}
use Rattle.disk.specs.Moments.{Follows}
use Rattle.disk.specs.Slots.{TornCut}
use Rattle.disk.proofs.MemoryFolder.{folder_follows, folder_passes}
use Rattle.disk.proofs.memory_folder.MemFolderFolder.cut.Goals as goal

pub returns-in-Ok-clause-time : goal.returns-in-Ok-clause-time
returns-in-Ok-clause-time c = λ honest.
    let old = memory_view c.args.self.now.disk in
    let step : List ℕ → List ℕ → Type 0 = TornCut c.args.len in
    let named : slot_named c.args.name.now ≡ Some c.in-Some.slot = sym c.slot_of_name.ensures ∙ c.in-Some.is in
    folder_passes old (memory_view c.cut.new.self) (Follows old c.in-Some.slot step)
    (FilesFollow (folder_of old) c.args.name.now step) (c.cut.ensures.time tt)
    (folder_follows c.args.name.now c.in-Some.slot old step named)

pub returns-in-Err-clause-time : goal.returns-in-Err-clause-time
returns-in-Err-clause-time c = λ honest.
    let old = memory_view c.args.self.now.disk in
    let step : List ℕ → List ℕ → Type 0 = TornCut c.args.len in
    let named : slot_named c.args.name.now ≡ Some c.in-Some.slot = sym c.slot_of_name.ensures ∙ c.in-Some.is in
    folder_passes old (memory_view c.cut.new.self) (Follows old c.in-Some.slot step)
    (FilesFollow (folder_of old) c.args.name.now step) (c.cut.ensures.time tt)
    (folder_follows c.args.name.now c.in-Some.slot old step named)
