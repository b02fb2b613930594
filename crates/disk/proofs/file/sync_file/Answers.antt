use Rattle.std.proofs.Common.{is_some, ap, subst, ◌∙◌}
use Rattle.disk.specs.Folders.{AreNamesSynced, IsFileSynced}
use Rattle.disk.specs.Slots.{file_name}
use Rattle.disk.proofs.Folders.{file_stays_synced, names_stay, on_ok, slot_synced}
use Rattle.disk.proofs.file.sync_file.Goals as goal

pub returns-then-are_names_synced-clause-synced : goal.returns-then-are_names_synced-clause-synced
returns-then-are_names_synced-clause-synced g c = λ honest.
    let old = g.F.Folder.view c.args.folder.now in
    let new = g.F.Folder.view c.sync.new.self in
    let file : IsFileSynced new (file_name c.args.slot) =
    subst (IsFileSynced new) c.file_name.ensures (c.in_ok-sync.ensures.synced honest (c.requires.kept honest)) in
    let names : AreNamesSynced new =
    names_stay old new (c.sync.ensures.time honest) (c.sync.ensures.seen honest)
    (c.requires.names c.if-are_names_synced.true honest) in
    slot_synced c.args.slot new file names
    (ap is_some (c.sync.ensures.seen honest (file_name c.args.slot)) ∙ c.requires.there honest)

pub returns-clause-synced : goal.returns-clause-synced
returns-clause-synced g c = λ honest.
    let old = g.F.Folder.view c.args.folder.now in
    let mid = g.F.Folder.view c.sync.new.self in
    let new = g.F.Folder.view c.sync_names.new.self in
    let file : IsFileSynced mid (file_name c.args.slot) =
    subst (IsFileSynced mid) c.file_name.ensures (c.in_ok-sync.ensures.synced honest (c.requires.kept honest)) in
    on_ok c.sync_names.result
    (λ (names : AreNamesSynced new). slot_synced c.args.slot new
    (file_stays_synced (file_name c.args.slot) mid new (c.sync_names.ensures.time honest)
    (c.sync_names.ensures.seen honest) file)
    names
    (ap is_some (c.sync_names.ensures.seen honest (file_name c.args.slot)
    ∙ c.sync.ensures.seen honest (file_name c.args.slot)) ∙ c.requires.there honest))
    (c.sync_names.ensures.synced honest (c.in_ok-sync.ensures.has_lost honest ∙ c.requires.kept honest))
