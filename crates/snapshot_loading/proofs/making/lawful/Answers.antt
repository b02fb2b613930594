use Rattle.snapshot.specs.LawfulSnapshot.{IsLawfulIpc}
use Rattle.snapshot_loading.specs.Restored.{all_reported, reported}
use Rattle.snapshot_loading.proofs.making.lawful.Goals as goal

pub returns : goal.returns
returns c =
    let snapshot = c.args.snapshot.now in
    reported c.verdict.result c.fill-filled.result (IsLawfulIpc snapshot) c.verdict.ensures.yes
    c.verdict.ensures.no
    (all_reported c.fill-filled.result snapshot c.fill-filled.new.state.current c.fill-filled.ensures.filled)
    c.fill-filled.ensures.unlawful
