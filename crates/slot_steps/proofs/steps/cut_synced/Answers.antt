use Rattle.slot_steps.proofs.Following.{closed_then, shut_kept}
use Rattle.slot_steps.proofs.steps.cut_synced.Goals as goal

pub returns-clause-any_moment : goal.returns-clause-any_moment
returns-clause-any_moment g c = λ honest shut.
    let slot = c.args.slot in
    let old = g.D.Disk.view c.args.disk.now in
    let mid = g.D.Disk.view c.cut_after.new.disk in
    let first = c.cut_after.ensures.any_moment honest shut in
    closed_then slot old mid (g.D.Disk.view c.sync_after.new.disk) first
    (c.sync_after.ensures.any_moment honest (shut_kept slot old mid shut first))
