use Rattle.slot_steps.proofs.Following.{always_ok, cut_closed, shut_kept}
use Rattle.slot_steps.proofs.steps.cut_after.Goals as goal

pub returns-clause-shut : goal.returns-clause-shut
returns-clause-shut g c = λ honest shut.
    let old = g.D.Disk.view c.args.disk.now in
    let new = g.D.Disk.view c.cut.new.self in
    always_ok c.cut.result (shut_kept c.args.slot old new shut
    (cut_closed c.args.slot old new c.args.len c.requires.beyond shut (c.cut.ensures.time honest)))

pub returns-clause-any_moment : goal.returns-clause-any_moment
returns-clause-any_moment g c = λ honest shut.
    cut_closed c.args.slot (g.D.Disk.view c.args.disk.now)
    (g.D.Disk.view c.cut.new.self) c.args.len c.requires.beyond shut (c.cut.ensures.time honest)
