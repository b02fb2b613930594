use Rattle.slot_steps.proofs.Following.{always_ok, write_closed, shut_kept}
use Rattle.slot_steps.proofs.steps.write_after.Goals as goal

pub returns-clause-shut : goal.returns-clause-shut
returns-clause-shut g c = λ honest shut.
    let old = g.D.Disk.view c.args.disk.now in
    let new = g.D.Disk.view c.write_at.new.self in
    always_ok c.write_at.result (shut_kept c.args.slot old new shut
    (write_closed c.args.slot old new c.args.at _ c.requires.beyond shut (c.write_at.ensures.time honest)))

pub returns-clause-any_moment : goal.returns-clause-any_moment
returns-clause-any_moment g c = λ honest shut.
    write_closed c.args.slot (g.D.Disk.view c.args.disk.now)
    (g.D.Disk.view c.write_at.new.self) c.args.at _ c.requires.beyond shut (c.write_at.ensures.time honest)
