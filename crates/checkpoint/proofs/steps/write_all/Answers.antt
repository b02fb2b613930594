use Rattle.slot_steps.proofs.Gates.{closing_remade, closing_then, remade_then}
use Rattle.checkpoint.specs.Images.{open_image}
use Rattle.checkpoint.proofs.steps.write_all.Goals as goal

pub returns-in_err-write_encoding-clause-any_moment : goal.returns-in_err-write_encoding-clause-any_moment
returns-in_err-write_encoding-clause-any_moment g c = λ honest synced.
    let slot = c.args.slot in
    let old = g.D.Disk.view c.args.disk.now in
    let written = g.D.Disk.view c.write_encoding.new.disk in
    closing_remade slot old written 24 (open_image c.args.epoch c.args.encoding.now)
    (closing_then slot old (g.D.Disk.view c.clear.new.disk) written 24 (c.clear.ensures.any_moment honest synced)
    (c.write_encoding.ensures.any_moment honest (c.in_ok-clear.ensures.shut honest)))

pub returns-clause-any_moment : goal.returns-clause-any_moment
returns-clause-any_moment g c = λ honest synced.
    let slot = c.args.slot in
    let old = g.D.Disk.view c.args.disk.now in
    let written = g.D.Disk.view c.write_encoding.new.disk in
    let shut = c.in_ok-clear.ensures.shut honest in
    remade_then slot old written (g.D.Disk.view c.finish.new.disk) 24 (open_image c.args.epoch c.args.encoding.now)
    (closing_then slot old (g.D.Disk.view c.clear.new.disk) written 24 (c.clear.ensures.any_moment honest synced)
    (c.write_encoding.ensures.any_moment honest shut))
    (c.finish.ensures.any_moment honest (c.in_ok-write_encoding.ensures.shut honest shut))
