use Rattle.slot_steps.proofs.Following.{synced_shut}
use Rattle.slot_steps.proofs.Gates.{closing_then}
use Rattle.checkpoint.proofs.steps.clear.Goals as goal

pub returns-clause-any_moment : goal.returns-clause-any_moment
returns-clause-any_moment g c = λ honest synced.
    let closed = g.D.Disk.view c.close_slot.new.disk in
    let shut =
    synced_shut c.args.slot closed (c.in_ok-close_slot.ensures.synced honest)
    (c.in_ok-close_slot.ensures.closed honest) in
    closing_then c.args.slot (g.D.Disk.view c.args.disk.now) closed (g.D.Disk.view c.resize.new.disk) 24
    (c.close_slot.ensures.any_moment honest synced) (c.resize.ensures.any_moment honest shut)
