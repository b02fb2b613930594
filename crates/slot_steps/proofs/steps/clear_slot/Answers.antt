use Rattle.std.proofs.Common.{inl, refl}
use Rattle.disk.proofs.Moments.{synced_kept}
use Rattle.slot_steps.proofs.Following.{still_then}
use Rattle.slot_steps.specs.Steps.{IsClosing}
use Rattle.slot_steps.proofs.steps.clear_slot.Goals as goal

pub returns-clause-any_moment : goal.returns-clause-any_moment
returns-clause-any_moment g c = λ honest synced.
    let slot = c.args.slot in
    let old = g.D.Disk.view c.args.disk.now in
    let mid = g.D.Disk.view c.has_open_gate.new.disk in
    let reads = c.has_open_gate.ensures.reads honest in
    still_then slot old mid (g.D.Disk.view c.shorten.new.disk) (IsClosing c.args.header) (λ x. inl refl) reads.time
    (c.shorten.ensures.any_moment honest (synced_kept slot old mid reads.time reads.seen synced))
