use Rattle.std.proofs.Common.{ℕ, ◌<◌, length, ap, ◌∙◌, arith}
use Rattle.disk.specs.Slots.{slot_of}
use Rattle.slot_steps.proofs.Clearing.{shortens}
use Rattle.slot_steps.specs.Steps.{shortened}
use Rattle.slot_steps.proofs.steps.shorten.Goals as goal

pub returns-clause-done : goal.returns-clause-done
returns-clause-done g c = λ honest.
    let slot = c.args.slot in
    let old = g.D.Disk.view c.args.disk.now in
    let long = c.length-length.ensures honest in
    let longer : c.args.header < length (slot_of old.seen slot) = omega (arith, long, c.if-length-header.false) in
    shortens c.args.header c.args.most old (g.D.Disk.view c.cut_synced.new.disk) slot c.length_after.result
    (c.length_after.ensures ∙ ap (λ (n : ℕ). shortened c.args.header c.args.most n) long) (c.requires.shut honest)
    longer (c.in_ok-cut_synced.ensures.cut honest) (c.in_ok-cut_synced.ensures.synced honest)
