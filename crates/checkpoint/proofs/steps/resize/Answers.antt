use Rattle.std.proofs.Common.{ℕ, ◌≤◌, subst}
use Rattle.slot_steps.proofs.Lengths.{on_ok}
use Rattle.checkpoint.proofs.Whole.{cut_to_header}
use Rattle.checkpoint.proofs.steps.resize.Goals as goal

pub returns-clause-cleared : goal.returns-clause-cleared
returns-clause-cleared g c = λ honest.
    on_ok c.cut_after.result
    (cut_to_header c.args.slot (g.D.Disk.view c.args.disk.now).seen (g.D.Disk.view c.cut_after.new.disk).seen
    (subst (λ (n : ℕ). 24 ≤ n) (c.length.ensures honest) c.if-length.false) (c.requires.closed honest))
    (c.cut_after.ensures.cut honest)
