use Rattle.slot_steps.proofs.Lengths.{on_ok}
use Rattle.checkpoint.proofs.Whole.{extended_to_header}
use Rattle.checkpoint.proofs.steps.extend.Goals as goal

pub returns-clause-cleared : goal.returns-clause-cleared
returns-clause-cleared g c = λ honest.
    on_ok c.write_after.result
    (extended_to_header c.args.slot (g.D.Disk.view c.args.disk.now).seen (g.D.Disk.view c.write_after.new.disk).seen
    (c.requires.begun honest) (c.requires.short honest) (c.requires.closed honest))
    (c.write_after.ensures.written honest)
