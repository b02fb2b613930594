use Rattle.std.proofs.Common.{◌-◌, arith}
use Rattle.history.proofs.Knowing.{begins_by}
use Rattle.history.proofs.meeting.compare_last.Goals as goal

pub returns-clause-begins : goal.returns-clause-begins
returns-clause-begins c = λ same.
    (begins_by (λ n. n.cell) (λ n. n.known) c.args.mine.now.items c.args.theirs.now.items c.again_at-note.result
    (c.args.long - 1) c.requires.known.0 c.requires.known.1 c.again_at-note.ensures.note
    (omega arith) c.compare_at.ensures.known).0 (omega arith)

pub returns-clause-goes_on : goal.returns-clause-goes_on
returns-clause-goes_on c = λ same.
    (begins_by (λ n. n.cell) (λ n. n.known) c.args.mine.now.items c.args.theirs.now.items c.again_at-note.result
    (c.args.long - 1) c.requires.known.0 c.requires.known.1 c.again_at-note.ensures.note
    (omega arith) c.compare_at.ensures.known).1 (omega arith)
