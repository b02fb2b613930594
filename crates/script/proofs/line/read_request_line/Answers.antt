use Rattle.std.proofs.Common.{Ok, Err, ap, ◌∙◌}
use Rattle.script.specs.vocabulary.Spaced.{words_of}
use Rattle.script.specs.Lines.{on_line, request_read}
use Rattle.script.proofs.LinesAgain.{request_fails, request_read_again, words_of_call, is_read}
use Rattle.script.proofs.line.read_request_line.Goals as goal

pub returns-in-Ok-clause-spaced : goal.returns-in-Ok-clause-spaced
returns-in-Ok-clause-spaced c =
    λ call fits is. is_read (Ok c.in-Ok.call) (request_read c.args.line.now) call
    (ap (on_line c.args.line.now) c.in-Ok.ensures) (request_read_again _ call is fits)

pub returns-in-Ok-clause-only : goal.returns-in-Ok-clause-only
returns-in-Ok-clause-only c = λ call fits is.
    is_read (Ok c.in-Ok.call) (request_read c.args.line.now) call (ap (on_line c.args.line.now) c.in-Ok.ensures)
    (request_read_again _ call (ap words_of is ∙ words_of_call call fits) fits)

pub returns-in-Err-clause-spaced : goal.returns-in-Err-clause-spaced
returns-in-Err-clause-spaced c = λ call fits is.
    is_read (Err c.line_fault.result) (request_read c.args.line.now) call
    (rw c.line_fault.ensures (request_fails c.in-Err.fault _ c.in-Err.ensures)) (request_read_again _ call is fits)

pub returns-in-Err-clause-only : goal.returns-in-Err-clause-only
returns-in-Err-clause-only c = λ call fits is.
    is_read (Err c.line_fault.result) (request_read c.args.line.now) call
    (rw c.line_fault.ensures (request_fails c.in-Err.fault _ c.in-Err.ensures))
    (request_read_again _ call (ap words_of is ∙ words_of_call call fits) fits)

pub returns-in-Err-clause-read : goal.returns-in-Err-clause-read
returns-in-Err-clause-read c = rw c.line_fault.ensures (request_fails c.in-Err.fault _ c.in-Err.ensures)
