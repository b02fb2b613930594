use Rattle.std.proofs.Common.{Some, Ok, Err, ap, sym, ◌∙◌}
use Rattle.script.specs.vocabulary.Spaced.{words_of}
use Rattle.script.specs.Lines.{line_read}
use Rattle.script.proofs.LinesAgain.{line_ok, line_blank, line_fails, line_read_again, words_of_exchange, is_read, some_words}
use Rattle.script.proofs.line.read_line.Goals as goal

pub returns-in_default-clause-only : goal.returns-in_default-clause-only
returns-in_default-clause-only c =
    λ x fits is. absurd (some_words x (sym (words_of_exchange x fits) ∙ ap words_of (sym is) ∙ c.in_default.ensures))

pub returns-in_default-clause-spaced : goal.returns-in_default-clause-spaced
returns-in_default-clause-spaced c = λ x fits is. absurd (some_words x (sym is ∙ c.in_default.ensures))

pub returns-in_default-clause-read : goal.returns-in_default-clause-read
returns-in_default-clause-read c = line_blank _ c.in_default.ensures

pub returns-in-Ok-clause-read : goal.returns-in-Ok-clause-read
returns-in-Ok-clause-read c = line_ok _ _ _ _ c.in-Some.ensures c.in-Ok.ensures

pub returns-in-Ok-clause-spaced : goal.returns-in-Ok-clause-spaced
returns-in-Ok-clause-spaced c = λ x fits is.
    is_read (Ok (Some c.in-Ok.exchange)) (line_read c.args.line.now) (Some x)
    (line_ok _ _ _ _ c.in-Some.ensures c.in-Ok.ensures) (line_read_again _ x is fits)

pub returns-in-Ok-clause-only : goal.returns-in-Ok-clause-only
returns-in-Ok-clause-only c = λ x fits is.
    is_read (Ok (Some c.in-Ok.exchange)) (line_read c.args.line.now) (Some x)
    (line_ok _ _ _ _ c.in-Some.ensures c.in-Ok.ensures)
    (line_read_again _ x (ap words_of is ∙ words_of_exchange x fits) fits)

pub returns-in-Err-clause-read : goal.returns-in-Err-clause-read
returns-in-Err-clause-read c =
    rw c.line_fault.ensures (line_fails c.in-Err.fault _ _ _ c.in-Some.ensures c.in-Err.ensures)

pub returns-in-Err-clause-spaced : goal.returns-in-Err-clause-spaced
returns-in-Err-clause-spaced c = λ x fits is.
    is_read (Err c.line_fault.result) (line_read c.args.line.now) (Some x)
    (rw c.line_fault.ensures (line_fails c.in-Err.fault _ _ _ c.in-Some.ensures c.in-Err.ensures))
    (line_read_again _ x is fits)

pub returns-in-Err-clause-only : goal.returns-in-Err-clause-only
returns-in-Err-clause-only c = λ x fits is.
    is_read (Err c.line_fault.result) (line_read c.args.line.now) (Some x)
    (rw c.line_fault.ensures (line_fails c.in-Err.fault _ _ _ c.in-Some.ensures c.in-Err.ensures))
    (line_read_again _ x (ap words_of is ∙ words_of_exchange x fits) fits)
