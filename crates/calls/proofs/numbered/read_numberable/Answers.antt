use Rattle.std.proofs.Common.{◌++◌, ℕ, ap, ◌∙◌, arith}
use Rattle.words.specs.Words.{word}
use Rattle.calls.proofs.RequestLaws.{attempt_lacking, attempt_parts, long_numbers}
use Rattle.calls.proofs.numbered.read_numberable.Goals as goal

pub returns-in_default-clause-only : goal.returns-in_default-clause-only
returns-in_default-clause-only c = λ k is.
    absurd (omega (arith, long_numbers c.args.content.now k is, c.in_default.ensures.none))

pub returns-then-number-eq-MACH_MSG-clause-only : goal.returns-then-number-eq-MACH_MSG-clause-only
returns-then-number-eq-MACH_MSG-clause-only c = λ k is.
    c.read_attempt.ensures.only k
    (attempt_parts c.args.content.now c.in-Some.arguments.now k
    (c.in-Some.ensures.found ∙ ap (λ (n : ℕ). word n ++ c.in-Some.arguments.now) c.if-number-eq-MACH_MSG.true) is)

pub returns-then-number-eq-MACH_MSG-clause-memory : goal.returns-then-number-eq-MACH_MSG-clause-memory
returns-then-number-eq-MACH_MSG-clause-memory c =
    attempt_lacking c.args.content.now c.in-Some.arguments.now c.read_attempt.result
    (c.in-Some.ensures.found ∙ ap (λ (n : ℕ). word n ++ c.in-Some.arguments.now) c.if-number-eq-MACH_MSG.true)
    c.read_attempt.ensures.memory
