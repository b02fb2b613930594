use Rattle.std.proofs.Common.{◌≡◌, ◌++◌, subst, rules}
use Rattle.codes.specs.KernReturn.{number_of}
use Rattle.codes.specs.declared.kern_return.KernReturn.{KernReturn}
use Rattle.codes.specs.declared.kern_return.KernReturn.TheVariants.{Success}
use Rattle.words.specs.Words.{word}
use Rattle.calls.specs.PlainReplies.{Answers}
use Rattle.calls.proofs.PlainReplies.{done_reported}
use Rattle.calls.proofs.reply.read_answer.Goals as goal

pub returns-then-eq-clause-only : goal.returns-then-eq-clause-only
returns-then-eq-clause-only c = λ answer is.
    let number = c.args.number in
    let results = c.args.results.now in
    let success : c.args.code ≡ Success = search rules in
    let done : Answers number (word number ++ (word 0 ++ results)) answer =
    subst (λ (k : KernReturn). Answers number (word number ++ (word (number_of k) ++ results)) answer) success is in
    c.read_results.ensures.only answer
    (done_reported number results answer c.ranges.number.fits c.if-number-eq-MACH_MSG.false done)
    is.well_formed
