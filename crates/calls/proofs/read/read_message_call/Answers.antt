use Rattle.std.proofs.Common.{◌++◌, sym, ap, ◌∙◌}
use Rattle.words.specs.Words.{word}
use Rattle.calls.proofs.Messages.{only_receipt}
use Rattle.calls.proofs.Options.{known_option}
use Rattle.calls.proofs.read.read_message_call.Goals as goal

pub returns-in_default-from_bits-clause-only : goal.returns-in_default-from_bits-clause-only
returns-in_default-from_bits-clause-only c = λ call fits number is.
    absurd (cc ((c.in_default-from_bits.ensures.known tt).1
    (known_option c.in-Some.option c.in-Some.words.now call c.in-Some.ensures.fits number
    (sym c.in-Some.ensures.found ∙ is))))

pub returns-in-Some-receives_large-clause-only : goal.returns-in-Some-receives_large-clause-only
returns-in-Some-receives_large-clause-only c = λ call fits number is.
    let option = sym c.in-Some-receives_large.ensures.found ∙ c.in-Some-from_bits.ensures.value tt in
    only_receipt c.in-Some-receives_large.large c.in-Some.words.now c.read_receive.result c.read_receive.ensures.only
    call fits number
    (ap (λ n. word n ++ c.in-Some.words.now) option ∙ sym c.in-Some.ensures.found ∙ is)
