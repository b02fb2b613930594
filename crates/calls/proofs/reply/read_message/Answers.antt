use Rattle.std.proofs.Common.{◌≡◌, ◌++◌, List, ℕ, sym, ap, ◌∙◌}
use Rattle.words.specs.Words.{word}
use Rattle.calls.proofs.PlainReplies.{one_message}
use Rattle.calls.proofs.reply.read_message.Goals as goal

pub returns-clause-only : goal.returns-clause-only
returns-clause-only c = λ answer is.
    let size = c.in-Some.size in
    let member = c.in-Some.member in
    let whole : c.in-Some.message.now ≡ c.in_ok-message.message = sym c.in_ok-message.ensures.value in
    one_message c.args.code c.args.results.now c.in_ok-message.message size member answer
    (c.in-Some.ensures.found ∙ ap (λ (l : List ℕ). word size ++ (word member ++ l)) whole)
    c.in-Some.ensures.fits.0 c.in-Some.ensures.fits.1 is
