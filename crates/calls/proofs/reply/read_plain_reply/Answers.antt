use Rattle.std.proofs.Common.{◌≡◌, ◌++◌, List, ℕ, length, ap, subst, ◌∙◌, arith}
use Rattle.words.specs.Words.{word}
use Rattle.calls.specs.PlainReplies.{Answers}
use Rattle.calls.proofs.PlainReplies.{code_reported, long_reply_to, stated_number}
use Rattle.calls.proofs.reply.read_plain_reply.Goals as goal

pub returns-in_default-clause-only : goal.returns-in_default-clause-only
returns-in_default-clause-only c = λ answer is.
    absurd (omega (arith, long_reply_to c.args.number c.args.content.now answer is, c.in_default.ensures.none))

pub returns-in_default-take_word-clause-only : goal.returns-in_default-take_word-clause-only
returns-in_default-take_word-clause-only c = λ answer is.
    absurd (omega (
      arith,
      long_reply_to c.args.number c.args.content.now answer is,
      ap length c.in-Some.ensures.found,
      c.in_default-take_word.ensures.none,
    ))

pub returns-then-front-number-clause-only : goal.returns-then-front-number-clause-only
returns-then-front-number-clause-only c = λ answer is.
    let front = c.in-Some.front in
    let second = c.in-Some-take_word in
    let content : c.args.content.now ≡ word front ++ (word second.code ++ second.results.now) =
    c.in-Some.ensures.found ∙ ap (λ (l : List ℕ). word front ++ l) second.ensures.found in
    absurd (c.if-front-number.true
    (stated_number c.args.number front second.code second.results.now answer c.in-Some.ensures.fits
    second.ensures.fits c.ranges.number.fits
    (subst (λ (l : List ℕ). Answers c.args.number l answer) content is)))

pub returns-in-None-clause-only : goal.returns-in-None-clause-only
returns-in-None-clause-only c = λ answer is.
    let front = c.in-Some.front in
    let second = c.in-Some-take_word in
    let content : c.args.content.now ≡ word front ++ (word second.code ++ second.results.now) =
    c.in-Some.ensures.found ∙ ap (λ (l : List ℕ). word front ++ l) second.ensures.found in
    let known =
    code_reported c.args.number front second.code second.results.now answer c.in-Some.ensures.fits second.ensures.fits
    c.ranges.number.fits (subst (λ (l : List ℕ). Answers c.args.number l answer) content is) in
    absurd (cc (c.in-None.ensures.only known.0 known.1))
