use Rattle.std.proofs.Common.{arith}
use Rattle.calls.proofs.Room.{at_error, words_full}
use Rattle.calls.proofs.word_rows.push_words.Goals as goal

pub returns-in_err-push_word-clause-full : goal.returns-in_err-push_word-clause-full
returns-in_err-push_word-clause-full c =
    let more =
    words_full c.args.out.now.items c.loop-number.out.items c.args.numbers.now c.loop-number.number-index
    c.args.out.now.cap c.loop-number.out.cap c.loop-number.invariant.added c.loop-number-test.true
    c.loop-number.invariant.room (omega (arith, c.in_err-push_word.ensures.full, c.loop-number.out.ok.0)) in
    at_error c.from_residual.result (omega (arith, more, c.args.out.now.ok.0))
