use Rattle.std.proofs.Common.{arith}
use Rattle.calls.proofs.Room.{at_error, names_full}
use Rattle.calls.proofs.encode.push_names.Goals as goal

pub returns-in_err-push_words-2-clause-full : goal.returns-in_err-push_words-2-clause-full
returns-in_err-push_words-2-clause-full c =
    let more =
    names_full c.args.out.now.items c.loop-named.out.items c.args.names.now c.loop-named.named-index
    c.args.out.now.cap c.loop-named.out.cap c.loop-named.invariant.added c.loop-named-test.true
    c.loop-named.invariant.room (omega (arith, c.in_err-push_words-2.ensures.full, c.loop-named.out.ok.0)) in
    at_error c.from_residual-in_err-push_words-2.result (omega (arith, more, c.args.out.now.ok.0))
