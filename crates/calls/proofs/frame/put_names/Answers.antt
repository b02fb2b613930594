use Rattle.std.proofs.Common.{arith}
use Rattle.calls.proofs.Lengths.{names_room}
use Rattle.calls.proofs.frame.put_names.Goals as goal

pub put_words-requires-clause-room : goal.put_words-requires-clause-room
put_words-requires-clause-room c =
    let more =
    names_room c.args.frame.now.content c.loop-named.frame.content c.args.names.now c.loop-named.named-index
    c.loop-named.invariant.content c.loop-named-test.true in
    omega (arith, more, c.requires.room)

pub put_words-requires-clause-limit : goal.put_words-requires-clause-limit
put_words-requires-clause-limit c =
    let more =
    names_room c.args.frame.now.content c.loop-named.frame.content c.args.names.now c.loop-named.named-index
    c.loop-named.invariant.content c.loop-named-test.true in
    omega (arith, more, c.requires.limit)
