use Rattle.std.proofs.Common.{arith, ap, flat_map, length, take, length-append, length-take}
use Rattle.words.specs.Words.{word}
use Rattle.calls.proofs.Lengths.{length-words_text, words_room}
use Rattle.calls.proofs.frame.put_words.Goals as goal

pub put_word-requires-clause-room : goal.put_word-requires-clause-room
put_word-requires-clause-room c =
    let more =
    words_room c.args.frame.now.content c.loop-number.frame.content c.args.numbers.now c.loop-number.number-index
    c.loop-number.invariant.content c.loop-number-test.true in
    omega (arith, more, c.requires.room)

pub put_word-requires-clause-limit : goal.put_word-requires-clause-limit
put_word-requires-clause-limit c =
    let more =
    words_room c.args.frame.now.content c.loop-number.frame.content c.args.numbers.now c.loop-number.number-index
    c.loop-number.invariant.content c.loop-number-test.true in
    omega (arith, more, c.requires.limit)

pub returns-clause-length : goal.returns-clause-length
returns-clause-length c =
    let some = take c.loop-number.number-index c.args.numbers.now in
    omega (
      arith,
      ap length c.loop-number.invariant.content,
      length-append c.args.frame.now.content (flat_map word some),
      length-words_text some,
      length-take c.loop-number.number-index c.args.numbers.now,
      c.loop-number-test.false,
      c.loop-number.auto.number-index-end,
    )
