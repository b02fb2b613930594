use Rattle.std.proofs.Common.{length, ap, arith, length-append}
use Rattle.words.specs.Words.{word}
use Rattle.calls.proofs.frame.start_reply.Goals as goal

pub put_word-requires-clause-room : goal.put_word-requires-clause-room
put_word-requires-clause-room c =
    omega (arith, c.requires.room, c.requires.limit, c.start_after.ensures.length, c.start_after.ensures.room)

pub put_word-requires-clause-limit : goal.put_word-requires-clause-limit
put_word-requires-clause-limit c = omega (arith, c.requires.limit, c.start_after.ensures.length)

pub put_words-requires-clause-room : goal.put_words-requires-clause-room
put_words-requires-clause-room c =
    omega (
      arith,
      c.requires.room,
      c.requires.limit,
      ap length c.put_word.ensures.content,
      length-append c.start_after.new.frame.content (word c.args.code),
      c.start_after.ensures.length,
      c.put_word.ensures.room,
      c.start_after.ensures.room,
    )

pub put_words-requires-clause-limit : goal.put_words-requires-clause-limit
put_words-requires-clause-limit c =
    omega (
      arith,
      c.requires.limit,
      ap length c.put_word.ensures.content,
      length-append c.start_after.new.frame.content (word c.args.code),
      c.start_after.ensures.length,
    )
