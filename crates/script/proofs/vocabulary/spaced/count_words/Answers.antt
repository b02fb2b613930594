use Rattle.std.proofs.Common.{arith}
use Rattle.script.proofs.vocabulary.WordsOf.{words_fit}
use Rattle.script.proofs.vocabulary.spaced.count_words.Goals as goal

pub overflow_add-count : goal.overflow_add-count
overflow_add-count c = omega (arith, words_fit c.args.text.now, c.loop-beyond.invariant)
