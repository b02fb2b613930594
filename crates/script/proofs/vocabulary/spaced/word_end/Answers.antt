use Rattle.std.proofs.Common.{arith}
use Rattle.std.proofs.lemmas.List.Sums.{prefix_len-le-length}
use Rattle.script.specs.vocabulary.Spaced.{is_space, is_word_byte}
use Rattle.script.proofs.vocabulary.spaced.word_end.Goals as goal

pub split_at-requires : goal.split_at-requires
split_at-requires c = omega (arith, prefix_len-le-length is_space c.args.text.now, c.count_spaces-spaces.ensures)

pub overflow_add-result : goal.overflow_add-result
overflow_add-result c =
    omega (
      arith,
      prefix_len-le-length is_space c.args.text.now,
      prefix_len-le-length is_word_byte c.split_at.result.1.now,
      c.split_at.ensures.back_len,
      c.count_spaces-spaces.ensures,
      c.count_word_bytes.ensures,
    )

pub returns-clause-within : goal.returns-clause-within
returns-clause-within c =
    omega (
      arith,
      prefix_len-le-length is_space c.args.text.now,
      prefix_len-le-length is_word_byte c.split_at.result.1.now,
      c.split_at.ensures.back_len,
      c.count_spaces-spaces.ensures,
      c.count_word_bytes.ensures,
    )
