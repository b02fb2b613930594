use Rattle.std.proofs.Common.{◌≡◌, ◌∙◌, drop, arith, ap}
use Rattle.std.proofs.lemmas.List.Sums.{prefix_len-le-length}
use Rattle.script.specs.vocabulary.Spaced.{is_space, word_end}
use Rattle.script.proofs.vocabulary.WordsOf.{column_next, column_end}
use Rattle.script.proofs.vocabulary.spaced.column_of.Goals as goal

pub overflow_add-result : goal.overflow_add-result
overflow_add-result c =
    omega (
      arith,
      c.loop-left.invariant.in_range,
      prefix_len-le-length is_space c.loop-left.rest.now,
      c.count_spaces.ensures,
    )

pub loop-left-preserved : goal.loop-left-preserved
loop-left-preserved c =
    let end : c.word_end-end.result ≡ word_end c.loop-left.rest.now = c.word_end-end.ensures.end in
    let beyond : c.split_at.result.1.now ≡ drop (word_end c.loop-left.rest.now) c.loop-left.rest.now =
    c.split_at.ensures.back ∙ ap (λ n. drop n c.loop-left.rest.now) end in
    record {
      is =
          rw (end, beyond) (column_next c.loop-left.column c.loop-left.left c.loop-left.rest.now c.loop-left-test.true)
          ∙ c.loop-left.invariant.is;
      in_range =
          omega (arith, c.loop-left.invariant.in_range, c.split_at.ensures.back_len, c.word_end-end.ensures.within);
    }

pub returns : goal.returns
returns c =
    rw c.count_spaces.ensures (column_end c.loop-left.column c.loop-left.rest.now c.loop-left.left
    (omega (arith, c.loop-left-test.false)) ∙ c.loop-left.invariant.is)
