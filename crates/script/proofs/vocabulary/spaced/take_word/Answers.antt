use Rattle.std.proofs.Common.{◌≡◌, drop, arith}
use Rattle.std.proofs.lemmas.List.Sums.{prefix_len-le-length}
use Rattle.std.specs.List.{prefix_len}
use Rattle.script.specs.vocabulary.Spaced.{is_space, is_word_byte}
use Rattle.script.proofs.vocabulary.WordsOf.{no_word, first_word}
use Rattle.script.proofs.vocabulary.spaced.take_word.Goals as goal

pub returns-then-count-eq0 : goal.returns-then-count-eq0
returns-then-count-eq0 c =
    let none : prefix_len is_word_byte (drop (prefix_len is_space c.args.text.now) c.args.text.now) ≡ 0 =
    cc in no_word c.args.text.now none

pub returns : goal.returns
returns c =
    let beyond : c.split_at.result.1.now ≡ drop (prefix_len is_space c.args.text.now) c.args.text.now = cc in
    let first =
    first_word c.args.text.now c.split_at.result.1.now c.count_word_bytes-count.result beyond
    c.count_word_bytes-count.ensures c.if-count-eq0.false in
    cc

pub split_at-requires : goal.split_at-requires
split_at-requires c = omega (arith, prefix_len-le-length is_space c.args.text.now, c.count_spaces-spaces.ensures)

pub split_at-requires-2 : goal.split_at-requires-2
split_at-requires-2 c =
    omega (arith, prefix_len-le-length is_word_byte c.split_at.result.1.now, c.count_word_bytes-count.ensures)
