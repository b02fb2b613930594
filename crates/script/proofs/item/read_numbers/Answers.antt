use Rattle.std.proofs.Common.{◌≡◌, ◌++◌, ◌∷◌, [], Ok, ap, ◌∙◌, rules}
use Rattle.script.specs.vocabulary.Spaced.{words_of}
use Rattle.script.proofs.ItemLoops.{number_read, numbers_done}
use Rattle.script.proofs.Rows.{number_less}
use Rattle.script.proofs.item.read_numbers.Goals as goal

pub loop-number-smaller : goal.loop-number-smaller
loop-number-smaller c =
    number_less (words_of c.loop-number.rest.now) (c.in-Some.number, words_of c.in-Some.beyond.now) c.in-Some.ensures

pub loop-number-preserved : goal.loop-number-preserved
loop-number-preserved c =
    let items : c.push.new.self.items ≡ c.loop-number.numbers.items ++ c.in-Some.number ∷ [] = search rules in
    rw items (number_read c.loop-number.numbers.items (words_of c.loop-number.rest.now)
    (words_of c.in-Some.beyond.now) c.in-Some.number c.in-Some.ensures ∙ c.loop-number.invariant)

pub returns : goal.returns
returns c =
    ap Ok (numbers_done c.loop-number.numbers.items
    (words_of c.loop-number.rest.now) _ c.in_default.ensures c.loop-number.invariant)
