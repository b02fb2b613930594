use Rattle.std.proofs.Common.{◌≡◌, ◌++◌}
use Rattle.script.specs.vocabulary.Spaced.{spaced}
use Rattle.script.specs.printing.Items.{body_within, body_words}
use Rattle.script.proofs.printing.item.push_body.Given as goal

abbrev pub invariant-loop-left : goal.invariant-loop-left
invariant-loop-left l =
    l.line.items ++ spaced (body_within l.left l.rest) ≡ l.fn.line.items ++ spaced (body_words l.fn.body)

abbrev pub decreases-loop-left : goal.decreases-loop-left
decreases-loop-left l = l.left
