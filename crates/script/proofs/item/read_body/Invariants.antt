use Rattle.std.proofs.Common.{◌≡◌}
use Rattle.script.specs.vocabulary.Spaced.{words_of}
use Rattle.script.specs.Items.{parts_at, after_bytes, body_at}
use Rattle.script.proofs.item.read_body.Given as goal

abbrev pub invariant-loop-left : goal.invariant-loop-left
invariant-loop-left l = after_bytes l.body.items (parts_at l.left (words_of l.rest)) ≡ body_at (words_of l.fn.text)

abbrev pub decreases-loop-left : goal.decreases-loop-left
decreases-loop-left l = l.left
