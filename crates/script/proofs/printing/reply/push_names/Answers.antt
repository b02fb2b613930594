use Rattle.script.proofs.vocabulary.WordsOf.{rest_none}
use Rattle.script.specs.printing.Replies.{names_words}
use Rattle.script.proofs.printing.Rows.{names_gone}
use Rattle.script.proofs.printing.reply.push_names.Goals as goal

pub returns : goal.returns
returns c =
    rest_none _ _ (names_words c.loop-named.rest.now) _
    (names_gone c.loop-named.rest.now c.in_default.ensures.cases) c.loop-named.invariant
