use Rattle.script.proofs.vocabulary.WordsOf.{pushed_three}
use Rattle.script.proofs.printing.reply.push_place.Goals as goal

pub returns : goal.returns
returns c =
    pushed_three c.push_labelled-3.result _ _ _ _ _ _ _ c.in_ok-push_labelled.ensures c.in_ok-push_labelled-2.ensures
    c.push_labelled-3.ensures
