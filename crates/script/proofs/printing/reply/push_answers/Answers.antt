use Rattle.script.proofs.vocabulary.WordsOf.{pushed_three}
use Rattle.script.proofs.printing.reply.push_answers.Goals as goal

pub returns : goal.returns
returns c =
    pushed_three c.push_answer-3.result _ _ _ _ _ _ _ c.in_ok-push_answer.ensures c.in_ok-push_answer-2.ensures
    c.push_answer-3.ensures
