use Rattle.script.proofs.vocabulary.WordsOf.{rest_none}
use Rattle.script.specs.printing.Replies.{members_words}
use Rattle.script.proofs.printing.Rows.{members_gone}
use Rattle.script.proofs.printing.reply.push_members.Goals as goal

pub returns : goal.returns
returns c =
    rest_none _ _ (members_words c.loop-member.rest.now) _
    (members_gone c.loop-member.rest.now c.in_default.ensures.cases) c.loop-member.invariant
