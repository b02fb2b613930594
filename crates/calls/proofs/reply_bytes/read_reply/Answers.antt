use Rattle.calls.proofs.RequestLaws.{own_reply}
use Rattle.calls.proofs.reply_bytes.read_reply.Goals as goal

pub returns-in-None-clause-only : goal.returns-in-None-clause-only
returns-in-None-clause-only c =
    own_reply c.args.number c.args.content.now c.read_own_reply-in-None.result c.read_own_reply-in-None.ensures.only
    c.in-None.ensures.only
