use Rattle.relay.proofs.shell.Joins.{has_line}
use Rattle.relay.proofs.shell.reply.read_reply.Goals as goal

pub returns-clause-found : goal.returns-clause-found
returns-clause-found c =
    has_line c.read_reply.result c.args.number c.args.content.now c.read_reply.ensures.found

pub returns-clause-only : goal.returns-clause-only
returns-clause-only c = λ answer is. c.read_reply.ensures.only answer is.answers
