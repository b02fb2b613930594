use Rattle.relay.proofs.shell.Joins.{takes_all}
use Rattle.relay.proofs.shell.talk.next_line.Goals as goal

pub returns-in-Ok-eq0-clause-end : goal.returns-in-Ok-eq0-clause-end
returns-in-Ok-eq0-clause-end g c =
    takes_all _ _ _ (c.in-Ok-eq0.ensures.end c.in-Ok-eq0.field-0-test) c.in-Ok-eq0.ensures.none_lost
