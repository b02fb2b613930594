use Rattle.socket_server.proofs.Begun.{begins_new}
use Rattle.socket_server.proofs.beginning.begin.Goals as goal

pub returns-clause-begins : goal.returns-clause-begins
returns-clause-begins g c =
    begins_new g.S.Read.remaining g.W.Write.contents g.L.Founding.base c.args.reader c.args.writer c.new-2.result
    c.in-Ok-session.session c.new-asker.result c.new-inbox.result c.new-outbox.result c.new-asker.ensures
    c.new-inbox.ensures c.new-outbox.ensures
    (record {
      space = c.in-Ok-session.ensures.new.0;
      acknowledged = c.in-Ok-session.ensures.new.1;
      tickets = c.in-Ok-session.ensures.new.2;
      places = c.in-Ok-session.ensures.new.3;
    })
    c.new-2.ensures.begins
