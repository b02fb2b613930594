use Rattle.std.proofs.Common.{sym, ◌∙◌}
use Rattle.rights.proofs.Leaving.{left_notified}
use Rattle.rights.proofs.left.announce_left.Goals as goal

pub returns-then-is_empty-clause-ok : goal.returns-then-is_empty-clause-ok
returns-then-is_empty-clause-ok c =
    left_notified c.port_deleted.result c.args.name c.args.entry c.request_of.result c.args.effects.now
    c.port_deleted.new.self (sym c.is_empty.ensures ∙ c.if-is_empty.true) c.request_of.ensures
    c.port_deleted.ensures.ok
