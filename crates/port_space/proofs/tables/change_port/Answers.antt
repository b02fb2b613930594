use Rattle.std.proofs.Common.{sym, ◌∙◌}
use Rattle.port_space.proofs.Staying.{stays}
use Rattle.port_space.proofs.tables.change_port.Goals as goal

pub returns-then-eq-clause-ok : goal.returns-then-eq-clause-ok
returns-then-eq-clause-ok c =
    stays c.stay_with_port.result c.args.by_port.now.current c.stay_with_port.new.by_port.current c.args.name
    c.args.former c.args.port (sym c.eq.ensures ∙ c.if-eq.true) c.stay_with_port.ensures.ok
