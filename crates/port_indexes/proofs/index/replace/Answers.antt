use Rattle.std.proofs.Common.{sym, ◌∙◌}
use Rattle.port_indexes.proofs.Staying.{stays}
use Rattle.port_indexes.proofs.index.replace.Goals as goal

pub returns-then-eq-clause-ok : goal.returns-then-eq-clause-ok
returns-then-eq-clause-ok c =
    stays c.stay.result c.args.places.now.current c.stay.new.places.current c.args.place c.args.former c.args.number
    (sym c.eq.ensures ∙ c.if-eq.true) c.stay.ensures.ok
