use Rattle.number_map.proofs.Viewed.{range_is}
use Rattle.number_map.proofs.NumberMap.range_from.Goals as goal

pub returns-clause-rest : goal.returns-clause-rest
returns-clause-rest g c =
    range_is c.args.from c.self.inside.entries.entries c.range.result c.args.self.now c.self.view_is
    c.range.ensures.ordered (c.range.ensures.between tt)
