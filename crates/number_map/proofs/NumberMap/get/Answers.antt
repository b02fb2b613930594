use Rattle.std.proofs.Common.{option_copied}
use Rattle.number_map.proofs.Viewed.{got}
use Rattle.number_map.proofs.NumberMap.get.Goals as goal

pub returns : goal.returns
returns g c =
    got c.self.inside.entries.entries c.args.key c.args.self.now
    (option_copied c.get.result) c.get.ensures.value c.self.view_is
