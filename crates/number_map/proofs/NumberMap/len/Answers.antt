use Rattle.std.proofs.Common.{sym, ◌∙◌, ap}
use Rattle.std.specs.FinMap as map
use Rattle.number_map.proofs.Viewed.{len_viewed}
use Rattle.number_map.proofs.NumberMap.len.Goals as goal

pub returns : goal.returns
returns g c =
    c.len.ensures.len ∙ sym (len_viewed c.self.inside.entries.entries c.len.ensures.ordered) ∙ ap
    (λ m. map.len m) c.self.view_is
