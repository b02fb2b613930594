use Rattle.std.proofs.Common.{sym, ◌∙◌, ap, is_some}
use Rattle.std.specs.FinMap as map
use Rattle.number_map.proofs.Viewed.{get_viewed}
use Rattle.number_map.proofs.NumberMap.contains_key.Goals as goal

pub returns : goal.returns
returns g c =
    c.contains_key.ensures ∙ ap is_some
    (sym (get_viewed c.self.inside.entries.entries c.args.key) ∙ ap (λ m. map.get m c.args.key) c.self.view_is)
