use Rattle.std.proofs.Common.{sym, ◌∙◌, ap}
use Rattle.std.specs.FinMap as map
use Rattle.number_map.proofs.Viewed.{get_viewed, removed}
use Rattle.number_map.proofs.NumberMap.remove.Goals as goal

pub returns-clause-before : goal.returns-clause-before
returns-clause-before g c =
    c.remove.ensures.value ∙ sym (get_viewed c.self.inside.entries.entries c.args.key) ∙ ap
    (λ m. map.get m c.args.key) c.self.view_is

pub returns-clause-removed : goal.returns-clause-removed
returns-clause-removed g c =
    removed c.self.inside.entries.entries c.remove.new.self.entries c.args.key c.remove.ensures.updates.0 ∙ ap
    (λ m. map.remove m c.args.key) c.self.view_is
