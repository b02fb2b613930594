use Rattle.std.proofs.Common.{sym, subst, ◌∙◌, ap}
use Rattle.std.specs.FinMap as map
use Rattle.number_map.proofs.Viewed.{none_from, first_from, IsFirstFrom}
use Rattle.number_map.proofs.NumberMap.next_from.Goals as goal

pub returns-in_default : goal.returns-in_default
returns-in_default g c =
    λ key le. ap (λ m. map.get m key) (sym c.self.view_is)
    ∙ none_from c.args.from c.self.inside.entries c.range.result
    (c.range.ensures.in_range tt) c.in_default.ensures.steps.0 key le

pub returns : goal.returns
returns g c =
    let first = subst (λ m. IsFirstFrom c.args.from m c.in-Some.key.now c.in-Some.value.now) c.self.view_is
    (first_from c.args.from c.self.inside.entries c.range.result c.next.new.self c.in-Some.key.now c.in-Some.value.now
    (c.range.ensures.in_range tt) c.in-Some.ensures.steps) in
    (first.from_on, first.there, first.least)
