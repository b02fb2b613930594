use Rattle.std.proofs.Common.{ap, sym, ◌∙◌, None, Some, option_copied, refl}
use Rattle.std.specs.FinMap as map
use Rattle.tracked_map.specs.Tracked.{Tracked}
use Rattle.tracked_map.proofs.Laws.{got}
use Rattle.tracked_map.proofs.TrackedMap.get.Goals as goal

pub returns-in_default : goal.returns-in_default
returns-in_default g c =
    got c.self.inside.slots c.args.key None None c.in_default.ensures refl ∙ ap
    (λ (t : Tracked _). map.get t.current c.args.key) c.self.view_is

pub returns : goal.returns
returns g c =
    got c.self.inside.slots c.args.key (Some c.in-Some.slot.now) (option_copied c.as_ref.result) c.in-Some.ensures
    (sym c.as_ref.ensures.value) ∙ ap (λ (t : Tracked _). map.get t.current c.args.key) c.self.view_is
