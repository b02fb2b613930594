use Rattle.std.proofs.Common.{ap, sym, ◌∙◌}
use Rattle.std.specs.FinMap.{len}
use Rattle.tracked_map.specs.Tracked.{Tracked, at_rest}
use Rattle.tracked_map.proofs.Laws.{none_removed_yet, rest_sound, rest_seen}
use Rattle.tracked_map.proofs.TrackedMap.commit.Goals as goal

pub invariant_of-self : goal.invariant_of-self
invariant_of-self g c = (
  rest_sound c.forget.new.slots c.clear.new.self.items c.self.inside.len c.clear.ensures.items c.forget.ensures.none
      (c.self.invariant.0.counted ∙ ap len (sym c.forget.ensures.shown)),
  λ _. none_removed_yet c.forget.new.slots c.clear-2.new.self.items c.clear-2.ensures.items c.forget.ensures.none,
)

pub returns : goal.returns
returns g c =
    rest_seen c.forget.new.slots c.clear.new.self.items c.clear.ensures.items ∙ ap at_rest c.forget.ensures.shown ∙ ap
    (λ (t : Tracked _). at_rest t.current) c.self.view_is
