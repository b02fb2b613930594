use Rattle.std.proofs.Common.{ap, sym, ◌∙◌}
use Rattle.std.specs.FinMap.{len}
use Rattle.tracked_map.specs.Tracked.{Tracked, at_rest, over, shown}
use Rattle.tracked_map.proofs.Laws.{none_removed_yet, rest_sound, rest_seen}
use Rattle.tracked_map.proofs.TrackedMap.roll_back.Goals as goal

pub invariant_of-self : goal.invariant_of-self
invariant_of-self g c = (
  rest_sound c.forget_marks.new.slots c.clear.new.self.items c.self.inside.len_before c.clear.ensures.items
      c.forget_marks.ensures.none
      (c.self.invariant.0.counted_before
      ∙ ap len (sym (c.forget_marks.ensures.shown ∙ c.put_back.ensures.shown
      ∙ ap (over (shown c.self.inside.slots)) c.deref.ensures.value))),
  λ _. none_removed_yet c.forget_marks.new.slots c.clear-2.new.self.items c.clear-2.ensures.items
      c.forget_marks.ensures.none,
)

pub returns : goal.returns
returns g c =
    rest_seen c.forget_marks.new.slots c.clear.new.self.items c.clear.ensures.items
    ∙ ap at_rest (c.forget_marks.ensures.shown ∙ c.put_back.ensures.shown
    ∙ ap (over (shown c.self.inside.slots)) c.deref.ensures.value) ∙ ap
    (λ (t : Tracked _). at_rest t.before) c.self.view_is
