use Rattle.std.proofs.Common.{ap, sym, subst, ◌∙◌}
use Rattle.std.specs.FinMap.{len}
use Rattle.tracked_map.specs.Touched.{AreTouched, exchanged}
use Rattle.spaces.specs.Slots.{TrackedSpaces, was, is}
use Rattle.spaces.specs.Numbers.{AreTaken}
use Rattle.spaces.specs.Laws as laws
use Rattle.spaces.proofs.table.SpaceTable.roll_back.Goals as goal

pub roll_slots_back-requires : goal.roll_slots_back-requires
roll_slots_back-requires c =
    exchanged was is c.self.inside.slots c.as_slice.result.now
    (subst (AreTouched was is c.self.inside.slots) (sym c.as_slice.ensures.value) c.self.invariant.0)

pub invariant_of-self : goal.invariant_of-self
invariant_of-self c =
    let rest =
    laws.rolled_back_rest c.roll_slots_back.new.slots c.clear.new.self.items _ c.clear.ensures.items
    c.roll_slots_back.ensures.rest c.roll_slots_back.ensures.shown in (
      rest.touched_none,
      c.self.invariant.2 ∙ ap len (sym rest.seen_is),
      c.self.invariant.2 ∙ ap len (sym rest.seen_was),
      subst (AreTaken c.self.inside.numbers_before) (sym rest.seen_is) c.self.invariant.4,
      subst (AreTaken c.self.inside.numbers_before) (sym rest.seen_was) c.self.invariant.4,
    )

pub returns : goal.returns
returns c =
    let rest =
    laws.rolled_back_rest c.roll_slots_back.new.slots c.clear.new.self.items _ c.clear.ensures.items
    c.roll_slots_back.ensures.rest c.roll_slots_back.ensures.shown in
    let then = ap (λ (t : TrackedSpaces). t.before) c.self.view_is in
    laws.both _ _ _ _ (rest.seen_was ∙ then) (rest.seen_is ∙ then)
