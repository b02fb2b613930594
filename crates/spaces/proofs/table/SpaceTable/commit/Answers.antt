use Rattle.std.proofs.Common.{ap, sym, subst, ◌∙◌}
use Rattle.std.specs.FinMap.{len}
use Rattle.tracked_map.specs.Touched.{AreTouched}
use Rattle.spaces.specs.Slots.{TrackedSpaces, was, is}
use Rattle.spaces.specs.Numbers.{AreTaken}
use Rattle.spaces.specs.Laws as laws
use Rattle.spaces.proofs.table.SpaceTable.commit.Goals as goal

pub commit_slots-requires : goal.commit_slots-requires
commit_slots-requires c =
    subst (AreTouched was is c.self.inside.slots) (sym c.as_slice.ensures.value) c.self.invariant.0

pub invariant_of-self : goal.invariant_of-self
invariant_of-self c =
    let rest =
    laws.committed_rest c.commit_slots.new.slots c.clear.new.self.items _ c.clear.ensures.items
    c.commit_slots.ensures.rest c.commit_slots.ensures.shown in (
      rest.touched_none,
      c.self.invariant.1 ∙ ap len (sym rest.seen_is),
      c.self.invariant.1 ∙ ap len (sym rest.seen_was),
      subst (AreTaken c.self.inside.numbers) (sym rest.seen_is) c.self.invariant.3,
      subst (AreTaken c.self.inside.numbers) (sym rest.seen_was) c.self.invariant.3,
    )

pub returns : goal.returns
returns c =
    let rest =
    laws.committed_rest c.commit_slots.new.slots c.clear.new.self.items _ c.clear.ensures.items
    c.commit_slots.ensures.rest c.commit_slots.ensures.shown in
    let now = ap (λ (t : TrackedSpaces). t.current) c.self.view_is in
    laws.both _ _ _ _ (rest.seen_was ∙ now) (rest.seen_is ∙ now)
