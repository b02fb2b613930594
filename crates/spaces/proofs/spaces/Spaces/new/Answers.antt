use Rattle.std.proofs.Common.{ℕ, ap, sym, ◌∙◌}
use Rattle.tracked_map.specs.Tracked.{Tracked}
use Rattle.spaces.specs.Indexes.{none_indexed}
use Rattle.spaces.specs.Noted.{none_noted}
use Rattle.spaces.specs.Slots.{TrackedSpaces}
use Rattle.spaces.proofs.spaces.Spaces.new.Goals as goal

pub invariant_of-result : goal.invariant_of-result
invariant_of-result c = (
  none_indexed _ _ _ _ _ (ap (λ (t : TrackedSpaces). t.before) c.new.ensures)
      (ap (λ (t : Tracked (Unit {0})). t.before) c.new-2.ensures.held)
      (ap (λ (t : Tracked (Unit {0})). t.before) c.new-2.ensures.requested)
      (ap (λ (t : Tracked (Unit {0})). t.before) c.new-2.ensures.received)
      (ap (λ (t : Tracked ℕ). t.before) c.new-2.ensures.counted),
  none_indexed _ _ _ _ _ (ap (λ (t : TrackedSpaces). t.current) c.new.ensures)
      (ap (λ (t : Tracked (Unit {0})). t.current) c.new-2.ensures.held)
      (ap (λ (t : Tracked (Unit {0})). t.current) c.new-2.ensures.requested)
      (ap (λ (t : Tracked (Unit {0})). t.current) c.new-2.ensures.received)
      (ap (λ (t : Tracked ℕ). t.current) c.new-2.ensures.counted),
  none_noted _ _ _ (ap (λ (t : TrackedSpaces). t.current) c.new.ensures
      ∙ sym (ap (λ (t : TrackedSpaces). t.before) c.new.ensures)),
)
