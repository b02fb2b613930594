use Rattle.std.proofs.Common.{ap, ◌∙◌}
use Rattle.std.specs.FinMap.{get}
use Rattle.spaces.specs.Reading as reading
use Rattle.spaces.specs.Slots.{TrackedSpaces}
use Rattle.spaces.proofs.spaces.Spaces.is_unused.Goals as goal

pub returns-in-None : goal.returns-in-None
returns-in-None c = (
  λ yes. let name =
      c.is_a_name.ensures.0 yes in reading.unused c.args.self.now.current c.args.space
      (c.in-None.ensures ∙ ap (λ (t : TrackedSpaces). get t.current c.args.space) c.self.view_is) c.args.name name.0
      name.1,
  λ unused. c.is_a_name.ensures.1 (unused.least, unused.below_dead),
)
