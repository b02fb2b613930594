use Rattle.std.proofs.Common.{ap, ◌∙◌}
use Rattle.std.specs.FinMap.{get}
use Rattle.spaces.specs.Reading as reading
use Rattle.spaces.specs.Slots.{TrackedSpaces}
use Rattle.spaces.proofs.spaces.Spaces.name_of_port.Goals as goal

pub returns-in-None : goal.returns-in-None
returns-in-None c =
    reading.no_port c.args.self.now.current c.args.space
    (c.in-None.ensures ∙ ap (λ (t : TrackedSpaces). get t.current c.args.space) c.self.view_is) c.args.port
