use Rattle.std.proofs.Common.{ap, ◌∙◌, arith}
use Rattle.std.specs.FinMap.{get}
use Rattle.spaces.specs.Reading as reading
use Rattle.spaces.specs.Slots.{TrackedSpaces}
use Rattle.spaces.proofs.spaces.Spaces.free_name.Goals as goal

pub returns-in-None-clause-unused : goal.returns-in-None-clause-unused
returns-in-None-clause-unused c =
    reading.unused c.args.self.now.current c.args.space
    (c.in-None.ensures ∙ ap (λ (t : TrackedSpaces). get t.current c.args.space) c.self.view_is) 256 (omega arith)
    (omega arith)
