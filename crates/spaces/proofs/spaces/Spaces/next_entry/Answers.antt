use Rattle.std.proofs.Common.{ap, ◌∙◌}
use Rattle.std.specs.FinMap.{get}
use Rattle.spaces.specs.Reading as reading
use Rattle.spaces.specs.Slots.{TrackedSpaces}
use Rattle.spaces.proofs.spaces.Spaces.next_entry.Goals as goal

pub returns-in-None-clause-next : goal.returns-in-None-clause-next
returns-in-None-clause-next c =
    λ name _. reading.no_name c.args.self.now.current c.args.space
    (c.in-None.ensures ∙ ap (λ (t : TrackedSpaces). get t.current c.args.space) c.self.view_is) name
