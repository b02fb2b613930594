use Rattle.std.proofs.Common.{ap, ◌∙◌, arith}
use Rattle.std.specs.FinMap.{get}
use Rattle.spaces.specs.Reading as reading
use Rattle.spaces.specs.Slots.{TrackedSpaces}
use Rattle.spaces.proofs.spaces.Spaces.show_names_few.Goals as goal

pub returns-in_default : goal.returns-in_default
returns-in_default c =
    let none = reading.none_counted c.args.self.now.current c.args.space
    (c.in_default.ensures ∙ ap (λ (t : TrackedSpaces). get t.current c.args.space) c.self.view_is) in
    omega (arith, none)
