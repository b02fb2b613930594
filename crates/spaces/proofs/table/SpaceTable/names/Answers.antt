use Rattle.std.proofs.Common.{option_and_then, ap, sym, ◌∙◌}
use Rattle.std.specs.FinMap.{get}
use Rattle.tracked_map.specs.Slots.{get_picked}
use Rattle.spaces.specs.Slots.{TrackedSpaces, is}
use Rattle.spaces.proofs.table.SpaceTable.names.Goals as goal

pub returns-in-Some : goal.returns-in-Some
returns-in-Some c =
    c.names.ensures ∙ sym (ap (λ (t : TrackedSpaces). get t.current c.args.space) (sym c.self.view_is)
    ∙ get_picked is c.self.inside.slots c.args.space
    ∙ ap (option_and_then is) (sym c.in-Some.ensures))

pub returns-in-None : goal.returns-in-None
returns-in-None c =
    sym (ap (λ (t : TrackedSpaces). get t.current c.args.space) (sym c.self.view_is)
    ∙ get_picked is c.self.inside.slots c.args.space
    ∙ ap (option_and_then is) (sym c.in-None.ensures))
