use Rattle.std.proofs.Common.{◌<◌, ◌+◌, sym, subst}
use Rattle.std.specs.FinMap.{len}
use Rattle.codes.specs.declared.limits.TheConstants.{MAX_SPACES}
use Rattle.spaces.specs.Numbers.{IsFreeNumber, free_is}
use Rattle.spaces.specs.Slots.{TrackedSpaces}
use Rattle.spaces.proofs.table.SpaceTable.free_number.Goals as goal

pub returns : goal.returns
returns c =
    subst (λ (t : TrackedSpaces). IsFreeNumber t.current (c.first_free.result + 1)) c.self.view_is
    (free_is c.self.inside.numbers _ c.first_free.result c.self.invariant.3 c.first_free.ensures
    (subst (λ (t : TrackedSpaces). len t.current < MAX_SPACES) (sym c.self.view_is) c.requires.room))
