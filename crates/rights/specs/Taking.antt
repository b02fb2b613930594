-- The effect of copy in on a state and on the pending effects.
use Rattle.std.specs.Prelude.{◌≡◌, List, ◌++◌, Option, None, Some}
use Rattle.ipc_model.specs.declared.message.CarriedRight.{CarriedRight}
use Rattle.ipc_model.specs.rights.CopyIn.{Taken}
use Rattle.ipc_model.specs.effects.Effects.{Effect}
use Rattle.ipc_model.specs.state.Ipc.{Ipc}

-- If copy in takes something, it returns the right and appends the notices to the pending effects. Otherwise nothing
-- changed.
abbrev pub Takes : Option Taken → Ipc → List Effect → Option CarriedRight → Ipc → List Effect → Type 0
Takes None old waiting right new after = (right ≡ None) × (new ≡ old) × (after ≡ waiting)
Takes (Some taken) old waiting right new after =
    (right ≡ Some taken.right) × (new ≡ taken.state) × (after ≡ waiting ++ taken.notices)
