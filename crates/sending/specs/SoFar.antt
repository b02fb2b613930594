-- The rights taken so far.
use Rattle.std.specs.Prelude.{List}
use Rattle.ipc_model.specs.declared.message.CarriedRight.{CarriedRight}
use Rattle.ipc_model.specs.effects.Effects.{Effect}
use Rattle.ipc_model.specs.messages.Sending.{TakenRights}
use Rattle.ipc_model.specs.state.Ipc.{Ipc}

abbrev pub so_far : List CarriedRight → Ipc → List Effect → TakenRights
so_far rights state waiting = record { rights = rights; state = state; notices = waiting }
