-- Copy in takes what the machine takes.
use Rattle.std.proofs.Common.{◌≡◌, List, ◌++◌, Option, None, Some, Result, Ok, Err, refl}
use Rattle.codes.specs.declared.kern_return.KernReturn.{KernReturn}
use Rattle.ipc_model.specs.calls.Tests.{or_refused}
use Rattle.ipc_model.specs.declared.message.CarriedRight.{CarriedRight}
use Rattle.ipc_model.specs.effects.Effects.{Effect}
use Rattle.ipc_model.specs.rights.CopyIn.{Taken}
use Rattle.ipc_model.specs.state.Ipc.{Ipc}
use Rattle.ipc_laws.specs.ListLaws.{some_same}
use Rattle.rights.specs.Taking.{Takes}
use Rattle.sending.specs.Agrees.{Agrees}
use Rattle.sending.specs.declared.fault.SendFault.{SendFault}
use Rattle.sending.specs.declared.fault.SendFault.TheVariants.{Refused}

abbrev pub outcome_of : KernReturn → Option CarriedRight → Result CarriedRight SendFault
outcome_of code None = Err (Refused code)
outcome_of code (Some right) = Ok right

pub taken_gave : (o : Option Taken) (code : KernReturn) (old new : Ipc) (waiting after : List Effect)
    (found : Option CarriedRight) → Takes o old waiting found new after
    → Agrees (or_refused code o) (λ taken right. (right ≡ taken.right) × (new ≡ taken.state)
    × (after ≡ waiting ++ taken.notices)) (outcome_of code found)
taken_gave None code old new waiting after None takes = refl
taken_gave None code old new waiting after (Some right) takes = absurd (cc takes.0)
taken_gave (Some taken) code old new waiting after None takes = absurd (cc takes.0)
taken_gave (Some taken) code old new waiting after (Some right) takes =
    (some_same right taken.right takes.0, takes.1, takes.2)
