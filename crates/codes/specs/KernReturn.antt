-- The numbers of the return codes, as Mach's headers have them.
use Rattle.std.specs.Prelude.{List, [], ℕ, ◌∷◌}
use Rattle.codes.specs.declared.kern_return.KernReturn.{KernReturn}
use Rattle.codes.specs.declared.kern_return.KernReturn.TheVariants.{Success, NoSpace, InvalidArgument, Failure, ResourceShortage, NoAccess, NotInSet, NameExists, InvalidName, InvalidTask, InvalidRight, InvalidValue, UrefsOverflow, InvalidCapability, RightExists, SendInvalidDest, SendTimedOut, SendMsgTooSmall, SendInvalidReply, SendInvalidRight, SendInvalidMemory, SendNoBuffer, SendInvalidType, SendInvalidHeader, RcvInvalidName, RcvTimedOut, RcvTooLarge, RcvPortChanged, RcvPortDied, RcvInSet, RcvHeaderErrorKernel, RcvHeaderErrorSpace}

abbrev pub number_of : KernReturn → ℕ
number_of Success = 0
number_of NoSpace = 3
number_of InvalidArgument = 4
number_of Failure = 5
number_of ResourceShortage = 6
number_of NoAccess = 8
number_of NotInSet = 12
number_of NameExists = 13
number_of InvalidName = 15
number_of InvalidTask = 16
number_of InvalidRight = 17
number_of InvalidValue = 18
number_of UrefsOverflow = 19
number_of InvalidCapability = 20
number_of RightExists = 21
number_of SendInvalidDest = 0x1000_0003
number_of SendTimedOut = 0x1000_0004
number_of SendMsgTooSmall = 0x1000_0008
number_of SendInvalidReply = 0x1000_0009
number_of SendInvalidRight = 0x1000_000a
number_of SendInvalidMemory = 0x1000_000c
number_of SendNoBuffer = 0x1000_000d
number_of SendInvalidType = 0x1000_000f
number_of SendInvalidHeader = 0x1000_0010
number_of RcvInvalidName = 0x1000_4002
number_of RcvTimedOut = 0x1000_4003
number_of RcvTooLarge = 0x1000_4004
number_of RcvPortChanged = 0x1000_4006
number_of RcvPortDied = 0x1000_4009
number_of RcvInSet = 0x1000_400a
number_of RcvHeaderErrorKernel = 0x1000_480b
number_of RcvHeaderErrorSpace = 0x1000_600b

-- all return codes, in ascending order of their numbers
abbrev pub all_codes : List KernReturn
all_codes =
    Success ∷ NoSpace ∷ InvalidArgument ∷ Failure ∷ ResourceShortage ∷ NoAccess ∷ NotInSet ∷
    NameExists ∷ InvalidName
    ∷ InvalidTask ∷ InvalidRight ∷ InvalidValue ∷ UrefsOverflow ∷ InvalidCapability ∷
    RightExists ∷ SendInvalidDest ∷ SendTimedOut
    ∷ SendMsgTooSmall ∷ SendInvalidReply ∷ SendInvalidRight ∷ SendInvalidMemory ∷ SendNoBuffer
    ∷ SendInvalidType ∷ SendInvalidHeader ∷ RcvInvalidName
    ∷ RcvTimedOut ∷ RcvTooLarge ∷ RcvPortChanged ∷ RcvPortDied ∷ RcvInSet ∷
    RcvHeaderErrorKernel ∷ RcvHeaderErrorSpace ∷ []
