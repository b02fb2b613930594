-- Dispositions: how a message or a call transfers a right (mach_msg_type_name_t).
use Rattle.std.specs.Prelude.{ℕ, Option, None, Some, ◌==◌, if◌then◌else◌}
use Rattle.codes.specs.declared.disposition.Disposition.{Disposition}
use Rattle.codes.specs.declared.disposition.Disposition.TheVariants.{MoveReceive, MoveSend, MoveSendOnce, CopySend, MakeSend, MakeSendOnce}

-- the disposition's number
abbrev pub number_of_disposition : Disposition → ℕ
number_of_disposition MoveReceive = 16
number_of_disposition MoveSend = 17
number_of_disposition MoveSendOnce = 18
number_of_disposition CopySend = 19
number_of_disposition MakeSend = 20
number_of_disposition MakeSendOnce = 21

-- the disposition with a number, or None if there is none
abbrev pub disposition_of : ℕ → Option Disposition
disposition_of n =
    if n == number_of_disposition MoveReceive then Some MoveReceive
    else if n == number_of_disposition MoveSend then Some MoveSend
    else if n == number_of_disposition MoveSendOnce then Some MoveSendOnce
    else if n == number_of_disposition CopySend then Some CopySend
    else if n == number_of_disposition MakeSend then Some MakeSend
    else if n == number_of_disposition MakeSendOnce then Some MakeSendOnce
    else None
