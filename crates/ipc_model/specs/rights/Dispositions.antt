-- The dispositions by which a task hands rights over in a message or a call (mach_msg_type_name_t).
use Rattle.std.specs.Prelude.{ℕ}
use Rattle.ipc_model.specs.declared.message.RightKind.{RightKind}
use Rattle.ipc_model.specs.declared.message.RightKind.TheVariants as kind
pub use Rattle.codes.specs.declared.disposition.Disposition.{Disposition}
pub use Rattle.codes.specs.declared.disposition.Disposition.TheVariants.{
  MoveReceive,
  MoveSend,
  MoveSendOnce,
  CopySend,
  MakeSend,
  MakeSendOnce,
}
pub use Rattle.codes.specs.Disposition.{disposition_of, number_of_disposition}

-- the kind of right that arrives
abbrev pub received_kind : Disposition → RightKind
received_kind MoveReceive = kind.Receive
received_kind MoveSend = kind.Send
received_kind MoveSendOnce = kind.SendOnce
received_kind CopySend = kind.Send
received_kind MakeSend = kind.Send
received_kind MakeSendOnce = kind.SendOnce

-- a right's number as received (MACH_MSG_TYPE_PORT_RECEIVE, _SEND and _SEND_ONCE)
abbrev pub number_of_kind : RightKind → ℕ
number_of_kind kind.Receive = 16
number_of_kind kind.Send = 17
number_of_kind kind.SendOnce = 18
