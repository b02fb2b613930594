-- The states of the machine: the IPC state, and the reply to its last numbered call that each space keeps.
use Rattle.std.specs.Prelude.{ℕ, Option, None, Some}
use Rattle.std.specs.Ordering.{nat_cmp}
use Rattle.std.specs.FinMap as finmap
use Rattle.ipc_model.specs.declared.reply.NumberedReply.{NumberedReply}
use Rattle.ipc_model.specs.state.Ipc.{Ipc, opening_ipc}

-- the replies that spaces keep
abbrev pub KeptReplies : Type 0
KeptReplies = finmap.FinMap nat_cmp NumberedReply

pub record State : Type 0 where
  pub ipc : Ipc
  pub kept : KeptReplies

-- The state of a new store.
abbrev pub opening_state : State
opening_state = record { ipc = opening_ipc; kept = finmap.empty }

-- the number of what a space keeps, 0 for nothing
abbrev pub last_request : Option NumberedReply → ℕ
last_request None = 0
last_request (Some kept) = kept.request
