-- Lawful states, with the replies that spaces keep.
use Rattle.std.specs.Prelude.{◌≡◌, ℕ, ◌<◌, ◌^◌, true, Some, is_some}
use Rattle.std.specs.FinMap as finmap
use Rattle.ipc_model.specs.calls.PlainStep.{may_be_numbered}
use Rattle.ipc_model.specs.declared.plain_call.PlainCall.{PlainCall}
use Rattle.ipc_model.specs.declared.reply.NumberedReply.{NumberedReply}
use Rattle.ipc_model.specs.encodings.PlainCalls.{IsRecordedReply}
use Rattle.ipc_model.specs.state.Lawful.{Lawful}
use Rattle.ipc_model.specs.state.State.{State}

-- What a space may keep: under a number that isn't 0, a reply that stands in a record of some call that may be
-- numbered. It is judged by itself: names that it tells needn't be there.
pub record IsKeptReply (kept : NumberedReply) : Type 0 where
  pub request : (0 < kept.request) × (kept.request < 2 ^ 32)
  pub call : PlainCall
  pub numbered : may_be_numbered call ≡ true
  pub reply : IsRecordedReply call kept.reply

-- A state is lawful if its names and ports are, and each reply is kept by a space that is there.
pub record LawfulState (state : State) : Type 0 where
  pub ipc : Lawful state.ipc
  pub kept : (space : ℕ) (answer : NumberedReply) → finmap.get state.kept space ≡ Some answer
      → (is_some (finmap.get state.ipc.spaces space) ≡ true) × IsKeptReply answer
