use Rattle.std.proofs.Common.{All, take}
use Rattle.ipc_model.specs.state.Lawful.{LawfulMessage}
use Rattle.snapshot_loading.proofs.shape.are_lawful_messages.Given as goal

abbrev pub invariant-loop-message : goal.invariant-loop-message
invariant-loop-message l = All LawfulMessage (take l.message-index l.messages)
