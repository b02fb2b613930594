use Rattle.std.proofs.Common.{◌≡◌, take}
use Rattle.ports.specs.Passed.{messages_at}
use Rattle.ipc_state.proofs.copying.copy_of_messages.Given as goal

-- the messages copied so far
abbrev pub invariant-loop-index : goal.invariant-loop-index
invariant-loop-index l = l.copy.items ≡ take l.index (messages_at l.ports.current.ports l.serial)
