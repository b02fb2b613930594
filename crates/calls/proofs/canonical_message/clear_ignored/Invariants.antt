use Rattle.std.proofs.Common.{◌≡◌, take}
use Rattle.ipc_model.specs.messages.Kept.{masked, used_bits}
use Rattle.calls.proofs.canonical_message.clear_ignored.Given as goal

abbrev pub invariant-loop-i : goal.invariant-loop-i
invariant-loop-i l = l.message ≡ masked (take l.i used_bits) l.fn.message
