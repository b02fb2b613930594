use Rattle.std.proofs.Common.{take}
use Rattle.disk.specs.Log.{slots_of}
use Rattle.disk.proofs.Crashes.{IsTornReplay}
use Rattle.disk.proofs.memory.MemDisk.left_by_crash.Given as goal

abbrev pub invariant-loop-call : goal.invariant-loop-call
invariant-loop-call l =
    IsTornReplay (slots_of l.fn.self.first) (take l.call-index l.call-items) (slots_of l.left) (slots_of l.seen)
