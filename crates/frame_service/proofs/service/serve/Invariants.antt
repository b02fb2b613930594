use Rattle.std.proofs.Common.{◌≡◌, ◌≤◌, ℕ, List, Some}
use Rattle.codes.specs.declared.limits.TheConstants.{MAX_FRAME_CONTENT}
use Rattle.frame_service.proofs.Going.{Going}
use Rattle.frame_service.proofs.service.serve.Given as goal

-- the replies' frame keeps its room, and what was read so far was served
abbrev pub invariant-loop : goal.invariant-loop
invariant-loop g l = record {
  room : MAX_FRAME_CONTENT ≤ l.reply.room;
  going : (input before : List ℕ) → g.R.Read.remaining l.fn.reader ≡ Some input
      → g.W.Write.contents l.fn.writer ≡ Some before
      → Going g.C.Caller.answers g.C.Caller.rests l.fn.caller l.caller input before (g.R.Read.remaining l.reader)
      (g.W.Write.contents l.writer) l.counter;
}
