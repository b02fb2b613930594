use Rattle.std.proofs.Common.{◌≡◌, ◌≤◌, ℕ, List, Some}
use Rattle.std.specs.VecDeque.{deque_capacity, deque_len}
use Rattle.frame_service.specs.Boxes.{inbox_remaining}
use Rattle.frame_service.specs.declared.rounds.TheConstants.{MOST_PENDING_FRAMES}
use Rattle.frame_service.proofs.Acting.{Taking}
use Rattle.frame_service.proofs.rounds.take_frames.Given as goal

-- there is room for as many as may be taken, and what was taken is in hand
abbrev pub invariant-loop : goal.invariant-loop
invariant-loop g l = record {
  room : MOST_PENDING_FRAMES ≤ deque_capacity l.all_pending;
  counted : deque_len l.all_pending ≡ l.counter;
  taking : (input : List ℕ) → inbox_remaining g.S.Read.remaining l.fn.inbox ≡ Some input
      → Taking g.A.Asker.answer g.A.Asker.makes g.A.Asker.lacks g.A.Asker.acknowledges g.A.Asker.fails
      g.A.Asker.looks l.fn.asker l.asker l.all_pending.items input (inbox_remaining g.S.Read.remaining l.inbox) l.counter;
}
