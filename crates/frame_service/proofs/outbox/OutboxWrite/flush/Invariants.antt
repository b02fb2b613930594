use Rattle.frame_service.specs.Boxes.{Gives}
use Rattle.frame_service.proofs.outbox.OutboxWrite.flush.Given as goal

abbrev pub invariant-loop : goal.invariant-loop
invariant-loop g l = record { gives : Gives g.W.Write.contents l.fn.self l.self }
