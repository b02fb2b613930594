use Rattle.std.proofs.Common.{◌≡◌, ◌≤◌}
use Rattle.codes.specs.declared.limits.TheConstants.{MAX_FRAME_CONTENT}
use Rattle.frame_service.specs.Conversing.{Continues}
use Rattle.frame_service.proofs.conversation.Conversation.answer_all.Given as goal

abbrev pub invariant-loop : goal.invariant-loop
invariant-loop g l = record {
  limit : MAX_FRAME_CONTENT ≤ l.reply.room;
  room : l.fn.reply.room ≤ l.reply.room;
  keeps : Continues g.S.Read.remaining g.W.Write.contents g.A.Asker.answer g.A.Asker.makes g.A.Asker.lacks
      g.A.Asker.acknowledges g.A.Asker.fails g.A.Asker.looks l.fn.self l.self;
  fault : l.self.fault ≡ l.fn.self.fault;
}
