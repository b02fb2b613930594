use Rattle.std.proofs.Common.{refl}
use Rattle.frame_service.proofs.Steps.{begins}
use Rattle.frame_service.proofs.conversation.Conversation.new.Goals as goal

pub returns-clause-begins : goal.returns-clause-begins
returns-clause-begins g c = record {
  none_failed = refl;
  goes = λ input before read written.
      begins g.A.Asker.answer g.A.Asker.makes g.A.Asker.lacks g.A.Asker.acknowledges g.A.Asker.fails g.A.Asker.looks
      c.args.asker input before c.args.pending.frames.items _ _ c.requires read written;
}
