use Rattle.std.proofs.Common.{refl}
use Rattle.frame_service.proofs.Steps.{tries}
use Rattle.frame_service.proofs.conversation.Conversation.try_first.Goals as goal

pub returns : goal.returns
returns g c = record {
  keeps = λ start input before so_far.
      tries g.A.Asker.answer g.A.Asker.makes g.A.Asker.lacks g.A.Asker.acknowledges g.A.Asker.fails g.A.Asker.looks
      start input before c.args.self.now.asker c.retry-pending.new.asker c.in-Some.pending c.retry-pending.result.0
      c.args.self.now.pending.frames.items c.pop_front.new.self.items c.push_front_reserved.new.self.items
      c.args.self.now.input_end _ _ c.in-Some.ensures.items c.push_front_reserved.ensures.items c.retry-pending.ensures
      so_far;
  fault = refl;
}
