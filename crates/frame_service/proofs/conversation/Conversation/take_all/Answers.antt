use Rattle.std.proofs.Common.{refl}
use Rattle.frame_service.proofs.Steps.{took}
use Rattle.frame_service.proofs.conversation.Conversation.take_all.Goals as goal

pub returns : goal.returns
returns g c = record {
  keeps = λ start input before so_far.
      took g.A.Asker.answer g.A.Asker.makes g.A.Asker.lacks g.A.Asker.acknowledges g.A.Asker.fails g.A.Asker.looks
      start input before c.args.self.now.asker c.take_frames-taken.new.asker c.args.self.now.pending.frames.items
      c.take_frames-taken.new.all_pending.items c.args.self.now.input_end c.end_of-self.result _ _ _
      c.take_frames-taken.result c.requires.none.0 c.requires.more c.end_of-self.ensures c.take_frames-taken.ensures.took
      so_far;
  fault = refl;
}
