use Rattle.frame_service.proofs.Lives.{continued, none_failed}
use Rattle.frame_service.proofs.Steps.{looks_on}
use Rattle.frame_service.proofs.conversation.Conversation.look.Goals as goal

pub returns-then-is_none-clause-keeps : goal.returns-then-is_none-clause-keeps
returns-then-is_none-clause-keeps g c =
    let unfailed = none_failed c.args.self.now.fault c.if-is_none.ensures in
    continued g.S.Read.remaining g.W.Write.contents g.A.Asker.answer g.A.Asker.makes g.A.Asker.lacks
    g.A.Asker.acknowledges g.A.Asker.fails g.A.Asker.looks c.args.self.now
    (record c.args.self.now { asker = c.look.new.self }) unfailed unfailed
    (λ start input before so_far.
    looks_on g.A.Asker.answer g.A.Asker.makes g.A.Asker.lacks g.A.Asker.acknowledges g.A.Asker.fails g.A.Asker.looks
    start input before c.args.self.now.asker c.look.new.self c.args.self.now.pending.frames.items
    c.args.self.now.input_end _ _ c.look.ensures so_far)
