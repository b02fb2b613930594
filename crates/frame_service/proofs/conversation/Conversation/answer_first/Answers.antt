use Rattle.std.proofs.Common.{◌∷◌, ap, ◌∙◌}
use Rattle.frame_service.proofs.Steps.{told, untold}
use Rattle.frame_service.proofs.conversation.Conversation.answer_first.Goals as goal

pub returns-in-Err-clause-ends : goal.returns-in-Err-clause-ends
returns-in-Err-clause-ends g c = λ start input before so_far.
    untold g.A.Asker.answer g.A.Asker.makes g.A.Asker.lacks g.A.Asker.acknowledges g.A.Asker.fails g.A.Asker.looks
    start input before c.args.self.now.asker c.tell.new.asker c.in-Some-Settled.ready c.args.self.now.pending.frames.items
    c.pop_front.new.self.items c.args.self.now.input_end _ _ _ c.in-Err.fault
    (c.in-Some-Settled.ensures.items ∙ ap (λ p. p ∷ c.pop_front.new.self.items) c.in-Some-Settled.field-0-is)
    c.in-Err.ensures.tells so_far

pub returns-in-Ok-clause-keeps : goal.returns-in-Ok-clause-keeps
returns-in-Ok-clause-keeps g c = λ start input before so_far.
    told g.A.Asker.answer g.A.Asker.makes g.A.Asker.lacks g.A.Asker.acknowledges g.A.Asker.fails g.A.Asker.looks
    start input before c.args.self.now.asker c.tell.new.asker c.in-Some-Settled.ready c.args.self.now.pending.frames.items
    c.pop_front.new.self.items c.args.self.now.input_end _ _ _ tt
    (c.in-Some-Settled.ensures.items ∙ ap (λ p. p ∷ c.pop_front.new.self.items) c.in-Some-Settled.field-0-is)
    c.in-Ok.ensures.tells so_far
