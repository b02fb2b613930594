use Rattle.frame_service.proofs.conversation.Conversation.answer_all.Goals as goal

pub returns-in-Err-clause-ends : goal.returns-in-Err-clause-ends
returns-in-Err-clause-ends g c = λ start input before so_far.
    c.in-Err.ensures.ends start input before (c.loop.invariant.keeps start input before so_far)
