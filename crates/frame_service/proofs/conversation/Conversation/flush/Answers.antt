use Rattle.std.proofs.Common.{Some, refl}
use Rattle.frame_service.proofs.Going.{keeps_same}
use Rattle.frame_service.proofs.Lives.{stopped}
use Rattle.frame_service.proofs.Steps.{is_unflushed, stays}
use Rattle.frame_service.specs.declared.service.ServeFault.TheVariants.{Wire}
use Rattle.wire.specs.declared.fault.WireFault.TheVariants.{Device}
use Rattle.frame_service.proofs.conversation.Conversation.flush.Goals as goal

pub returns-then-is_err-clause-keeps : goal.returns-then-is_err-clause-keeps
returns-then-is_err-clause-keeps g c =
    stopped g.S.Read.remaining g.W.Write.contents g.A.Asker.answer g.A.Asker.makes g.A.Asker.lacks
    g.A.Asker.acknowledges g.A.Asker.fails g.A.Asker.looks c.args.self.now
    (record c.args.self.now { outbox = c.flush.new.self; fault = Some (Wire Device) }) c.in_default.is (Wire Device) refl
    (λ start input before so_far.
    is_unflushed g.A.Asker.answer g.A.Asker.makes g.A.Asker.lacks g.A.Asker.acknowledges g.A.Asker.fails g.A.Asker.looks
    start input before c.args.self.now.asker c.args.self.now.pending.frames.items c.args.self.now.input_end _ _ _
    (stays g.A.Asker.answer g.A.Asker.makes g.A.Asker.lacks g.A.Asker.acknowledges g.A.Asker.fails g.A.Asker.looks
    start input before c.args.self.now.asker c.args.self.now.pending.frames.items c.args.self.now.input_end _ _ _ _
    (keeps_same _) c.flush.ensures.bytes so_far) refl)
