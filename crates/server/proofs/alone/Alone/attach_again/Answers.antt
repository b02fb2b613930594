use Rattle.std.proofs.Common.{ap, subst, ◌∙◌}
use Rattle.frame_service.specs.Confining.{attach_to}
use Rattle.ipc_model.specs.declared.call.Call.{Call}
use Rattle.server.proofs.Confining.{own_before}
use Rattle.server.specs.Keeping.{IsBeforeOrAfter}
use Rattle.server.proofs.alone.Alone.attach_again.Goals as goal

pub returns-clause-any_moment : goal.returns-clause-any_moment
returns-clause-any_moment g c = λ honest works s left.
    let old = c.args.self.now in
    let own = c.attach_to.ensures ∙ ap (λ v. attach_to v.space) c.make.view_is in
    own_before old.kernel c.make-2.new.self.kernel old.space s
    (subst (λ (k : Call). IsBeforeOrAfter old.kernel old.space k c.make-2.new.self.kernel s) own
    (c.make-2.ensures.any_moment honest works s left))
