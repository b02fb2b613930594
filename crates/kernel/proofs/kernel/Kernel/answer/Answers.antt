use Rattle.std.proofs.Common.{◌≡◌, false, true, IfNone, IfOk, IfSome, subst}
use Rattle.ipc_model.specs.calls.Step.{Step, has_record}
use Rattle.ipc_model.specs.declared.reply.Reply.{Reply}
use Rattle.ipc_model.specs.state.State.{State}
use Rattle.kernel.proofs.kernel.Kernel.answer.Goals as goal

pub returns-clause-answered : goal.returns-clause-answered
returns-clause-answered c =
    subst (λ (s : State). IfOk c.answer_in_place-answer.result
    (λ answer. IfSome answer (λ reply. Step s c.args.space c.args.call.now reply s
    × (has_record c.args.call.now reply ≡ false)))) c.in_ok-other.ensures c.answer_in_place-answer.ensures.answered

pub returns-clause-none : goal.returns-clause-none
returns-clause-none c =
    subst (λ (s : State). IfOk c.answer_in_place-answer.result
    (λ answer. IfNone answer ((reply : Reply) × (new : State) × Step s c.args.space c.args.call.now reply new
    × (has_record c.args.call.now reply ≡ true)))) c.in_ok-other.ensures c.answer_in_place-answer.ensures.none
