use Rattle.std.proofs.Common.{subst, sym}
use Rattle.ipc_model.specs.calls.Step.{Step}
use Rattle.ipc_model.specs.declared.reply.Reply.{Reply}
use Rattle.ipc_model.specs.state.State.{KeptReplies}
use Rattle.kernel.specs.Keeping.{kept_by, state_of}
use Rattle.kernel.proofs.replaying.step_again.Goals as goal

pub returns-clause-step : goal.returns-clause-step
returns-clause-step c =
    let old = state_of c.args.state.now.current c.args.kept.now in
    let made = c.answer_call.new.state.current in
    subst (λ (k : KeptReplies). Step old c.args.record.now.space c.args.record.now.call c.args.record.now.reply
    (state_of made k)) (sym c.in_ok-keep.ensures.ok)
    (subst (λ (r : Reply). Step old c.args.record.now.space c.args.record.now.call r
    (state_of made (kept_by c.in_ok-done.done.keeping c.args.kept.now c.args.record.now.space)))
    (c.is_same_reply.ensures.0 c.if-not-is_same_reply.false) c.in_ok-done.ensures.step)
