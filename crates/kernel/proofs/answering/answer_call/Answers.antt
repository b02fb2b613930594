use Rattle.std.proofs.Common.{ap, sym, subst, ◌∙◌}
use Rattle.codes.specs.declared.call_number.TheConstants.{NUMBERED}
use Rattle.codes.specs.declared.kern_return.KernReturn.{KernReturn}
use Rattle.ipc_model.specs.calls.Step.{Step}
use Rattle.ipc_model.specs.declared.plain_reply.PlainReply.TheVariants.{Refused}
use Rattle.ipc_model.specs.declared.reply.Reply.TheVariants as reply
use Rattle.kernel.specs.Answering.{prefers_plain, prefers_unnumberable, step_plain, step_unnumberable}
use Rattle.kernel.specs.Keeping.{kept_by, state_of}
use Rattle.kernel.specs.declared.answering.Keeping.{Keeping}
use Rattle.kernel.proofs.answering.answer_call.Goals as goal

pub returns-in_ok-reply-in-Plain-clause-step : goal.returns-in_ok-reply-in-Plain-clause-step
returns-in_ok-reply-in-Plain-clause-step c =
    step_plain (state_of c.args.state.now.current c.args.kept.now) c.args.space c.args.call.now c.in-Plain.plain
    c.in_ok-reply-in-Plain.reply c.step.new.state.current c.keeping_plain-keeping.result c.in-Plain.is
    c.keeping_plain-keeping.ensures c.in_ok-reply-in-Plain.ensures.step

pub returns-in_ok-reply-in-Plain-clause-shown : goal.returns-in_ok-reply-in-Plain-clause-shown
returns-in_ok-reply-in-Plain-clause-shown c =
    prefers_plain (state_of c.args.state.now.current c.args.kept.now) c.args.space c.args.call.now c.in-Plain.plain
    c.args.shown.now c.in_ok-reply-in-Plain.reply c.in-Plain.is c.in_ok-reply-in-Plain.ensures.shown

pub returns-in-Unnumberable-clause-step : goal.returns-in-Unnumberable-clause-step
returns-in-Unnumberable-clause-step c =
    let kept = c.args.kept.now in
    let old = state_of c.args.state.now.current kept in
    let refusal = c.refusal.ensures.reply
    ∙ ap (λ (k : KernReturn). reply.Plain (Refused NUMBERED k)) c.code_of_unnumberable-code.ensures in
    subst (λ (k : Keeping). Step old c.args.space c.args.call.now c.refusal.result.reply
    (state_of c.args.state.now.current (kept_by k kept c.args.space))) (sym c.refusal.ensures.keeping)
    (step_unnumberable old c.args.space c.args.call.now c.refusal.result.reply c.in-Unnumberable.is refusal)

pub returns-in-Unnumberable-clause-shown : goal.returns-in-Unnumberable-clause-shown
returns-in-Unnumberable-clause-shown c =
    let refusal = c.refusal.ensures.reply
    ∙ ap (λ (k : KernReturn). reply.Plain (Refused NUMBERED k)) c.code_of_unnumberable-code.ensures in
    prefers_unnumberable (state_of c.args.state.now.current c.args.kept.now) c.args.space c.args.call.now
    c.args.shown.now c.refusal.result.reply c.in-Unnumberable.is refusal
