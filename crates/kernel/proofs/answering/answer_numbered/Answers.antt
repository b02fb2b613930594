use Rattle.std.proofs.Common.{refl, ap, sym, subst, ◌∙◌}
use Rattle.std.specs.Prelude.{option_copied}
use Rattle.ipc_model.specs.calls.Step.{Step}
use Rattle.ipc_model.specs.declared.call.Call.TheVariants.{Numbered}
use Rattle.ipc_model.specs.declared.reply.NumberedReply.{NumberedReply}
use Rattle.ipc_model.specs.declared.reply.Reply.TheVariants as reply
use Rattle.kernel.specs.Answering.{prefers_again, prefers_made, prefers_refused, step_again, step_made, step_refused}
use Rattle.kernel.specs.Keeping.{kept_by, state_of}
use Rattle.kernel.specs.declared.answering.Keeping.{Keeping}
use Rattle.kernel.proofs.answering.answer_numbered.Goals as goal

-- a test fails

pub returns-in-Err-clause-step : goal.returns-in-Err-clause-step
returns-in-Err-clause-step c =
    let kept = c.args.kept.now in
    let old = state_of c.args.state.now.current kept in
    subst (λ (k : Keeping). Step old c.args.space (Numbered c.args.numbered.now) c.refusal.result.reply
    (state_of c.args.state.now.current (kept_by k kept c.args.space))) (sym c.refusal.ensures.keeping)
    (step_refused old c.args.space c.args.numbered.now c.in-Err.code c.refusal.result.reply c.in-Err.ensures
    c.refusal.ensures.reply)

pub returns-in-Err-clause-shown : goal.returns-in-Err-clause-shown
returns-in-Err-clause-shown c =
    prefers_refused (state_of c.args.state.now.current c.args.kept.now) c.args.space c.args.numbered.now
    c.args.shown.now c.in-Err.code c.refusal.result.reply c.in-Err.ensures c.refusal.ensures.reply

-- the request repeats the last one

pub returns-in_ok-again-in-Ok-Some-clause-step : goal.returns-in_ok-again-in-Ok-Some-clause-step
returns-in_ok-again-in-Ok-Some-clause-step c =
    step_again (state_of c.args.state.now.current c.args.kept.now) c.args.space c.args.numbered.now
    c.in-Ok-Some.again.now (reply.Repeated c.in_ok-again-in-Ok-Some.again) c.in-Ok-Some.ensures.0
    (sym c.in-Ok-Some.ensures.1 ∙ ap option_copied c.in-Ok-Some.field-0-is)
    (ap (λ (k : NumberedReply). reply.Repeated k) c.in_ok-again-in-Ok-Some.ensures)

pub returns-in_ok-again-in-Ok-Some-clause-shown : goal.returns-in_ok-again-in-Ok-Some-clause-shown
returns-in_ok-again-in-Ok-Some-clause-shown c =
    prefers_again (state_of c.args.state.now.current c.args.kept.now) c.args.space c.args.numbered.now
    c.args.shown.now c.in-Ok-Some.again.now (reply.Repeated c.in_ok-again-in-Ok-Some.again) c.in-Ok-Some.ensures.0
    (sym c.in-Ok-Some.ensures.1 ∙ ap option_copied c.in-Ok-Some.field-0-is)
    (ap (λ (k : NumberedReply). reply.Repeated k) c.in_ok-again-in-Ok-Some.ensures)

-- the call is made

pub returns-in_ok-keeping-in-Ok-None-clause-step : goal.returns-in_ok-keeping-in-Ok-None-clause-step
returns-in_ok-keeping-in-Ok-None-clause-step c =
    let given : NumberedReply =
    record { request = c.args.numbered.now.request; reply = c.in_ok-reply-in-Ok-None.reply } in
    step_made (state_of c.args.state.now.current c.args.kept.now) c.args.space c.args.numbered.now given
    c.step.new.state.current c.in_ok-keeping-in-Ok-None.keeping c.in-Ok-None.ensures.0
    (sym c.in-Ok-None.ensures.1 ∙ ap option_copied c.in-Ok-None.field-0-is) refl c.in_ok-keeping-in-Ok-None.ensures
    c.in_ok-reply-in-Ok-None.ensures.step

pub returns-in_ok-keeping-in-Ok-None-clause-shown : goal.returns-in_ok-keeping-in-Ok-None-clause-shown
returns-in_ok-keeping-in-Ok-None-clause-shown c =
    let given : NumberedReply =
    record { request = c.args.numbered.now.request; reply = c.in_ok-reply-in-Ok-None.reply } in
    prefers_made (state_of c.args.state.now.current c.args.kept.now) c.args.space c.args.numbered.now
    c.args.shown.now given c.in-Ok-None.ensures.0
    (sym c.in-Ok-None.ensures.1 ∙ ap option_copied c.in-Ok-None.field-0-is) refl
    c.in_ok-reply-in-Ok-None.ensures.shown
