use Rattle.std.proofs.Common.{sym, ap, ◌∙◌}
use Rattle.codes.specs.declared.kern_return.KernReturn.TheVariants.{InvalidTask}
use Rattle.ipc_model.specs.calls.PlainRefusals.{refused_of}
use Rattle.kernel.specs.Choosing.{prefers_closed, reads_closed}
use Rattle.kernel.specs.Stepping.{of_some, refused_by_number, step_gone, prefers_gone, step_alone, prefers_step}
use Rattle.kernel.proofs.stepping.step.Goals as goal

pub returns-then-not-has_space-clause-step : goal.returns-then-not-has_space-clause-step
returns-then-not-has_space-clause-step c =
    step_gone c.args.state.now.current c.args.space c.args.call.now c.refused.result
    (sym c.has_space.ensures ∙ c.if-not-has_space.true)
    (c.refused.ensures ∙ ap (λ n. refused_of n InvalidTask) c.number.ensures
    ∙ refused_by_number c.args.call.now InvalidTask)

pub returns-then-not-has_space-clause-shown : goal.returns-then-not-has_space-clause-shown
returns-then-not-has_space-clause-shown c =
    prefers_gone c.args.state.now.current c.args.space c.args.call.now c.args.shown.now c.refused.result
    (sym c.has_space.ensures ∙ c.if-not-has_space.true)
    (c.refused.ensures ∙ ap (λ n. refused_of n InvalidTask) c.number.ensures
    ∙ refused_by_number c.args.call.now InvalidTask)

pub returns-in-Some-clause-step : goal.returns-in-Some-clause-step
returns-in-Some-clause-step c =
    let acts = of_some _ c.in_ok-reply.field-0 c.in-Some.reply c.in-Some.is c.in_ok-reply.ensures.acts in
    step_alone c.args.state.now.current c.args.space c.args.call.now c.in-Some.reply c.args.state.now.current
    (sym c.has_space.ensures ∙ c.if-not-has_space.false) acts

pub returns-in-Some-clause-shown : goal.returns-in-Some-clause-shown
returns-in-Some-clause-shown c =
    let reads = of_some _ c.in_ok-reply.field-0 c.in-Some.reply c.in-Some.is c.in_ok-reply.ensures.reads in
    let acts = of_some _ c.in_ok-reply.field-0 c.in-Some.reply c.in-Some.is c.in_ok-reply.ensures.acts in
    prefers_step c.args.state.now.current c.args.space c.args.call.now c.args.shown.now c.in-Some.reply
    (sym c.has_space.ensures ∙ c.if-not-has_space.false)
    (prefers_closed c.args.state.now.current c.args.space c.args.call.now c.args.shown.now c.in-Some.reply
    c.args.state.now.current _ (reads_closed c.args.call.now reads) acts)

pub returns-in-Some-2-clause-step : goal.returns-in-Some-2-clause-step
returns-in-Some-2-clause-step c =
    let acts = of_some _ c.in_ok-reply-2.field-0 c.in-Some-2.reply c.in-Some-2.is c.in_ok-reply-2.ensures.acts in
    step_alone c.args.state.now.current c.args.space c.args.call.now c.in-Some-2.reply c.change.new.state.current
    (sym c.has_space.ensures ∙ c.if-not-has_space.false) acts

pub returns-in-Some-2-clause-shown : goal.returns-in-Some-2-clause-shown
returns-in-Some-2-clause-shown c =
    let shown = of_some _ c.in_ok-reply-2.field-0 c.in-Some-2.reply c.in-Some-2.is c.in_ok-reply-2.ensures.shown in
    prefers_step c.args.state.now.current c.args.space c.args.call.now c.args.shown.now c.in-Some-2.reply
    (sym c.has_space.ensures ∙ c.if-not-has_space.false) shown
