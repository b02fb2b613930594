use Rattle.std.proofs.Common.{◌≡◌, sym, ◌∙◌, ap, subst}
use Rattle.ipc_model.specs.calls.PlainStep.{PlainStep}
use Rattle.ipc_model.specs.declared.plain_reply.PlainReply.{PlainReply}
use Rattle.ipc_model.specs.state.Ipc.{Ipc}
use Rattle.port_calls.specs.Passed.{Running}
use Rattle.kernel.specs.Choosing.{Prefers}
use Rattle.kernel.specs.Stepping.{PrefersStep, of_none, of_some, prefers_step, step_refused, step_settled, step_tried}
use Rattle.port_calls.specs.Trying.{Tries}
use Rattle.kernel.proofs.stepping.step_by_effects.Goals as goal

pub returns-in-Some-clause-step : goal.returns-in-Some-clause-step
returns-in-Some-clause-step c =
    let acts = of_some _ c.in_ok-reply.field-0 c.in-Some.reply c.in-Some.is c.in_ok-reply.ensures.acts in
    subst (λ (r : PlainReply). PlainStep c.args.state.now.current c.args.space c.args.call.now r
    c.settle_after.new.state.current)
    (sym c.in_ok-reply-2.ensures.reply)
    (step_settled c.args.state.now.current c.args.space c.args.call.now c.in-Some.reply c.exchange.new.state.current
    c.settle_after.new.state.current c.exchange.new.effects c.requires.there acts c.in_ok-reply-2.ensures.settled)

pub returns-in-Some-clause-shown : goal.returns-in-Some-clause-shown
returns-in-Some-clause-shown c =
    let shown = of_some _ c.in_ok-reply.field-0 c.in-Some.reply c.in-Some.is c.in_ok-reply.ensures.shown in
    subst (λ (r : PlainReply). PrefersStep c.args.state.now.current c.args.space c.args.call.now c.args.shown.now r)
    (sym c.in_ok-reply-2.ensures.reply)
    (prefers_step c.args.state.now.current c.args.space c.args.call.now c.args.shown.now c.in-Some.reply
    c.requires.there shown)

pub returns-then-is_refusal-clause-step : goal.returns-then-is_refusal-clause-step
returns-then-is_refusal-clause-step c =
    let old = c.args.state.now.current in
    let same = (of_none _ c.in_ok-reply.field-0 c.in_default.is c.in_ok-reply.ensures.none).1 in
    let tries =
    subst (λ (r : Running). Tries r.current c.args.space c.args.call.now c.in_ok-reply-3.reply
    c.try_call.new.state.current c.try_call.new.effects) same c.in_ok-reply-3.ensures.tries in
    let back : c.roll_back.new.self.current ≡ old =
    ap (λ (r : Running). r.current) c.roll_back.ensures ∙ c.try_call.ensures.before ∙ c.exchange.ensures.before
    ∙ c.requires.rest in
    subst (λ (s : Ipc). PlainStep old c.args.space c.args.call.now c.in_ok-reply-3.reply s) (sym back)
    (step_refused old c.args.space c.args.call.now c.in_ok-reply-3.reply c.try_call.new.state.current
    c.try_call.new.effects c.requires.there (sym c.is_refusal.ensures ∙ c.if-is_refusal.true) tries)

pub returns-then-is_refusal-clause-shown : goal.returns-then-is_refusal-clause-shown
returns-then-is_refusal-clause-shown c =
    let same = (of_none _ c.in_ok-reply.field-0 c.in_default.is c.in_ok-reply.ensures.none).1 in
    let shown =
    subst (λ (r : Running). Prefers r.current c.args.space c.args.call.now c.args.shown.now c.in_ok-reply-3.reply)
    same c.in_ok-reply-3.ensures.shown in
    prefers_step c.args.state.now.current c.args.space c.args.call.now c.args.shown.now c.in_ok-reply-3.reply
    c.requires.there shown

pub returns-clause-step : goal.returns-clause-step
returns-clause-step c =
    let same = (of_none _ c.in_ok-reply.field-0 c.in_default.is c.in_ok-reply.ensures.none).1 in
    let tries =
    subst (λ (r : Running). Tries r.current c.args.space c.args.call.now c.in_ok-reply-3.reply
    c.try_call.new.state.current c.try_call.new.effects) same c.in_ok-reply-3.ensures.tries in
    subst (λ (r : PlainReply). PlainStep c.args.state.now.current c.args.space c.args.call.now r
    c.settle_after-2.new.state.current) (sym c.in_ok-reply-4.ensures.reply)
    (step_tried c.args.state.now.current c.args.space c.args.call.now c.in_ok-reply-3.reply c.try_call.new.state.current
    c.settle_after-2.new.state.current c.try_call.new.effects c.requires.there
    (sym c.is_refusal.ensures ∙ c.if-is_refusal.false) tries c.in_ok-reply-4.ensures.settled)

pub returns-clause-shown : goal.returns-clause-shown
returns-clause-shown c =
    let same = (of_none _ c.in_ok-reply.field-0 c.in_default.is c.in_ok-reply.ensures.none).1 in
    let shown =
    subst (λ (r : Running). Prefers r.current c.args.space c.args.call.now c.args.shown.now c.in_ok-reply-3.reply)
    same c.in_ok-reply-3.ensures.shown in
    subst (λ (r : PlainReply). PrefersStep c.args.state.now.current c.args.space c.args.call.now c.args.shown.now r)
    (sym c.in_ok-reply-4.ensures.reply)
    (prefers_step c.args.state.now.current c.args.space c.args.call.now c.args.shown.now c.in_ok-reply-3.reply
    c.requires.there shown)
