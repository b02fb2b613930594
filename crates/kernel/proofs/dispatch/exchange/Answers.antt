use Rattle.std.proofs.Common.{List, ℕ, refl, sym, ◌∙◌, subst}
use Rattle.ipc_model.specs.calls.PortCalls.{names_in}
use Rattle.ipc_model.specs.calls.PlainStep.{ActsIn}
use Rattle.ipc_model.specs.declared.plain_call.PlainCall.{PlainCall}
use Rattle.ipc_model.specs.declared.plain_call.PlainCall.TheVariants as call
use Rattle.kernel.specs.Choosing.{Prefers, prefers_closed, prefers_receive}
use Rattle.kernel.proofs.dispatch.exchange.Goals as goal

pub returns-in_ok-reply-in-Send-clause-shown : goal.returns-in_ok-reply-in-Send-clause-shown
returns-in_ok-reply-in-Send-clause-shown c =
    let old = c.args.state.now.current in
    let space = c.args.space in
    let reply = c.in_ok-reply-in-Send.reply in
    let new = c.send.new.state.current in
    let effects = c.send.new.effects in
    let acts =
    subst (λ (message : List ℕ). ActsIn old space (names_in old space) (call.Send message) reply new effects)
    c.as_slice.ensures c.in_ok-reply-in-Send.ensures.acts in
    subst (λ (made : PlainCall). Prefers old space made c.args.shown.now reply) (sym c.in-Send.is)
    (prefers_closed old space (call.Send c.in-Send.message) c.args.shown.now reply new effects refl acts)

pub returns-in_ok-reply-in-Receive-clause-acts : goal.returns-in_ok-reply-in-Receive-clause-acts
returns-in_ok-reply-in-Receive-clause-acts c =
    let old = c.args.state.now.current in
    subst (λ (made : PlainCall). ActsIn old c.args.space
    (names_in old c.args.space) made c.in_ok-reply-in-Receive.reply c.receive.new.state.current
    c.receive.new.effects) (sym c.in-Receive.is) c.in_ok-reply-in-Receive.ensures.acts

pub returns-in_ok-reply-in-Receive-clause-shown : goal.returns-in_ok-reply-in-Receive-clause-shown
returns-in_ok-reply-in-Receive-clause-shown c =
    let old = c.args.state.now.current in
    subst (λ (made : PlainCall). Prefers old c.args.space made c.args.shown.now c.in_ok-reply-in-Receive.reply)
    (sym c.in-Receive.is)
    (prefers_receive old c.args.space c.in-Receive.limit c.in-Receive.large c.in-Receive.name c.in-Receive.waited
    c.args.shown.now c.in_ok-reply-in-Receive.reply
    (λ other last others preferred names. c.in_ok-reply-in-Receive.ensures.shown other last others preferred
    (c.as_slice-names.ensures ∙ names)))
