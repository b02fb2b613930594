use Rattle.std.proofs.Common.{refl, sym, subst}
use Rattle.ipc_model.specs.declared.plain_call.PlainCall.{PlainCall}
use Rattle.ipc_model.specs.declared.plain_call.PlainCall.TheVariants as call
use Rattle.kernel.specs.Choosing.{Prefers, prefers_closed, prefers_request, prefers_extract, prefers_create}
use Rattle.kernel.specs.Trials.{acted}
use Rattle.kernel.proofs.dispatch.hand_over.Goals as goal

pub returns-in_ok-reply-in-RequestNotification-clause-shown :
    goal.returns-in_ok-reply-in-RequestNotification-clause-shown
returns-in_ok-reply-in-RequestNotification-clause-shown c =
    let did =
    acted c.args.state.now.current c.args.space
    (call.RequestNotification c.in-RequestNotification.name c.in-RequestNotification.variant
    c.in-RequestNotification.sync c.in-RequestNotification.notify c.in-RequestNotification.disposition)
    c.in_ok-reply-in-RequestNotification.reply c.request_notification.new.state.current
    c.request_notification.new.effects c.in_ok-reply-in-RequestNotification.ensures.tries in
    subst (λ (made : PlainCall). Prefers c.args.state.now.current c.args.space made c.args.shown.now
    c.in_ok-reply-in-RequestNotification.reply) (sym c.in-RequestNotification.is)
    (prefers_request c.args.state.now.current c.args.space c.in-RequestNotification.name
    c.in-RequestNotification.variant c.in-RequestNotification.sync c.in-RequestNotification.notify
    c.in-RequestNotification.disposition c.args.shown.now c.in_ok-reply-in-RequestNotification.reply did.0 did.1
    did.2 c.in_ok-reply-in-RequestNotification.ensures.wanted)

pub returns-in_ok-reply-in-InsertRight-clause-shown : goal.returns-in_ok-reply-in-InsertRight-clause-shown
returns-in_ok-reply-in-InsertRight-clause-shown c =
    let did =
    acted c.args.state.now.current c.args.space
    (call.InsertRight c.in-InsertRight.name c.in-InsertRight.right_name c.in-InsertRight.disposition)
    c.in_ok-reply-in-InsertRight.reply c.insert_right.new.state.current c.insert_right.new.effects
    c.in_ok-reply-in-InsertRight.ensures.tries in
    subst (λ (made : PlainCall). Prefers c.args.state.now.current c.args.space made c.args.shown.now
    c.in_ok-reply-in-InsertRight.reply) (sym c.in-InsertRight.is)
    (prefers_closed c.args.state.now.current c.args.space
    (call.InsertRight c.in-InsertRight.name c.in-InsertRight.right_name c.in-InsertRight.disposition)
    c.args.shown.now c.in_ok-reply-in-InsertRight.reply did.0 did.1 refl did.2)

pub returns-in_ok-reply-in-ExtractRight-clause-shown : goal.returns-in_ok-reply-in-ExtractRight-clause-shown
returns-in_ok-reply-in-ExtractRight-clause-shown c =
    let did =
    acted c.args.state.now.current c.args.space
    (call.ExtractRight c.in-ExtractRight.name c.in-ExtractRight.disposition) c.in_ok-reply-in-ExtractRight.reply
    c.extract_right.new.state.current c.extract_right.new.effects c.in_ok-reply-in-ExtractRight.ensures.acts
    in
    subst (λ (made : PlainCall). Prefers c.args.state.now.current c.args.space made c.args.shown.now
    c.in_ok-reply-in-ExtractRight.reply) (sym c.in-ExtractRight.is)
    (prefers_extract c.args.state.now.current c.args.space c.in-ExtractRight.name c.in-ExtractRight.disposition
    c.args.shown.now c.in_ok-reply-in-ExtractRight.reply did.0 did.1 did.2
    c.in_ok-reply-in-ExtractRight.ensures.wanted)

pub returns-in_ok-reply-in-SpaceCreate-clause-shown : goal.returns-in_ok-reply-in-SpaceCreate-clause-shown
returns-in_ok-reply-in-SpaceCreate-clause-shown c =
    let did =
    acted c.args.state.now.current c.args.space
    (call.SpaceCreate c.in-SpaceCreate.name c.in-SpaceCreate.disposition) c.in_ok-reply-in-SpaceCreate.reply
    c.space_create.new.state.current c.space_create.new.effects c.in_ok-reply-in-SpaceCreate.ensures.tries
    in
    subst (λ (made : PlainCall). Prefers c.args.state.now.current c.args.space made c.args.shown.now
    c.in_ok-reply-in-SpaceCreate.reply) (sym c.in-SpaceCreate.is)
    (prefers_create c.args.state.now.current c.args.space c.in-SpaceCreate.name c.in-SpaceCreate.disposition
    c.args.shown.now c.in_ok-reply-in-SpaceCreate.reply did.0 did.1 did.2
    c.in_ok-reply-in-SpaceCreate.ensures.wanted)
