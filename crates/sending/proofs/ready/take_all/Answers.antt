use Rattle.std.proofs.Common.{Vec, Global, map}
use Rattle.std.proofs.lemmas.Result.{err_from_is_err_and}
use Rattle.ipc_model.specs.declared.message.CarriedRight.{CarriedRight}
use Rattle.ipc_model.specs.messages.Sending.{take_header}
use Rattle.msg_header.specs.Headers.{parts_by}
use Rattle.sending.proofs.Joined.{all_taken, second_failed, third_failed}
use Rattle.sending.proofs.Steps.{agrees_failed}
use Rattle.type_desc.specs.Values.{item_value}
use Rattle.sending.proofs.ready.take_all.Goals as goal

pub returns-in_err-taken-clause-ready : goal.returns-in_err-taken-clause-ready
returns-in_err-taken-clause-ready c =
    let p = err_from_is_err_and c.from_residual.result c.from_residual.ensures.1 in
    rw (p.1, p.2) (agrees_failed (take_header c.args.state.now.current c.args.space c.args.named.remote
    c.args.named.destination c.args.named.local c.args.named.reply) _ _ _ _ c.in_err-taken.ensures.taken)

pub returns-in_err-rights-clause-ready : goal.returns-in_err-rights-clause-ready
returns-in_err-rights-clause-ready c =
    let p = err_from_is_err_and c.from_residual-in_err-rights.result c.from_residual-in_err-rights.ensures.1 in
    let parts = parts_by c.args.read.header c.args.read.body.now in
    let items = map item_value c.args.read.items.now in
    rw (p.1, p.2)
    (second_failed c.args.space parts items c.in_ok-taken.taken c.take_header.new.state.current
    c.take_body.new.state.current c.args.effects.now c.take_header.new.effects c.take_body.new.effects
    (λ (v : Vec CarriedRight Global). v.items)
    (take_header c.args.state.now.current c.args.space c.args.named.remote c.args.named.destination c.args.named.local
    c.args.named.reply) _ c.in_ok-taken.ensures.taken c.in_err-rights.ensures.taken)

pub returns-in_err-message-clause-ready : goal.returns-in_err-message-clause-ready
returns-in_err-message-clause-ready c =
    let p = err_from_is_err_and c.from_residual-in_err-message.result c.from_residual-in_err-message.ensures.1 in
    let parts = parts_by c.args.read.header c.args.read.body.now in
    let items = map item_value c.args.read.items.now in
    rw (p.1, p.2)
    (third_failed c.args.space parts items c.in_ok-taken.taken c.take_header.new.state.current
    c.take_body.new.state.current c.args.effects.now c.take_header.new.effects c.take_body.new.effects
    (λ (v : Vec CarriedRight Global). v.items)
    (take_header c.args.state.now.current c.args.space c.args.named.remote c.args.named.destination c.args.named.local
    c.args.named.reply) c.in_ok-rights.rights _ c.in_ok-taken.ensures.taken c.in_ok-rights.ensures.taken
    c.in_err-message.ensures)

pub returns-clause-ready : goal.returns-clause-ready
returns-clause-ready c =
    let parts = parts_by c.args.read.header c.args.read.body.now in
    let items = map item_value c.args.read.items.now in
    all_taken c.args.space parts items c.in_ok-taken.taken c.take_header.new.state.current c.take_body.new.state.current
    c.args.effects.now c.take_header.new.effects c.take_body.new.effects (λ (v : Vec CarriedRight Global). v.items)
    (take_header c.args.state.now.current c.args.space c.args.named.remote c.args.named.destination c.args.named.local
    c.args.named.reply) c.in_ok-rights.rights c.in_ok-message.message c.in_ok-taken.ensures.taken
    c.in_ok-rights.ensures.taken c.in_ok-message.ensures
