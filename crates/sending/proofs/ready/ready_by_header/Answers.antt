use Rattle.std.proofs.Common.{Vec, Global, List, map}
use Rattle.std.proofs.lemmas.Result.{err_from_is_err_and}
use Rattle.ipc_model.specs.messages.Items.{Item}
use Rattle.msg_header.specs.Headers.{parts_by}
use Rattle.type_desc.specs.Values.{item_value}
use Rattle.type_desc.specs.declared.item.Item as declared
use Rattle.sending.proofs.Whole.{first_failed, second_failed, third_failed, all_given}
use Rattle.sending.proofs.ready.ready_by_header.Goals as goal

abbrev by : Vec declared.Item Global → List Item
by found = map item_value found.items

pub returns-in_err-destination-clause-ready : goal.returns-in_err-destination-clause-ready
returns-in_err-destination-clause-ready c =
    let p = err_from_is_err_and c.from_residual.result c.from_residual.ensures.1 in
    rw (p.1, p.2) (first_failed c.args.state.now.current c.args.space
    (parts_by c.args.header c.args.body.now) _ _ c.in_err-destination.ensures)

pub returns-in_err-reply-clause-ready : goal.returns-in_err-reply-clause-ready
returns-in_err-reply-clause-ready c =
    let p = err_from_is_err_and c.from_residual-in_err-reply.result c.from_residual-in_err-reply.ensures.1 in
    rw (p.1, p.2) (second_failed c.args.state.now.current c.args.space
    (parts_by c.args.header c.args.body.now) _ c.in_ok-destination.destination _ c.in_ok-destination.ensures
    c.in_err-reply.ensures)

pub returns-in_err-items-clause-ready : goal.returns-in_err-items-clause-ready
returns-in_err-items-clause-ready c =
    let p = err_from_is_err_and c.from_residual-in_err-items.result c.from_residual-in_err-items.ensures.1 in
    rw (p.1, p.2) (third_failed c.args.state.now.current c.args.space
    (parts_by c.args.header c.args.body.now) _ c.in_ok-destination.destination c.in_ok-reply.reply by _
    c.in_ok-destination.ensures c.in_ok-reply.ensures c.in_err-items.ensures)

pub returns-clause-ready : goal.returns-clause-ready
returns-clause-ready c =
    all_given c.args.state.now.current c.args.space
    (parts_by c.args.header c.args.body.now) _ c.in_ok-destination.destination c.in_ok-reply.reply by
    c.in_ok-items.items _ c.in_ok-destination.ensures c.in_ok-reply.ensures c.in_ok-items.ensures
    (rw c.as_slice.ensures.value at c.ready_of_items.ensures.ready)
