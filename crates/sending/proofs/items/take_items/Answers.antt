use Rattle.std.proofs.Common.{map}
use Rattle.std.proofs.lemmas.Result.{err_from_is_err_and}
use Rattle.codes.specs.declared.kern_return.KernReturn.TheVariants.{SendInvalidRight}
use Rattle.ipc_model.specs.messages.Sending.{take_items}
use Rattle.sending.specs.SoFar.{so_far}
use Rattle.sending.proofs.Rests.{failed_item}
use Rattle.type_desc.specs.Values.{item_value}
use Rattle.sending.proofs.items.take_items.Goals as goal

pub returns-in_err-take_item-clause-taken : goal.returns-in_err-take_item-clause-taken
returns-in_err-take_item-clause-taken c =
    let p = err_from_is_err_and c.from_residual.result c.from_residual.ensures.1 in
    let now = so_far c.loop-item.rights.items c.loop-item.state.current c.loop-item.effects in
    let start = so_far c.args.rights.now.items c.args.state.now.current c.args.effects.now in
    rw (p.1, p.2) (failed_item SendInvalidRight c.args.space c.args.items.now c.loop-item.item-index c.item-item.result
    now (take_items c.args.space (map item_value c.args.items.now) start) _ _ _ c.loop-item.invariant.0
    c.loop-item-test.true c.item-item.is c.in_err-take_item.ensures.taken)
