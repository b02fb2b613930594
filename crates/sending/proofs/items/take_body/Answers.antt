use Rattle.std.proofs.Common.{map, Vec, Global}
use Rattle.std.proofs.lemmas.Result.{err_from_is_err_and}
use Rattle.codes.specs.declared.kern_return.KernReturn.TheVariants.{SendInvalidRight}
use Rattle.ipc_model.specs.declared.message.CarriedRight.{CarriedRight}
use Rattle.sending.proofs.Rests.{body_failed, body_given}
use Rattle.type_desc.specs.Values.{item_value}
use Rattle.sending.proofs.items.take_body.Goals as goal

pub returns-in_err-take_items-clause-taken : goal.returns-in_err-take_items-clause-taken
returns-in_err-take_items-clause-taken c =
    let p = err_from_is_err_and c.from_residual-in_err-take_items.result c.from_residual-in_err-take_items.ensures.1 in
    rw (p.1, p.2) (body_failed SendInvalidRight c.args.space
    (map item_value c.args.items.now) c.args.state.now.current c.args.effects.now c.in_ok-rights.rights.items _ _ _
    c.in_ok-rights.ensures.items c.in_err-take_items.ensures.taken)

pub returns-clause-taken : goal.returns-clause-taken
returns-clause-taken c =
    body_given SendInvalidRight c.args.space
    (map item_value c.args.items.now) c.args.state.now.current c.args.effects.now c.in_ok-rights.rights.items
    c.take_items.new.effects c.take_items.new.state.current c.in_ok-take_items.field-0 c.take_items.new.rights
    (λ (v : Vec CarriedRight Global). v.items) c.in_ok-rights.ensures.items c.in_ok-take_items.ensures.taken
