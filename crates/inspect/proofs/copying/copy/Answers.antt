use Rattle.std.proofs.lemmas.Result.{err_from_is_err_and}
use Rattle.std.proofs.Common.{Err, ap}
use Rattle.store_fault.specs.declared.fault.StoreFault.TheVariants.{Damaged}
use Rattle.inspect.specs.declared.fault.ListFault.{ListFault}
use Rattle.inspect.proofs.Copied.{is_copy, reported_of_list}
use Rattle.inspect.proofs.copying.copy.Goals as goal

pub returns-in_ok-write_store-in-Ok-clause-copied : goal.returns-in_ok-write_store-in-Ok-clause-copied
returns-in_ok-write_store-in-Ok-clause-copied g c = λ honest other empty.
    is_copy g.D.Disk.honest (g.D.Disk.view c.args.from.now).seen c.in_ok-look.look c.in-Ok.image
    (g.E.Disk.view c.write_store.new.to) honest c.in_ok-look.ensures.state c.in-Ok.ensures.image
    (c.in_ok-write_store-in-Ok.ensures.made other empty) (c.in_ok-write_store-in-Ok.ensures.rest other)

pub returns-in_err-look-clause-damaged : goal.returns-in_err-look-clause-damaged
returns-in_err-look-clause-damaged g c = λ honest is.
    let p = err_from_is_err_and c.from_residual.result c.from_residual.ensures.1 in
    c.in_err-look.ensures.damaged honest
    (ap (λ (f : ListFault). Err f)
    (reported_of_list c.in_err-look.field-0.0 Damaged p.0 c.from_residual.result p.1 p.2 is))
