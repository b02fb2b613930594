use Rattle.std.proofs.lemmas.Result.{err_from_is_err_and}
use Rattle.recover.proofs.looking.look.Goals as goal

pub returns-in_err-epoch-clause-damaged : goal.returns-in_err-epoch-clause-damaged
returns-in_err-epoch-clause-damaged g c = λ honest is.
    let p = err_from_is_err_and c.from_residual.result c.from_residual.ensures.1 in
    c.in_err-epoch.ensures.damaged honest (cc (p.1, p.2, is))
