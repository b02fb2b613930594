use Rattle.std.proofs.Common.{◌++◌, ◌∙◌}
use Rattle.std.proofs.lemmas.Result.{err_from_is_err_and}
use Rattle.inspect.proofs.printing.text_of.Goals as goal

pub returns-in_err-look-clause-damaged : goal.returns-in_err-look-clause-damaged
returns-in_err-look-clause-damaged g c = λ honest is.
    let p = err_from_is_err_and c.from_residual.result c.from_residual.ensures.1 in
    c.in_err-look.ensures.damaged honest (cc (p.1, p.2, is))

pub returns-in_err-look-clause-same : goal.returns-in_err-look-clause-same
returns-in_err-look-clause-same g c = λ other.
    let p = err_from_is_err_and c.from_residual.result c.from_residual.ensures.1 in
    c.in_err-look.ensures.same (λ same. other (cc (p.1, p.2, same)))

pub returns-clause-text : goal.returns-clause-text
returns-clause-text g c =
    let found = c.in_ok-look.ensures.state in
    let look = c.in_ok-look.look in
    record {
      state = found.state;
      epoch = look.epoch;
      records = look.records;
      reads = found.reads;
      is =
          c.in_ok-append.ensures found.state found.rows
          ∙ (λ i. c.new-text.ensures.items i ++ g.F.Form.text_of look.epoch look.records found.state);
    }
