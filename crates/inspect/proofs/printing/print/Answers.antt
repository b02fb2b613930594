use Rattle.std.proofs.Common.{◌≡◌, rules}
use Rattle.std.proofs.KnownBytes.{Keeps-refl}
use Rattle.std.proofs.lemmas.Result.{err_from_is_err_and}
use Rattle.inspect.proofs.Exits.{prints_nothing, prints_sent, reads_failed, reads_sent}
use Rattle.inspect.proofs.printing.print.Goals as goal

pub returns-in_err-text-clause-prints : goal.returns-in_err-text-clause-prints
returns-in_err-text-clause-prints g c =
    let p = err_from_is_err_and c.from_residual.result c.from_residual.ensures.1 in
    prints_nothing _ _ _ c.from_residual.result p.0 p.1 (λ same. c.in_err-text.ensures.err (cc (p.2, same)))
    (Keeps-refl (g.W.Write.contents c.args.writer.now))

pub returns-in_err-text-clause-reads : goal.returns-in_err-text-clause-reads
returns-in_err-text-clause-reads g c =
    let p = err_from_is_err_and c.from_residual.result c.from_residual.ensures.1 in
    reads_failed _ _ _ _ _ c.text_of.result p.0 c.from_residual.result (cc p.2) p.1 c.text_of.ensures.reads_only
    c.text_of.ensures.version c.text_of.ensures.damaged c.text_of.ensures.still c.text_of.ensures.device
    c.text_of.ensures.same c.text_of.ensures.faults

pub returns-clause-prints : goal.returns-clause-prints
returns-clause-prints g c =
    let same : c.deref.result.now ≡ c.in_ok-text.text.items = search rules in
    prints_sent _ _ _ c.in_ok-text.text.items c.send.result c.in_ok-text.ensures.text (rw same at c.send.ensures.ok)
    (rw same at c.send.ensures.part) c.send.ensures.err

pub returns-clause-reads : goal.returns-clause-reads
returns-clause-reads g c =
    reads_sent _ _ _ _ _ c.send.result c.in_ok-text.ensures.reads_only c.in_ok-text.ensures.quiet
    c.send.ensures.err
