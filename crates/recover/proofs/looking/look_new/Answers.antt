use Rattle.std.proofs.Common.{Err, ap, sym, subst, ◌∙◌}
use Rattle.std.proofs.lemmas.Result.{err_from_is_err_and}
use Rattle.ipc_model.specs.state.State.{State}
use Rattle.recover.specs.Found.{Reads}
use Rattle.recover.proofs.Faults.{counts_memory, counts_ok, counts_passed}
use Rattle.recover.proofs.Ways.{new_reads}
use Rattle.recover.proofs.looking.look_new.Goals as goal

pub returns-clause-reads : goal.returns-clause-reads
returns-clause-reads g c = λ honest.
    let seen = (g.D.Disk.view c.args.disk.now).seen in
    subst (λ (s : State). Reads seen 0 0 s) (sym c.in_ok-kernel.ensures)
    (new_reads seen (c.requires.unused honest) (c.in_ok-have_no_batch.ensures.new honest))

pub returns-in_err-have_no_batch-clause-reads_only : goal.returns-in_err-have_no_batch-clause-reads_only
returns-in_err-have_no_batch-clause-reads_only g c = λ honest. c.have_no_batch.ensures.reads_only honest

pub returns-in_err-have_no_batch-clause-failures : goal.returns-in_err-have_no_batch-clause-failures
returns-in_err-have_no_batch-clause-failures g c =
    let p = err_from_is_err_and c.from_residual.result c.from_residual.ensures.1 in
    counts_passed _ _ _ c.from_residual.result (p.1 ∙ ap Err p.2) c.in_err-have_no_batch.ensures.failures

pub returns-in_err-kernel-clause-reads_only : goal.returns-in_err-kernel-clause-reads_only
returns-in_err-kernel-clause-reads_only g c = λ honest. c.have_no_batch.ensures.reads_only honest

pub returns-in_err-kernel-clause-failures : goal.returns-in_err-kernel-clause-failures
returns-in_err-kernel-clause-failures g c =
    let p = err_from_is_err_and c.from_residual-in_err-kernel.result c.from_residual-in_err-kernel.ensures.1 in
    counts_memory _ _ c.from_residual-in_err-kernel.result (p.1 ∙ ap Err p.2)
    c.in_ok-have_no_batch.ensures.failures.quiet

pub returns-clause-reads_only : goal.returns-clause-reads_only
returns-clause-reads_only g c = λ honest. c.have_no_batch.ensures.reads_only honest

pub returns-clause-failures : goal.returns-clause-failures
returns-clause-failures g c = counts_ok _ _ _ c.in_ok-have_no_batch.ensures.failures.quiet
