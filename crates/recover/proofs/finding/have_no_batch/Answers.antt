use Rattle.disk.proofs.Moments.{reads_nothing}
use Rattle.std.proofs.Common.{Err, ap, refl, ◌∙◌}
use Rattle.std.proofs.lemmas.Result.{err_from_is_err_and}
use Rattle.recover.proofs.Faults.{counts_device, counts_ok, counts_same}
use Rattle.recover.proofs.finding.have_no_batch.Goals as goal

-- The store is refused, so the clause about a new store holds trivially.
pub returns-then-branch-clause-new : goal.returns-then-branch-clause-new
returns-then-branch-clause-new g c = λ honest. tt

pub returns-then-eq-clause-reads_only : goal.returns-then-eq-clause-reads_only
returns-then-eq-clause-reads_only g c = λ honest. reads_nothing (g.D.Disk.view c.args.disk.now)

pub returns-then-eq-clause-failures : goal.returns-then-eq-clause-failures
returns-then-eq-clause-failures g c = counts_ok _ _ _ refl

pub returns-in_err-has_batch-clause-reads_only : goal.returns-in_err-has_batch-clause-reads_only
returns-in_err-has_batch-clause-reads_only g c = λ honest.
    record { seen = c.has_batch.ensures.seen honest; time = c.has_batch.ensures.time honest }

pub returns-in_err-has_batch-clause-failures : goal.returns-in_err-has_batch-clause-failures
returns-in_err-has_batch-clause-failures g c =
    let p = err_from_is_err_and c.from_residual.result c.from_residual.ensures.1 in
    counts_device _ _ c.from_residual.result (p.1 ∙ ap Err p.2) c.in_err-has_batch.ensures.failures.err

pub returns-then-branch-clause-reads_only : goal.returns-then-branch-clause-reads_only
returns-then-branch-clause-reads_only g c = λ honest.
    record { seen = c.has_batch.ensures.seen honest; time = c.has_batch.ensures.time honest }

pub returns-then-branch-clause-failures : goal.returns-then-branch-clause-failures
returns-then-branch-clause-failures g c =
    counts_same _ _ _ (λ reported. cc reported) c.in_ok-has_batch.ensures.failures.ok

pub returns-clause-reads_only : goal.returns-clause-reads_only
returns-clause-reads_only g c = λ honest.
    record { seen = c.has_batch.ensures.seen honest; time = c.has_batch.ensures.time honest }

pub returns-clause-failures : goal.returns-clause-failures
returns-clause-failures g c = counts_ok _ _ _ c.in_ok-has_batch.ensures.failures.ok
