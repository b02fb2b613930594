use Rattle.std.proofs.Common.{◌+◌}
use Rattle.disk.specs.Slots.{TornWrite, TornCut}
use Rattle.slot_steps.proofs.Lengths.{on_ok}
use Rattle.std.proofs.lemmas.Result.{err_from_is_err_and}
use Rattle.recover.proofs.Faults.{none_at_error}
use Rattle.recover.proofs.Rest.{rest_but, rest_but_changed, rest_synced}
use Rattle.recover.proofs.making.end_segment.Goals as goal

pub returns-then-length-end-clause-rest : goal.returns-then-length-end-clause-rest
returns-then-length-end-clause-rest g c = λ honest rest.
    let first = g.D.Disk.view c.args.disk.now in
    let written = g.D.Disk.view c.write_at.new.self in
    on_ok c.sync.result
    (λ synced. rest_synced c.args.slot written (g.D.Disk.view c.sync.new.self) (c.sync.ensures.time honest)
    (c.sync.ensures.seen honest) synced
    (rest_but_changed c.args.slot first written (TornWrite c.args.end 1) _ (c.write_at.ensures.time honest)
    (c.in_ok-write_at.ensures.written honest) (rest_but c.args.slot first rest)))
    (c.sync.ensures.synced honest)

pub returns-clause-rest : goal.returns-clause-rest
returns-clause-rest g c = λ honest rest.
    let first = g.D.Disk.view c.args.disk.now in
    let cut = g.D.Disk.view c.cut.new.self in
    on_ok c.sync-2.result
    (λ synced. rest_synced c.args.slot cut (g.D.Disk.view c.sync-2.new.self) (c.sync-2.ensures.time honest)
    (c.sync-2.ensures.seen honest) synced
    (rest_but_changed c.args.slot first cut (TornCut (c.args.end + 1)) _ (c.cut.ensures.time honest)
    (c.in_ok-cut.ensures.cut honest) (rest_but c.args.slot first rest)))
    (c.sync-2.ensures.synced honest)

pub returns-in_err-write_at-clause-ended : goal.returns-in_err-write_at-clause-ended
returns-in_err-write_at-clause-ended g c =
    λ honest. let p = err_from_is_err_and c.from_residual.result c.from_residual.ensures.1 in
    none_at_error _ c.from_residual.result _ p.1

pub returns-in_err-write_at-clause-rest : goal.returns-in_err-write_at-clause-rest
returns-in_err-write_at-clause-rest g c =
    λ honest rest. let p = err_from_is_err_and c.from_residual.result c.from_residual.ensures.1 in
    none_at_error _ c.from_residual.result _ p.1

pub returns-in_err-cut-clause-ended : goal.returns-in_err-cut-clause-ended
returns-in_err-cut-clause-ended g c =
    λ honest. let p = err_from_is_err_and c.from_residual-in_err-cut.result c.from_residual-in_err-cut.ensures.1 in
    none_at_error _ c.from_residual-in_err-cut.result _ p.1

pub returns-in_err-cut-clause-rest : goal.returns-in_err-cut-clause-rest
returns-in_err-cut-clause-rest g c =
    λ honest rest. let p = err_from_is_err_and c.from_residual-in_err-cut.result c.from_residual-in_err-cut.ensures.1 in
    none_at_error _ c.from_residual-in_err-cut.result _ p.1
