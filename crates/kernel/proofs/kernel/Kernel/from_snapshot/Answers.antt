use Rattle.std.proofs.Common.{◌≡◌, List, Err, ap, sym, ◌∙◌}
use Rattle.std.proofs.lemmas.Result.{err_from_is_err_and}
use Rattle.ipc_state.specs.Running.{Running}
use Rattle.snapshot.specs.declared.rows.Space.{Space}
use Rattle.snapshot_loading.specs.declared.making.SnapshotFault.TheVariants.{NotLawful}
use Rattle.kernel.specs.Restoring.{kept_in_rows, lawful_snapshot, restored_lawful, restored_same, same_rows, snapshot_kept}
use Rattle.kernel.proofs.kernel.Kernel.from_snapshot.Goals as goal

pub returns-in_err-state-clause-unlawful : goal.returns-in_err-state-clause-unlawful
returns-in_err-state-clause-unlawful c = λ err is.
    let p = err_from_is_err_and c.from_residual.result c.from_residual.ensures.1 in
    let fault : c.in_err-state.field-0.0 ≡ NotLawful = cc (p.1, p.2, err) in
    c.in_err-state.ensures.unlawful (ap (λ e. Err e) fault) (snapshot_kept c.args.snapshot is).0

pub returns-then-not-are_kept-clause-unlawful : goal.returns-then-not-are_kept-clause-unlawful
returns-then-not-are_kept-clause-unlawful c = λ err is.
    let snapshot = c.args.snapshot in
    let kept = c.are_kept.ensures.1 (same_rows snapshot.ipc.spaces c.as_slice.result.now snapshot.kept
    c.as_slice-2.result.now (sym c.as_slice.ensures) (sym c.as_slice-2.ensures) (snapshot_kept snapshot is).1) in
    absurd (cc (c.if-not-are_kept.true, kept))

pub invariant_of-result : goal.invariant_of-result
invariant_of-result c =
    let snapshot = c.args.snapshot in
    let state = c.in_ok-state in
    let are = same_rows c.as_slice.result.now snapshot.ipc.spaces c.as_slice-2.result.now snapshot.kept
    c.as_slice.ensures c.as_slice-2.ensures (c.are_kept.ensures.0 c.if-not-are_kept.false) in
    let kept_is = c.in_ok-kept.ensures
    ∙ ap (λ (s : List Space). kept_in_rows s c.into_vec.result.items) c.as_slice-3.ensures
    ∙ ap (kept_in_rows snapshot.ipc.spaces) c.into_vec.ensures in (
      restored_lawful snapshot state.state.current state.ensures.same c.in_ok-kept.kept are kept_is
          state.ensures.lawful.0,
      state.ensures.lawful.1,
      c.show_queues_short.ensures,
      ap (λ (r : Running). r.before) state.ensures.rest,
    )

pub returns-clause-same : goal.returns-clause-same
returns-clause-same c =
    let snapshot = c.args.snapshot in
    let are = same_rows c.as_slice.result.now snapshot.ipc.spaces c.as_slice-2.result.now snapshot.kept
    c.as_slice.ensures c.as_slice-2.ensures (c.are_kept.ensures.0 c.if-not-are_kept.false) in
    let kept_is = c.in_ok-kept.ensures
    ∙ ap (λ (s : List Space). kept_in_rows s c.into_vec.result.items) c.as_slice-3.ensures
    ∙ ap (kept_in_rows snapshot.ipc.spaces) c.into_vec.ensures in
    restored_same snapshot c.in_ok-state.state.current c.in_ok-state.ensures.same c.in_ok-kept.kept are kept_is

pub returns-clause-lawful : goal.returns-clause-lawful
returns-clause-lawful c =
    let snapshot = c.args.snapshot in
    lawful_snapshot snapshot c.in_ok-state.ensures.valid
    (same_rows c.as_slice.result.now snapshot.ipc.spaces c.as_slice-2.result.now snapshot.kept c.as_slice.ensures
    c.as_slice-2.ensures (c.are_kept.ensures.0 c.if-not-are_kept.false))
