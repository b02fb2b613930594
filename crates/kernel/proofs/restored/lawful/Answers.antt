use Rattle.std.proofs.Common.{sym}
use Rattle.kernel.specs.Restoring.{lawful_snapshot, same_rows, snapshot_kept}
use Rattle.kernel.proofs.restored.lawful.Goals as goal

pub returns-then-not-branch : goal.returns-then-not-branch
returns-then-not-branch c = (
  λ no. absurd (cc no),
  λ is. absurd (cc (c.if-not-branch.true, c.in_ok-lawful.ensures.1 (snapshot_kept c.args.snapshot.now is).0)),
)

pub returns : goal.returns
returns c =
    let snapshot = c.args.snapshot.now in (
      λ yes. lawful_snapshot snapshot (c.in_ok-lawful.ensures.0 c.if-not-branch.false)
          (same_rows c.as_slice.result.now snapshot.ipc.spaces c.as_slice-2.result.now snapshot.kept c.as_slice.ensures
          c.as_slice-2.ensures (c.are_kept.ensures.0 yes)),
      λ is. c.are_kept.ensures.1 (same_rows snapshot.ipc.spaces c.as_slice.result.now snapshot.kept
          c.as_slice-2.result.now (sym c.as_slice.ensures) (sym c.as_slice-2.ensures) (snapshot_kept snapshot is).1),
    )
