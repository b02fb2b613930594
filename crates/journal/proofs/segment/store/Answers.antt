use Rattle.std.proofs.Common.{ℕ, ◌+◌, ◌∙◌, length, subst, arith}
use Rattle.std.proofs.lemmas.Result.{err_from_is_err_and}
use Rattle.disk.specs.Moments.{CountsFailure}
use Rattle.slot_steps.proofs.Lengths.{always}
use Rattle.journal.proofs.Storing.{batch_written, counted_error, storing_encoding, storing_sync, storing_whole}
use Rattle.journal.proofs.segment.store.Goals as goal

pub returns-in_err-write_at-clause-any_moment : goal.returns-in_err-write_at-clause-any_moment
returns-in_err-write_at-clause-any_moment g c = λ honest synced.
    let old = g.D.Disk.view c.args.disk.now in
    let some = c.requires honest in
    let long = c.length.ensures honest in
    (storing_encoding old (g.D.Disk.view c.write_at.new.self) c.args.slot c.args.encoding.now
    (c.saturating_sub-gate.result + 1) (length c.args.encoding.now) synced (omega arith)
    (c.write_at.ensures.time honest)).time

pub returns-in_err-sync-clause-any_moment : goal.returns-in_err-sync-clause-any_moment
returns-in_err-sync-clause-any_moment g c = λ honest synced.
    let old = g.D.Disk.view c.args.disk.now in
    let some = c.requires honest in
    let long = c.length.ensures honest in
    (storing_sync old (g.D.Disk.view c.write_at.new.self)
    (g.D.Disk.view c.sync.new.self) c.args.slot c.args.encoding.now
    (storing_encoding old (g.D.Disk.view c.write_at.new.self) c.args.slot c.args.encoding.now
    (c.saturating_sub-gate.result + 1) (length c.args.encoding.now) synced (omega arith)
    (c.write_at.ensures.time honest))
    (c.sync.ensures.time honest)).time

pub returns-in_err-write_at-2-clause-any_moment : goal.returns-in_err-write_at-2-clause-any_moment
returns-in_err-write_at-2-clause-any_moment g c = λ honest synced.
    let some = c.requires honest in
    let long = c.length.ensures honest in
    (storing_whole (g.D.Disk.view c.args.disk.now) (g.D.Disk.view c.write_at.new.self) (g.D.Disk.view c.sync.new.self)
    (g.D.Disk.view c.write_at-2.new.self) c.args.slot c.args.encoding.now c.saturating_sub-gate.result _ synced some
    (omega arith)
    (c.write_at.ensures.time honest) (c.in_ok-write_at.ensures.written honest) (c.sync.ensures.time honest)
    (c.sync.ensures.seen honest) (c.in_ok-sync.ensures.synced honest) (omega arith)
    (c.write_at-2.ensures.time honest)).time

pub returns-clause-any_moment : goal.returns-clause-any_moment
returns-clause-any_moment g c = λ honest synced.
    let some = c.requires honest in
    let long = c.length.ensures honest in
    (storing_sync (g.D.Disk.view c.args.disk.now) (g.D.Disk.view c.write_at-2.new.self)
    (g.D.Disk.view c.sync-2.new.self) c.args.slot c.args.encoding.now
    (storing_whole (g.D.Disk.view c.args.disk.now) (g.D.Disk.view c.write_at.new.self) (g.D.Disk.view c.sync.new.self)
    (g.D.Disk.view c.write_at-2.new.self) c.args.slot c.args.encoding.now c.saturating_sub-gate.result _ synced some
    (omega arith)
    (c.write_at.ensures.time honest) (c.in_ok-write_at.ensures.written honest) (c.sync.ensures.time honest)
    (c.sync.ensures.seen honest) (c.in_ok-sync.ensures.synced honest) (omega arith)
    (c.write_at-2.ensures.time honest))
    (c.sync-2.ensures.time honest)).time

pub returns-clause-synced : goal.returns-clause-synced
returns-clause-synced g c = c.sync-2.ensures.synced

pub returns-in_err-sync-clause-failures : goal.returns-in_err-sync-clause-failures
returns-in_err-sync-clause-failures g c =
    let p = err_from_is_err_and c.from_residual-in_err-sync.result c.from_residual-in_err-sync.ensures.1 in
    counted_error _ _ _ c.from_residual-in_err-sync.result _ p.1 c.in_ok-write_at.ensures.failures.ok
    c.in_err-sync.ensures.failures.err

pub returns-in_err-write_at-2-clause-failures : goal.returns-in_err-write_at-2-clause-failures
returns-in_err-write_at-2-clause-failures g c =
    let p = err_from_is_err_and c.from_residual-in_err-write_at-2.result c.from_residual-in_err-write_at-2.ensures.1 in
    counted_error _ _ _ c.from_residual-in_err-write_at-2.result _ p.1
    (c.in_ok-sync.ensures.failures.ok ∙ c.in_ok-write_at.ensures.failures.ok)
    c.in_err-write_at-2.ensures.failures.err

pub returns-clause-failures : goal.returns-clause-failures
returns-clause-failures g c =
    subst (λ (n : ℕ). CountsFailure n (g.D.Disk.failed_calls c.sync-2.new.self) c.sync-2.result)
    (c.in_ok-write_at-2.ensures.failures.ok ∙ c.in_ok-sync.ensures.failures.ok ∙ c.in_ok-write_at.ensures.failures.ok)
    c.sync-2.ensures.failures

pub returns-clause-stored : goal.returns-clause-stored
returns-clause-stored g c = λ honest.
    let some = c.requires honest in
    let long = c.length.ensures honest in
    always c.sync-2.result
    (batch_written c.args.slot (g.D.Disk.view c.args.disk.now).seen (g.D.Disk.view c.write_at.new.self).seen
    (g.D.Disk.view c.sync.new.self).seen (g.D.Disk.view c.write_at-2.new.self).seen
    (g.D.Disk.view c.sync-2.new.self).seen
    c.args.encoding.now c.saturating_sub-gate.result _ some (omega arith)
    (c.in_ok-write_at.ensures.written honest) (c.sync.ensures.seen honest) (c.in_ok-write_at-2.ensures.written honest)
    (c.sync-2.ensures.seen honest))
