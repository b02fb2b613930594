use Rattle.std.proofs.Common.{ap, sym, subst, ◌∙◌}
use Rattle.std.proofs.lemmas.Result.{err_from_is_err_and}
use Rattle.disk.proofs.Moments.{reads_only, reads_then}
use Rattle.disk.specs.Moments.{one_more}
use Rattle.disk.specs.Slots.{Slots}
use Rattle.ipc_model.specs.store.Recovery.{Recovered}
use Rattle.recover.specs.Found.{Reads}
use Rattle.recover.specs.Headers.{Says}
use Rattle.recover.specs.Surveyed.{IsInUse as Uses, IsUnused, Surveys}
use Rattle.store_layout.specs.Standing.{as_written}
use Rattle.recover.proofs.Faults.{none_at_error, none_in_error}
use Rattle.recover.proofs.looking.find.Goals as goal

pub returns-in_err-survey_store-clause-damaged : goal.returns-in_err-survey_store-clause-damaged
returns-in_err-survey_store-clause-damaged g c = λ honest reported.
    let p =
    err_from_is_err_and c.from_residual-in_err-survey_store.result c.from_residual-in_err-survey_store.ensures.1 in
    let seen = (g.D.Disk.view c.args.disk.now).seen in
    let said = c.in_ok-headers.ensures.said honest in (
      c.in_err-survey_store.ensures.no_other seen said (cc (p.1, p.2, reported)),
      λ state found. c.in_err-survey_store.ensures.damaged seen said
          (cc (p.1, p.2, reported)) found.base found.records found.encoded,
    )

pub look_new-requires-clause-unused : goal.look_new-requires-clause-unused
look_new-requires-clause-unused g c = λ honest.
    let seen = (g.D.Disk.view c.args.disk.now).seen in
    subst IsUnused (sym (c.in_ok-headers.ensures.seen honest))
    (subst (Surveys seen) c.in-New.is
    (c.in_ok-survey_store.ensures.surveyed seen (c.in_ok-headers.ensures.said honest)))

pub look_new-requires-clause-says : goal.look_new-requires-clause-says
look_new-requires-clause-says g c = λ honest.
    subst (λ (s : Slots). Says 16 s.segment0 c.in_ok-headers.headers.segment0)
    (sym (c.in_ok-headers.ensures.seen honest)) (c.in_ok-headers.ensures.said honest).segment0

pub returns-in_err-kernel-in-New-clause-damaged : goal.returns-in_err-kernel-in-New-clause-damaged
returns-in_err-kernel-in-New-clause-damaged g c = λ honest reported.
    let p =
    err_from_is_err_and c.from_residual-in_err-kernel-in-New.result c.from_residual-in_err-kernel-in-New.ensures.1
    in
    let seen = (g.D.Disk.view c.args.disk.now).seen in (
      c.in_ok-survey_store.ensures.one_version seen (c.in_ok-headers.ensures.said honest),
      λ state found. c.in_err-kernel-in-New.ensures.damaged honest (cc (p.1, p.2, reported)) state
          (subst (λ (s : Slots). Recovered (as_written s) state) (sym (c.in_ok-headers.ensures.seen honest)) found),
    )

pub look_in_use-requires-clause-used : goal.look_in_use-requires-clause-used
look_in_use-requires-clause-used g c = λ honest.
    let seen = (g.D.Disk.view c.args.disk.now).seen in
    subst (λ (s : Slots). Uses s c.in-InUse.epoch c.in-InUse.follows) (sym (c.in_ok-headers.ensures.seen honest))
    (subst (Surveys seen) c.in-InUse.is
    (c.in_ok-survey_store.ensures.surveyed seen (c.in_ok-headers.ensures.said honest)))

pub returns-in_err-kernel-in-InUse-clause-damaged : goal.returns-in_err-kernel-in-InUse-clause-damaged
returns-in_err-kernel-in-InUse-clause-damaged g c = λ honest reported.
    let p =
    err_from_is_err_and c.from_residual-in_err-kernel-in-InUse.result
    c.from_residual-in_err-kernel-in-InUse.ensures.1 in
    let seen = (g.D.Disk.view c.args.disk.now).seen in (
      c.in_ok-survey_store.ensures.one_version seen (c.in_ok-headers.ensures.said honest),
      λ state found. c.in_err-kernel-in-InUse.ensures.damaged honest (cc (p.1, p.2, reported)) state
          (subst (λ (s : Slots). Recovered (as_written s) state) (sym (c.in_ok-headers.ensures.seen honest)) found),
    )

pub returns-in_ok-kernel-in-New-clause-reads : goal.returns-in_ok-kernel-in-New-clause-reads
returns-in_ok-kernel-in-New-clause-reads g c = λ honest.
    subst (λ (s : Slots). Reads s 0 0 c.in_ok-kernel-in-New.kernel) (c.in_ok-headers.ensures.seen honest)
    (c.in_ok-kernel-in-New.ensures.reads honest)

pub returns-in_ok-kernel-in-InUse-clause-reads : goal.returns-in_ok-kernel-in-InUse-clause-reads
returns-in_ok-kernel-in-InUse-clause-reads g c = λ honest.
    subst (λ (s : Slots). Reads s c.in-InUse.epoch c.in_ok-kernel-in-InUse.records c.in_ok-kernel-in-InUse.kernel)
    (c.in_ok-headers.ensures.seen honest) (c.in_ok-kernel-in-InUse.ensures.reads honest)

pub returns-in_err-headers-clause-reads : goal.returns-in_err-headers-clause-reads
returns-in_err-headers-clause-reads g c =
    λ honest. let p = err_from_is_err_and c.from_residual.result c.from_residual.ensures.1 in
    none_in_error _ c.from_residual.result _ p.1

pub returns-in_err-headers-clause-quiet : goal.returns-in_err-headers-clause-quiet
returns-in_err-headers-clause-quiet g c =
    let p = err_from_is_err_and c.from_residual.result c.from_residual.ensures.1 in
    none_at_error _ c.from_residual.result _ p.1

pub returns-in_err-headers-clause-reads_only : goal.returns-in_err-headers-clause-reads_only
returns-in_err-headers-clause-reads_only g c =
    λ honest. reads_only _ _ (c.read_headers.ensures.seen honest) (c.read_headers.ensures.time honest)

pub returns-in_err-survey_store-clause-reads : goal.returns-in_err-survey_store-clause-reads
returns-in_err-survey_store-clause-reads g c =
    λ honest. let p = err_from_is_err_and c.from_residual-in_err-survey_store.result
    c.from_residual-in_err-survey_store.ensures.1 in
    none_in_error _ c.from_residual-in_err-survey_store.result _ p.1

pub returns-in_err-survey_store-clause-quiet : goal.returns-in_err-survey_store-clause-quiet
returns-in_err-survey_store-clause-quiet g c =
    let p = err_from_is_err_and c.from_residual-in_err-survey_store.result c.from_residual-in_err-survey_store.ensures.1
    in none_at_error _ c.from_residual-in_err-survey_store.result _ p.1

pub returns-in_err-survey_store-clause-reads_only : goal.returns-in_err-survey_store-clause-reads_only
returns-in_err-survey_store-clause-reads_only g c =
    λ honest. reads_only _ _ (c.in_ok-headers.ensures.seen honest) (c.in_ok-headers.ensures.time honest)

pub returns-in_err-kernel-in-New-clause-reads : goal.returns-in_err-kernel-in-New-clause-reads
returns-in_err-kernel-in-New-clause-reads g c =
    λ honest. let p = err_from_is_err_and c.from_residual-in_err-kernel-in-New.result
    c.from_residual-in_err-kernel-in-New.ensures.1 in
    none_in_error _ c.from_residual-in_err-kernel-in-New.result _ p.1

pub returns-in_err-kernel-in-New-clause-quiet : goal.returns-in_err-kernel-in-New-clause-quiet
returns-in_err-kernel-in-New-clause-quiet g c =
    let p = err_from_is_err_and c.from_residual-in_err-kernel-in-New.result
    c.from_residual-in_err-kernel-in-New.ensures.1 in
    none_at_error _ c.from_residual-in_err-kernel-in-New.result _ p.1

pub returns-in_err-kernel-in-New-clause-reads_only : goal.returns-in_err-kernel-in-New-clause-reads_only
returns-in_err-kernel-in-New-clause-reads_only g c =
    λ honest. reads_then _ _ _ (reads_only _ _ (c.in_ok-headers.ensures.seen honest) (c.in_ok-headers.ensures.time honest))
    (c.look_new.ensures.reads_only honest)

pub returns-in_err-kernel-in-InUse-clause-reads : goal.returns-in_err-kernel-in-InUse-clause-reads
returns-in_err-kernel-in-InUse-clause-reads g c =
    λ honest. let p = err_from_is_err_and c.from_residual-in_err-kernel-in-InUse.result
    c.from_residual-in_err-kernel-in-InUse.ensures.1 in
    none_in_error _ c.from_residual-in_err-kernel-in-InUse.result _ p.1

pub returns-in_err-kernel-in-InUse-clause-quiet : goal.returns-in_err-kernel-in-InUse-clause-quiet
returns-in_err-kernel-in-InUse-clause-quiet g c =
    let p = err_from_is_err_and c.from_residual-in_err-kernel-in-InUse.result
    c.from_residual-in_err-kernel-in-InUse.ensures.1 in
    none_at_error _ c.from_residual-in_err-kernel-in-InUse.result _ p.1

pub returns-in_err-kernel-in-InUse-clause-reads_only : goal.returns-in_err-kernel-in-InUse-clause-reads_only
returns-in_err-kernel-in-InUse-clause-reads_only g c =
    λ honest. reads_then _ _ _ (reads_only _ _ (c.in_ok-headers.ensures.seen honest) (c.in_ok-headers.ensures.time honest))
    (c.look_in_use.ensures.reads_only honest)

pub returns-in_ok-kernel-in-New-clause-reads_only : goal.returns-in_ok-kernel-in-New-clause-reads_only
returns-in_ok-kernel-in-New-clause-reads_only g c =
    λ honest. reads_then _ _ _ (reads_only _ _ (c.in_ok-headers.ensures.seen honest) (c.in_ok-headers.ensures.time honest))
    (c.look_new.ensures.reads_only honest)

pub returns-in_ok-kernel-in-InUse-clause-reads_only : goal.returns-in_ok-kernel-in-InUse-clause-reads_only
returns-in_ok-kernel-in-InUse-clause-reads_only g c =
    λ honest. reads_then _ _ _ (reads_only _ _ (c.in_ok-headers.ensures.seen honest) (c.in_ok-headers.ensures.time honest))
    (c.look_in_use.ensures.reads_only honest)

pub returns-in_err-kernel-in-New-clause-device : goal.returns-in_err-kernel-in-New-clause-device
returns-in_err-kernel-in-New-clause-device g c = λ reported.
    let p =
    err_from_is_err_and c.from_residual-in_err-kernel-in-New.result c.from_residual-in_err-kernel-in-New.ensures.1
    in
    c.in_err-kernel-in-New.ensures.failures.device (cc (p.1, p.2, reported))
    ∙ ap one_more c.in_ok-headers.ensures.failures.ok

pub returns-in_err-kernel-in-InUse-clause-device : goal.returns-in_err-kernel-in-InUse-clause-device
returns-in_err-kernel-in-InUse-clause-device g c = λ reported.
    let p =
    err_from_is_err_and c.from_residual-in_err-kernel-in-InUse.result
    c.from_residual-in_err-kernel-in-InUse.ensures.1 in
    c.in_err-kernel-in-InUse.ensures.failures.device (cc (p.1, p.2, reported))
    ∙ ap one_more c.in_ok-headers.ensures.failures.ok

pub returns-in_ok-kernel-in-New-clause-quiet : goal.returns-in_ok-kernel-in-New-clause-quiet
returns-in_ok-kernel-in-New-clause-quiet g c =
    c.in_ok-kernel-in-New.ensures.failures.quiet ∙ c.in_ok-headers.ensures.failures.ok

pub returns-in_ok-kernel-in-InUse-clause-quiet : goal.returns-in_ok-kernel-in-InUse-clause-quiet
returns-in_ok-kernel-in-InUse-clause-quiet g c =
    c.in_ok-kernel-in-InUse.ensures.failures.quiet ∙ c.in_ok-headers.ensures.failures.ok
