use Rattle.std.proofs.Common.{◌∙◌, Err, ap, false, inl, inr, sym, subst, true}
use Rattle.std.proofs.lemmas.Result.{err_from_is_err_and}
use Rattle.disk.specs.Slots.{Slots}
use Rattle.ipc_model.specs.store.Recovery.{Recovered}
use Rattle.recover.specs.Headers.{Says}
use Rattle.store_layout.specs.Gates.{HaveLastGates}
use Rattle.recover.specs.Surveyed.{IsInUse as Uses, IsUnused, Surveys}
use Rattle.store_layout.specs.Standing.{as_written}
use Rattle.recover.proofs.Faults.{counts_device, counts_other, counts_then, device_no_damage, never_version, one_of_four, opens_device, opens_nothing, opens_then}
use Rattle.recover.proofs.Joined.{leaves_same}
use Rattle.recover.proofs.opening.load.Goals as goal

pub returns-in_err-survey_store-clause-damaged : goal.returns-in_err-survey_store-clause-damaged
returns-in_err-survey_store-clause-damaged g c = λ honest reported.
    let p =
    err_from_is_err_and c.from_residual-in_err-survey_store.result c.from_residual-in_err-survey_store.ensures.1 in
    let seen = (g.D.Disk.view c.args.disk.now).seen in
    let said = c.in_ok-headers.ensures.said honest in (
      c.in_err-survey_store.ensures.no_other seen said (cc (p.1, p.2, reported)),
      λ state found. c.in_err-survey_store.ensures.damaged seen said
          (cc (p.1, p.2, reported)) found.base found.records found.encoded,
    )

pub begin-requires-clause-unused : goal.begin-requires-clause-unused
begin-requires-clause-unused g c = λ honest.
    let seen = (g.D.Disk.view c.args.disk.now).seen in
    subst IsUnused (sym (c.in_ok-headers.ensures.seen honest))
    (subst (Surveys seen) c.in-New.is
    (c.in_ok-survey_store.ensures.surveyed seen (c.in_ok-headers.ensures.said honest)))

pub begin-requires-clause-says : goal.begin-requires-clause-says
begin-requires-clause-says g c = λ honest.
    subst (λ (s : Slots). Says 16 s.segment0 c.in_ok-headers.headers.segment0)
    (sym (c.in_ok-headers.ensures.seen honest)) (c.in_ok-headers.ensures.said honest).segment0

pub go_on_next-requires-clause-used : goal.go_on_next-requires-clause-used
go_on_next-requires-clause-used g c = λ honest.
    let seen = (g.D.Disk.view c.args.disk.now).seen in
    let way = c.in-InUse-default-true in
    subst (λ (s : Slots). Uses s way.epoch true) (sym (c.in_ok-headers.ensures.seen honest))
    (subst (Uses seen way.epoch) way.follows-test
    (subst (Surveys seen) way.is (c.in_ok-survey_store.ensures.surveyed seen
    (c.in_ok-headers.ensures.said honest))))

pub go_on-requires-clause-used : goal.go_on-requires-clause-used
go_on-requires-clause-used g c = λ honest.
    let seen = (g.D.Disk.view c.args.disk.now).seen in
    let way = c.in-InUse-default-false in
    subst (λ (s : Slots). Uses s way.epoch false) (sym (c.in_ok-headers.ensures.seen honest))
    (subst (Uses seen way.epoch) way.follows-test
    (subst (Surveys seen) way.is (c.in_ok-survey_store.ensures.surveyed seen
    (c.in_ok-headers.ensures.said honest))))

pub returns-in-New-clause-damaged : goal.returns-in-New-clause-damaged
returns-in-New-clause-damaged g c = λ honest reported.
    let seen = (g.D.Disk.view c.args.disk.now).seen in (
      c.in_ok-survey_store.ensures.one_version seen (c.in_ok-headers.ensures.said honest),
      λ state found. c.begin.ensures.damaged honest reported state
          (subst (λ (s : Slots). Recovered (as_written s) state) (sym (c.in_ok-headers.ensures.seen honest)) found),
    )

pub returns-in-New-clause-any_moment : goal.returns-in-New-clause-any_moment
returns-in-New-clause-any_moment g c = λ honest gates.
    let same = c.in_ok-headers.ensures.seen honest in
    leaves_same (g.D.Disk.view c.args.disk.now) (g.D.Disk.view c.read_synced.new.disk) (g.D.Disk.view c.begin.new.disk)
    (c.read_synced.ensures.time honest) same
    (c.begin.ensures.any_moment honest (subst HaveLastGates (sym same) gates))

pub returns-in-InUse-default-true-clause-damaged : goal.returns-in-InUse-default-true-clause-damaged
returns-in-InUse-default-true-clause-damaged g c = λ honest reported.
    let seen = (g.D.Disk.view c.args.disk.now).seen in (
      c.in_ok-survey_store.ensures.one_version seen (c.in_ok-headers.ensures.said honest),
      λ state found. c.go_on_next.ensures.damaged honest reported state
          (subst (λ (s : Slots). Recovered (as_written s) state) (sym (c.in_ok-headers.ensures.seen honest)) found),
    )

pub returns-in-InUse-default-true-clause-any_moment : goal.returns-in-InUse-default-true-clause-any_moment
returns-in-InUse-default-true-clause-any_moment g c = λ honest gates.
    let same = c.in_ok-headers.ensures.seen honest in
    leaves_same (g.D.Disk.view c.args.disk.now) (g.D.Disk.view c.read_synced.new.disk)
    (g.D.Disk.view c.go_on_next.new.disk) (c.read_synced.ensures.time honest) same
    (c.go_on_next.ensures.any_moment honest (subst HaveLastGates (sym same) gates))

pub returns-in-InUse-default-false-clause-damaged : goal.returns-in-InUse-default-false-clause-damaged
returns-in-InUse-default-false-clause-damaged g c = λ honest reported.
    let seen = (g.D.Disk.view c.args.disk.now).seen in (
      c.in_ok-survey_store.ensures.one_version seen (c.in_ok-headers.ensures.said honest),
      λ state found. c.go_on.ensures.damaged honest reported state
          (subst (λ (s : Slots). Recovered (as_written s) state) (sym (c.in_ok-headers.ensures.seen honest)) found),
    )

pub returns-in-InUse-default-false-clause-any_moment : goal.returns-in-InUse-default-false-clause-any_moment
returns-in-InUse-default-false-clause-any_moment g c = λ honest gates.
    let same = c.in_ok-headers.ensures.seen honest in
    leaves_same (g.D.Disk.view c.args.disk.now) (g.D.Disk.view c.read_synced.new.disk) (g.D.Disk.view c.go_on.new.disk)
    (c.read_synced.ensures.time honest) same
    (c.go_on.ensures.any_moment honest (subst HaveLastGates (sym same) gates))

pub returns-in-New-clause-version : goal.returns-in-New-clause-version
returns-in-New-clause-version g c =
    λ honest reported. absurd (never_version c.begin.result c.begin.ensures.faults reported)

pub returns-in-New-clause-faults : goal.returns-in-New-clause-faults
returns-in-New-clause-faults g c = one_of_four c.begin.result c.begin.ensures.faults

pub returns-in-InUse-default-true-clause-version : goal.returns-in-InUse-default-true-clause-version
returns-in-InUse-default-true-clause-version g c =
    λ honest reported. absurd (never_version c.go_on_next.result c.go_on_next.ensures.faults reported)

pub returns-in-InUse-default-true-clause-faults : goal.returns-in-InUse-default-true-clause-faults
returns-in-InUse-default-true-clause-faults g c = one_of_four c.go_on_next.result c.go_on_next.ensures.faults

pub returns-in-InUse-default-false-clause-version : goal.returns-in-InUse-default-false-clause-version
returns-in-InUse-default-false-clause-version g c =
    λ honest reported. absurd (never_version c.go_on.result c.go_on.ensures.faults reported)

pub returns-in-InUse-default-false-clause-faults : goal.returns-in-InUse-default-false-clause-faults
returns-in-InUse-default-false-clause-faults g c = one_of_four c.go_on.result c.go_on.ensures.faults

pub returns-in_err-headers-clause-damaged : goal.returns-in_err-headers-clause-damaged
returns-in_err-headers-clause-damaged g c =
    λ honest reported. let p = err_from_is_err_and c.from_residual.result c.from_residual.ensures.1 in
    absurd (device_no_damage c.from_residual.result (p.1 ∙ ap Err p.2) reported)

pub returns-in-New-clause-opened : goal.returns-in-New-clause-opened
returns-in-New-clause-opened g c = λ honest.
    opens_then _ _ _ c.begin.result
    (record { seen = c.in_ok-headers.ensures.seen honest; time = c.read_synced.ensures.time honest })
    (c.begin.ensures.opened honest)

pub returns-in-New-clause-failures : goal.returns-in-New-clause-failures
returns-in-New-clause-failures g c =
    counts_then _ _ _ c.begin.result c.in_ok-headers.ensures.failures.ok c.begin.ensures.failures

pub returns-in-InUse-default-true-clause-opened : goal.returns-in-InUse-default-true-clause-opened
returns-in-InUse-default-true-clause-opened g c = λ honest.
    opens_then _ _ _ c.go_on_next.result
    (record { seen = c.in_ok-headers.ensures.seen honest; time = c.read_synced.ensures.time honest })
    (c.go_on_next.ensures.opened honest)

pub returns-in-InUse-default-true-clause-failures : goal.returns-in-InUse-default-true-clause-failures
returns-in-InUse-default-true-clause-failures g c =
    counts_then _ _ _ c.go_on_next.result c.in_ok-headers.ensures.failures.ok c.go_on_next.ensures.failures

pub returns-in-InUse-default-false-clause-opened : goal.returns-in-InUse-default-false-clause-opened
returns-in-InUse-default-false-clause-opened g c = λ honest.
    opens_then _ _ _ c.go_on.result
    (record { seen = c.in_ok-headers.ensures.seen honest; time = c.read_synced.ensures.time honest })
    (c.go_on.ensures.opened honest)

pub returns-in-InUse-default-false-clause-failures : goal.returns-in-InUse-default-false-clause-failures
returns-in-InUse-default-false-clause-failures g c =
    counts_then _ _ _ c.go_on.result c.in_ok-headers.ensures.failures.ok c.go_on.ensures.failures

pub returns-in_err-headers-clause-opened : goal.returns-in_err-headers-clause-opened
returns-in_err-headers-clause-opened g c = λ honest.
    let p = err_from_is_err_and c.from_residual.result c.from_residual.ensures.1 in
    opens_device _ _ c.from_residual.result (p.1 ∙ ap Err p.2)

pub returns-in_err-headers-clause-failures : goal.returns-in_err-headers-clause-failures
returns-in_err-headers-clause-failures g c =
    let p = err_from_is_err_and c.from_residual.result c.from_residual.ensures.1 in
    counts_device _ _ c.from_residual.result (p.1 ∙ ap Err p.2) c.in_err-headers.ensures.failures.err

pub returns-in_err-survey_store-clause-opened : goal.returns-in_err-survey_store-clause-opened
returns-in_err-survey_store-clause-opened g c = λ honest.
    let p =
    err_from_is_err_and c.from_residual-in_err-survey_store.result c.from_residual-in_err-survey_store.ensures.1 in
    opens_nothing _ _ c.from_residual-in_err-survey_store.result _ (p.1 ∙ ap Err p.2)
    (record { seen = c.in_ok-headers.ensures.seen honest; time = c.read_synced.ensures.time honest })

pub returns-in_err-survey_store-clause-failures : goal.returns-in_err-survey_store-clause-failures
returns-in_err-survey_store-clause-failures g c =
    let p =
    err_from_is_err_and c.from_residual-in_err-survey_store.result c.from_residual-in_err-survey_store.ensures.1 in
    counts_other _ _ c.from_residual-in_err-survey_store.result _ (p.1 ∙ ap Err p.2)
    (λ reported. elim c.in_err-survey_store.ensures.faults [
      | inl version ↦ cc (version, reported)
      | inr damaged ↦ cc (damaged, reported)
    ])
    c.in_ok-headers.ensures.failures.ok
