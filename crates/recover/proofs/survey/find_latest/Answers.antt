use Rattle.std.proofs.Common.{sym, subst}
use Rattle.recover.specs.Surveyed.{IsLatest, IsNoLater}
use Rattle.recover.proofs.survey.find_latest.Goals as goal

pub returns-then-other-epoch : goal.returns-then-other-epoch
returns-then-other-epoch c =
    (c.in-Some-Some.is-0, subst (IsLatest c.in-Some-Some.epoch) (sym c.in-Some-Some.is-1) c.if-other-epoch.true)

pub returns-else-other-epoch : goal.returns-else-other-epoch
returns-else-other-epoch c =
    (c.in-Some-Some.is-1, subst (IsNoLater c.in-Some-Some.other) (sym c.in-Some-Some.is-0) c.if-other-epoch.false)
