-- Which calls a plan lets through.
use Rattle.std.specs.Prelude.{◌≢◌, ◌<◌, None, MatchOption, ⊤}
use Rattle.disk.specs.declared.plan.Plan.{Plan}
use Rattle.disk.specs.declared.plan.Torn.TheVariants.{Old}

-- no call fails
abbrev pub no_plan : Plan
no_plan = record { stop_at = None; fail_at = None; torn = Old; calls = 0 }

-- the call counted last comes before the crash, and isn't the one that fails
abbrev pub IsAdmitted : Plan → Type 0
IsAdmitted plan =
    MatchOption plan.stop_at ⊤ (λ stop_at. plan.calls < stop_at)
    × MatchOption plan.fail_at ⊤ (λ fail_at. plan.calls ≢ fail_at)
