use Rattle.std.proofs.Common.{◌≡◌, ◌<◌, ◌-◌, ◌^◌, ◌++◌}
use Rattle.spaces.specs.Burying.{Buried}
use Rattle.spaces.specs.Walks.{notices_from}
use Rattle.spaces.proofs.spaces.Spaces.bury.Given as goal

abbrev pub invariant-loop-place : goal.invariant-loop-place
invariant-loop-place l = record {
  buried : Buried l.port l.initial.self.current l.self.current l.at;
  notified : l.effects ++ notices_from l.port l.initial.self.current l.at ≡ l.initial.effects
      ++ notices_from l.port l.initial.self.current 0;
  before : l.self.before ≡ l.initial.self.before;
  fits : l.at < 2 ^ 64;
}

abbrev pub decreases-loop-place : goal.decreases-loop-place
decreases-loop-place l = 2 ^ 64 - l.at
