use Rattle.std.proofs.Common.{◌≡◌, ◌≤◌, ◌-◌, ◌^◌}
use Rattle.spaces.specs.Walks.{Emptied}
use Rattle.spaces.proofs.spaces.Spaces.remove.Given as goal

abbrev pub invariant-loop-name : goal.invariant-loop-name
invariant-loop-name l = record {
  emptied : Emptied l.initial.self.current l.self.current l.space l.at;
  before : l.self.before ≡ l.initial.self.before;
  fits : l.at ≤ 2 ^ 32;
}

abbrev pub decreases-loop-name : goal.decreases-loop-name
decreases-loop-name l = 2 ^ 33 - l.at
