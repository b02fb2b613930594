use Rattle.std.proofs.Common.{◌≡◌, ◌≤◌, ◌-◌, ◌^◌, ◌++◌}
use Rattle.std.specs.FinMap as map
use Rattle.port_space.specs.Walking.{entries_from}
use Rattle.spaces.specs.Reading.{names_of}
use Rattle.spaces.proofs.spaces.Spaces.entries.Given as goal

-- the entries so far, followed by the remaining ones, are all entries
abbrev pub invariant-loop-name : goal.invariant-loop-name
invariant-loop-name l = record {
  gathered : l.entries.items ++ entries_from (names_of l.self.current l.space) l.at
      ≡ map.entries (names_of l.self.current l.space);
  fits : l.at ≤ 2 ^ 32;
}

abbrev pub decreases-loop-name : goal.decreases-loop-name
decreases-loop-name l = 2 ^ 33 - l.at
