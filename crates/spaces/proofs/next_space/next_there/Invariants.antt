use Rattle.std.proofs.Common.{◌≤◌, ◌-◌, ◌^◌}
use Rattle.spaces.specs.NextSpace.{ArePassed}
use Rattle.spaces.specs.Slots.{is}
use Rattle.tracked_map.specs.Slots.{picked}
use Rattle.spaces.proofs.next_space.next_there.Given as goal

abbrev pub invariant-loop-number : goal.invariant-loop-number
invariant-loop-number l = record {
  passed : ArePassed (picked is l.slots) l.fn.from l.at;
  from_on : l.fn.from ≤ l.at;
}

abbrev pub decreases-loop-number : goal.decreases-loop-number
decreases-loop-number l = 2 ^ 33 - l.at
