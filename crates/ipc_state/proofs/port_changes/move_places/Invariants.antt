use Rattle.std.proofs.Common.{◌≡◌, ◌-◌, ◌≤◌, ◌^◌}
use Rattle.ipc_state.proofs.Kept.{MovesTo}
use Rattle.ipc_state.proofs.port_changes.move_places.Given as goal

abbrev pub decreases-loop-place : goal.decreases-loop-place
decreases-loop-place l = 2 ^ 64 - l.at

-- the places below are updated
abbrev pub invariant-loop-place : goal.invariant-loop-place
invariant-loop-place l =
    (l.at ≤ 2 ^ 64)
    × (l.members.before ≡ l.initial.members.before)
    × MovesTo l.spaces.current l.serial l.former l.set l.initial.members.current l.at l.members.current
