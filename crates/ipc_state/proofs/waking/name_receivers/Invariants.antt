use Rattle.std.proofs.Common.{◌≡◌, ℕ, ◌-◌, ◌<◌, ◌≤◌, ◌^◌, true}
use Rattle.ipc_model.specs.state.Ipc.{is_number, received_port}
use Rattle.ipc_state.specs.Waking.{IsListedFor}
use Rattle.spaces.specs.Looking.{at_place}
use Rattle.waiting.specs.Places.{IsMore, names}
use Rattle.ipc_state.proofs.waking.name_receivers.Given as goal

abbrev pub decreases-loop-place : goal.decreases-loop-place
decreases-loop-place l = 2 ^ 64 - l.at

-- the receivers below are reported
abbrev pub invariant-loop-place : goal.invariant-loop-place
invariant-loop-place l =
    (l.at ≤ 2 ^ 64) × IsMore l.initial.places l.places
    × ((number : ℕ) → number < l.at → is_number (at_place received_port l.spaces.current number) l.serial ≡ true
    → IsListedFor (names l.places) l.numbers.set l.has_messages number)
