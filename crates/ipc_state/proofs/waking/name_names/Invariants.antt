use Rattle.std.proofs.Common.{◌≡◌, ◌⊎◌, ℕ, true, length}
use Rattle.ipc_state.specs.Waking.{IsSetListed}
use Rattle.tracked_map.specs.Touched.{is_touched}
use Rattle.waiting.specs.Places.{names}
use Rattle.ipc_state.proofs.waking.name_names.Given as goal

-- each changed place is reported or still to be handled
abbrev pub invariant-loop-place : goal.invariant-loop-place
invariant-loop-place l =
    (number : ℕ) → is_touched number l.initial.rest ≡ true → (is_touched number l.rest ≡ true)
    ⊎ IsSetListed (names l.places) l.spaces.current l.ports.current.ports number

abbrev pub decreases-loop-place : goal.decreases-loop-place
decreases-loop-place l = length l.rest
