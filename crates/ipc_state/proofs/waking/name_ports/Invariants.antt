use Rattle.std.proofs.Common.{◌≡◌, ◌⊎◌, ℕ, true, length}
use Rattle.ipc_state.specs.Waking.{IsPortListed}
use Rattle.tracked_map.specs.Touched.{is_touched}
use Rattle.waiting.specs.Places.{IsMore, names}
use Rattle.ipc_state.proofs.waking.name_ports.Given as goal

-- each changed port is reported or still to be handled
abbrev pub invariant-loop-serial : goal.invariant-loop-serial
invariant-loop-serial l =
    IsMore l.initial.places l.places
    × ((serial : ℕ) → is_touched serial l.initial.rest ≡ true → (is_touched serial l.rest ≡ true)
    ⊎ IsPortListed (names l.places) l.spaces.current l.ports.current.ports serial)

abbrev pub decreases-loop-serial : goal.decreases-loop-serial
decreases-loop-serial l = length l.rest
