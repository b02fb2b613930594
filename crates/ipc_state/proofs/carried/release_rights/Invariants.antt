use Rattle.std.proofs.Common.{◌≡◌, ◌++◌, flat_map, take}
use Rattle.ipc_model.specs.declared.message.CarriedRight.{CarriedRight}
use Rattle.ipc_model.specs.effects.Effects.{release_of}
use Rattle.ports.specs.Passed.{lives_in, seen_right}
use Rattle.ipc_state.proofs.carried.release_rights.Given as goal

-- the releases appended so far
abbrev pub invariant-loop-right : goal.invariant-loop-right
invariant-loop-right l =
    l.effects ≡ l.initial.effects ++ flat_map
    (λ (r : CarriedRight). release_of (seen_right (lives_in l.ports.current.ports) r)) (take l.right-index l.rights)
