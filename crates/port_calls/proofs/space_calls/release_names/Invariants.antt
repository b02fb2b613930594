use Rattle.std.proofs.Common.{◌≡◌, ◌++◌, take}
use Rattle.std.specs.Prelude.{flat_map}
use Rattle.ipc_model.specs.calls.Actions.{effects_of_name}
use Rattle.port_calls.proofs.space_calls.release_names.Given as goal

abbrev pub invariant-loop-name : goal.invariant-loop-name
invariant-loop-name l =
    l.effects ≡ l.initial.effects ++ flat_map (λ e. effects_of_name e.0 e.1) (take l.name-index l.name-items)
