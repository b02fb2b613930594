use Rattle.std.proofs.Common.{◌≡◌, map, take}
use Rattle.ipc_model.specs.state.Ipc.{type_of}
use Rattle.port_calls.proofs.reads.named_types.Given as goal

abbrev pub invariant-loop-name : goal.invariant-loop-name
invariant-loop-name l =
    l.types.items ≡ map (λ e. record { name = e.0; bits = type_of e.1 }) (take l.name-index l.name-items)
