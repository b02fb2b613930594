use Rattle.std.proofs.Common.{◌≡◌, ◌++◌, drop}
use Rattle.std.specs.Prelude.{filter_map}
use Rattle.ipc_model.specs.calls.Actions.{received_serials}
use Rattle.ipc_model.specs.calls.PortCalls.{names_in}
use Rattle.ipc_model.specs.state.Ipc.{received_port}
use Rattle.port_set.proofs.member.received_ports.Given as goal

-- the ports so far, followed by those of the remaining names, are all ports
abbrev pub invariant-loop-entry : goal.invariant-loop-entry
invariant-loop-entry l =
    l.ports.items ++ filter_map (λ e. received_port e.1) (drop l.entry-index l.entry-items)
    ≡ received_serials (names_in l.state.current l.space)
