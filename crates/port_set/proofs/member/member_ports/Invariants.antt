use Rattle.std.proofs.Common.{◌≡◌, ◌++◌, map, drop}
use Rattle.ipc_model.specs.calls.Actions.{serials_of_members}
use Rattle.ipc_model.specs.calls.PortCalls.{names_in}
use Rattle.port_set.proofs.member.member_ports.Given as goal

-- the ports so far, followed by the remaining ones, are all ports
abbrev pub invariant-loop-port : goal.invariant-loop-port
invariant-loop-port l =
    l.ports.items ++ map (λ m. m.1) (drop l.port-index l.port-items)
    ≡ serials_of_members l.state.current (names_in l.state.current l.space) l.set
