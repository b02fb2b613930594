use Rattle.std.proofs.Common.{◌≡◌, drop}
use Rattle.ipc_model.specs.calls.Actions.{with_ports}
use Rattle.port_set.proofs.moves.move_ports.Given as goal

abbrev pub invariant-loop-port : goal.invariant-loop-port
invariant-loop-port l = record {
  moved : with_ports l.state.current (drop l.port-index l.ports) (λ port. record port { set = l.set })
      ≡ with_ports l.initial.state.current l.ports (λ port. record port { set = l.set });
  before : l.state.before ≡ l.initial.state.before;
}
