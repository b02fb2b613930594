use Rattle.std.proofs.Common.{ℕ, option_map, ap, ◌∙◌}
use Rattle.std.specs.Prelude.{find}
use Rattle.std.specs.FinMap.{entries}
use Rattle.ipc_model.specs.declared.port.PortState.{PortState}
use Rattle.ipc_model.specs.state.Circular.{carries}
use Rattle.live_ports.specs.PortTable.{TrackedPorts}
use Rattle.ports.specs.Carriers.{carrier_is}
use Rattle.ports.specs.Indexes.{present_parts}
use Rattle.ports.proofs.ports.Ports.carrier.Goals as goal

pub returns : goal.returns
returns c =
    carrier_is c.self.inside.ports.current
    (present_parts c.self.inside.indexes) c.args.serial c.least.result c.self.invariant.1 c.least.ensures
    ∙ ap (λ (t : TrackedPorts). option_map
    (λ (e : ℕ × PortState). e.0) (find
    (λ (e : ℕ × PortState). carries c.args.serial e.1) (entries t.current.ports))) c.self.view_is
