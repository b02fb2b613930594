use Rattle.std.proofs.Common.{ap, ◌∙◌}
use Rattle.ipc_model.specs.declared.entry.Entry.{Entry}
use Rattle.ipc_model.specs.state.Ipc.{name_of_port}
use Rattle.tracked_map.specs.Tracked.{Tracked}
use Rattle.port_space.proofs.Answering.{name_is}
use Rattle.port_space.proofs.Standing.{small_bounded}
use Rattle.port_space.proofs.space.PortSpace.name_of_port.Goals as goal

pub returns : goal.returns
returns c =
    let names = c.self.inside.tables.names.current in
    name_is names c.args.port c.next_name.result (small_bounded names c.self.invariant.1.bounded) c.next_name.ensures
    ∙ ap (λ (t : Tracked Entry). name_of_port t.current c.args.port) c.self.view_is
