use Rattle.std.proofs.Common.{◌∙◌, ap}
use Rattle.ipc_laws.specs.SetsKeep.{all_out_spaces}
use Rattle.ipc_model.specs.state.Ipc.{Ipc}
use Rattle.port_calls.proofs.space_calls.leave_sets.Goals as goal

pub returns-clause-spaces : goal.returns-clause-spaces
returns-clause-spaces c =
    ap (λ (s : Ipc). s.spaces) c.in_ok-move_ports.ensures.ok
    ∙ all_out_spaces c.args.state.now.current c.as_slice.result.now
