use Rattle.std.proofs.Common.{ap, ◌∙◌}
use Rattle.ipc_model.specs.state.Ipc.{entry_at}
use Rattle.ipc_state.specs.Running.{Running}
use Rattle.ipc_state.specs.There.{entry_named}
use Rattle.ipc_state.proofs.state.IpcState.entry.Goals as goal

pub returns-clause-named : goal.returns-clause-named
returns-clause-named c =
    c.entry.ensures.value ∙ ap (λ (r : Running). entry_at r.current c.args.space c.args.name) c.self.view_is
    ∙ entry_named c.args.self.now.current c.args.space c.args.name
