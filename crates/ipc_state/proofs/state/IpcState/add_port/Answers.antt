use Rattle.std.proofs.Common.{ap, ◌∙◌}
use Rattle.std.specs.FinMap.{get}
use Rattle.ipc_state.specs.Running.{Running}
use Rattle.ipc_state.proofs.Kept.{port_added}
use Rattle.ipc_state.proofs.state.IpcState.add_port.Goals as goal

pub invariant_of-self : goal.invariant_of-self
invariant_of-self c =
    port_added c.self.inside.spaces c.self.inside.ports c.add.new.self c.self.inside.members c.self.invariant _
    c.in-Ok.ensures.ok (ap (λ (r : Running). get r.current.ports r.current.next) c.self.view_is ∙ c.requires.fresh)
