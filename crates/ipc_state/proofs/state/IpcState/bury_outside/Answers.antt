use Rattle.std.proofs.Common.{ap, ◌∙◌}
use Rattle.ipc_state.specs.Members.{set_in}
use Rattle.ipc_state.specs.Running.{Running}
use Rattle.ipc_state.proofs.Kept.{port_buried}
use Rattle.ipc_state.proofs.state.IpcState.bury_outside.Goals as goal

pub invariant_of-self : goal.invariant_of-self
invariant_of-self c =
    port_buried c.self.inside.spaces c.bury_in_both.new.spaces c.self.inside.ports c.bury_in_both.new.ports
    c.self.inside.members c.args.serial
    (ap (λ (r : Running). set_in r.current.ports c.args.serial) c.self.view_is ∙ c.requires.outside)
    c.in-Ok.ensures.spaces c.in-Ok.ensures.ports c.self.invariant
