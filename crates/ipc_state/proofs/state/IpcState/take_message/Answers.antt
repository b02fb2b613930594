use Rattle.std.proofs.Common.{refl}
use Rattle.ipc_state.specs.Oldest.{oldest_gone}
use Rattle.ipc_state.proofs.Kept.{port_changed}
use Rattle.ipc_state.proofs.state.IpcState.take_message.Goals as goal

pub invariant_of-self : goal.invariant_of-self
invariant_of-self c =
    port_changed c.self.inside.spaces c.self.inside.ports c.take_and_count.new.ports c.self.inside.members
    c.self.invariant c.args.serial oldest_gone (λ p. refl) c.in-Ok.ensures.ok
