use Rattle.std.proofs.Common.{ap, sym, refl}
use Rattle.ipc_state.specs.Running.{Running}
use Rattle.ports.specs.Passed.{with_message}
use Rattle.ipc_state.proofs.Kept.{port_changed}
use Rattle.ipc_state.proofs.Alive.{carried_alive}
use Rattle.ipc_state.proofs.state.IpcState.queue_message.Goals as goal

pub push-requires : goal.push-requires
push-requires c =
    carried_alive c.self.inside.ports.current.ports c.args.self.now.current c.args.message
    (sym (ap (λ (r : Running). r.current.ports) c.self.view_is)) c.requires.live

pub invariant_of-self : goal.invariant_of-self
invariant_of-self c =
    port_changed c.self.inside.spaces c.self.inside.ports c.push.new.self c.self.inside.members c.self.invariant
    c.args.serial (with_message c.args.message) (λ p. refl) c.in-Ok.ensures.ok
