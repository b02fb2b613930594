use Rattle.std.proofs.Common.{ap, arith}
use Rattle.ipc_model.specs.declared.message.RightKind.TheVariants as kind
use Rattle.ipc_model.specs.state.Placed.{count_of}
use Rattle.ipc_state.specs.Counts.{counted_apart}
use Rattle.ipc_state.specs.Members.{state_of}
use Rattle.ipc_state.specs.Running.{Running}
use Rattle.ipc_state.proofs.state.IpcState.send_count.Goals as goal

pub returns : goal.returns
returns c =
    let whole =
    counted_apart kind.Send (state_of c.self.inside.spaces.current c.self.inside.ports.current) c.args.serial in
    let seen = ap (λ (r : Running). count_of kind.Send r.current c.args.serial) c.self.view_is in
    omega (arith, c.sends.ensures.value, c.sends-2.ensures.value, whole, seen)
