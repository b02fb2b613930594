use Rattle.std.proofs.Common.{None, arith}
use Rattle.std.specs.FinMap.{remove}
use Rattle.ipc_model.specs.state.Ipc.{Names}
use Rattle.ipc_state.proofs.Kept.{name_changed, gone_looks}
use Rattle.ipc_state.proofs.state.IpcState.remove_name.Goals as goal

pub invariant_of-self : goal.invariant_of-self
invariant_of-self c =
    name_changed c.self.inside.spaces c.remove_from_both.new.spaces c.self.inside.ports c.self.inside.members
    c.self.invariant c.remove_from_both.new.members c.args.space c.args.name
    (λ (names : Names). remove names c.args.name) None
    (omega (arith, c.ranges.name.fits)) (omega (arith, c.ranges.space.fits))
    (cc (c.if-not-contains.ensures, c.if-not-contains.false))
    (gone_looks c.args.name) c.in-Ok.ensures.spaces c.in-Ok.ensures.members
