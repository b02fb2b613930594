use Rattle.std.proofs.Common.{Some, arith}
use Rattle.std.specs.FinMap.{insert}
use Rattle.ipc_model.specs.state.Ipc.{Names}
use Rattle.ipc_state.proofs.Kept.{name_changed, put_looks}
use Rattle.ipc_state.proofs.state.IpcState.put_name.Goals as goal

pub invariant_of-self : goal.invariant_of-self
invariant_of-self c =
    name_changed c.self.inside.spaces c.put_in_both.new.spaces c.self.inside.ports c.self.inside.members
    c.self.invariant c.put_in_both.new.members c.args.space c.args.name
    (λ (names : Names). insert names c.args.name c.args.entry) (Some c.args.entry)
    (omega (arith, c.ranges.name.fits)) (omega (arith, c.ranges.space.fits))
    (cc (c.if-not-contains.ensures, c.if-not-contains.false))
    (put_looks c.args.name c.args.entry) c.in-Ok.ensures.spaces c.in-Ok.ensures.members
