use Rattle.std.proofs.Common.{ap, ◌∙◌, arith}
use Rattle.ipc_model.specs.state.Ipc.{entry_at}
use Rattle.ipc_state.specs.Running.{Running}
use Rattle.ipc_state.proofs.Kept.{renamed_members}
use Rattle.ipc_state.proofs.state.IpcState.rename.Goals as goal

pub invariant_of-self : goal.invariant_of-self
invariant_of-self c =
    renamed_members c.self.inside.spaces c.rename_in_both.new.spaces c.self.inside.ports c.self.inside.members
    c.rename_in_both.new.members c.self.invariant c.args.space c.args.from c.args.to
    (ap (λ (r : Running). entry_at r.current c.args.space c.args.to) c.self.view_is ∙ c.requires.unused)
    (omega (arith, c.ranges.from.fits)) (omega (arith, c.ranges.to.fits))
    (omega (arith, c.ranges.space.fits)) c.in-Ok.ensures.spaces c.in-Ok.ensures.members
