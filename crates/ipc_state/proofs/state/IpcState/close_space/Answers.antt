use Rattle.std.proofs.Common.{ap, sym, ◌∙◌}
use Rattle.std.specs.FinMap.{get}
use Rattle.ipc_state.specs.Running.{Running}
use Rattle.ipc_state.proofs.Kept.{space_closed}
use Rattle.ipc_state.proofs.state.IpcState.close_space.Goals as goal

pub invariant_of-self : goal.invariant_of-self
invariant_of-self c =
    space_closed c.self.inside.spaces c.close.new.self c.self.inside.ports c.self.inside.members c.self.invariant
    c.args.number c.in-Ok.ensures.ok
    (λ names at. c.requires.empty names
    (sym (ap (λ (r : Running). get r.current.spaces c.args.number) c.self.view_is) ∙ at))
