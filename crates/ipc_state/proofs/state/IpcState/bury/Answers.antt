use Rattle.std.proofs.Common.{ap, ◌∙◌}
use Rattle.ipc_model.specs.effects.Effects.{after_death}
use Rattle.ipc_state.specs.Members.{set_in}
use Rattle.ipc_state.specs.Running.{Running}
use Rattle.ipc_state.proofs.Kept.{set_left_none, outside_alike}
use Rattle.ipc_state.proofs.state.IpcState.bury.Goals as goal

pub bury_outside-requires : goal.bury_outside-requires
bury_outside-requires c =
    record {
      outside = ap (λ (r : Running). set_in r.current.ports c.args.serial) c.in_ok-leave_set.ensures.ok
          ∙ set_left_none c.args.self.now.current c.args.serial;
    }

pub returns-clause-ok : goal.returns-clause-ok
returns-clause-ok c =
    c.in_ok-bury_outside.ensures.ok
    ∙ ap (λ (r : Running). record r { current = after_death r.current c.args.serial }) c.in_ok-leave_set.ensures.ok
    ∙ ap (λ (s : _). record { before = c.args.self.now.before; current = s })
    (outside_alike c.args.self.now.current c.args.serial)
