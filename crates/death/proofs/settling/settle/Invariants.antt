use Rattle.std.proofs.Common.{◌≡◌}
use Rattle.ipc_model.specs.effects.Effects.{Settles}
use Rattle.ipc_laws.specs.Settling.{measure}
use Rattle.ipc_model.specs.state.Ipc.{Ipc}
use Rattle.death.proofs.settling.settle.Given as goal

abbrev pub invariant-loop-first : goal.invariant-loop-first
invariant-loop-first l = record {
  settles : (end : Ipc) → Settles l.state.current l.effects end
      → Settles l.initial.state.current l.initial.effects end;
  before : l.state.before ≡ l.initial.state.before;
}

abbrev pub decreases-loop-first : goal.decreases-loop-first
decreases-loop-first l = measure l.state.current l.effects
