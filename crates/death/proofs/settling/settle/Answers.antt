use Rattle.std.proofs.Common.{◌∙◌}
use Rattle.effects.specs.Meaning.{effect_meant}
use Rattle.ipc_model.specs.state.Ipc.{Ipc}
use Rattle.death.proofs.Working.{less_is_left, one_more, all_done}
use Rattle.death.proofs.settling.settle.Goals as goal

pub loop-first-smaller : goal.loop-first-smaller
loop-first-smaller c =
    less_is_left c.loop-first.state.current c.run.new.state.current c.loop-first.effects c.take.new.self
    c.run.new.effects (effect_meant c.in-Some.first) c.in-Some.ensures c.in_ok-run.ensures.state
    c.in_ok-run.ensures.effects

pub loop-first-preserved : goal.loop-first-preserved
loop-first-preserved c = record {
  settles = λ (end : Ipc) (later : _).
      c.loop-first.invariant.settles end
      (one_more c.loop-first.state.current c.run.new.state.current c.loop-first.effects c.take.new.self
      c.run.new.effects (effect_meant c.in-Some.first) c.in-Some.ensures c.in_ok-run.ensures.state
      c.in_ok-run.ensures.effects end later);
  before = c.run.ensures.before ∙ c.loop-first.invariant.before;
}

pub returns-clause-settled : goal.returns-clause-settled
returns-clause-settled c =
    c.loop-first.invariant.settles c.loop-first.state.current
    (all_done c.loop-first.state.current c.loop-first.effects c.in_default.ensures.0)
