use Rattle.std.proofs.Common.{sym, ap, subst, ◌∙◌, inl, inr}
use Rattle.ipc_laws.specs.NumberedSteps.{one_replayed}
use Rattle.ipc_model.specs.calls.Step.{Replays}
use Rattle.ipc_model.specs.state.State.{State}
use Rattle.ipc_state.specs.Running.{Running}
use Rattle.kernel.specs.Committing.{committed}
use Rattle.kernel.specs.Keeping.{state_of}
use Rattle.kernel.specs.Replaying.{kept_already}
use Rattle.kernel.proofs.kernel.Kernel.replay.Goals as goal

pub invariant_of-result : goal.invariant_of-result
invariant_of-result c =
    let entry = c.args.record.now in
    committed (state_of c.self.inside.state.current c.self.inside.kept) entry.space entry.call entry.reply
    c.step_again.new.state.current c.step_again.new.kept c.commit.new.self c.commit.ensures c.call_in_range.ensures
    c.reply_in_range.ensures c.self.invariant.0 c.self.invariant.1 c.in-Ok.ensures.step c.show_queues_short.ensures

pub returns-then-is_kept_already-clause-only : goal.returns-then-is_kept_already-clause-only
returns-then-is_kept_already-clause-only c = λ other is.
    let entry = c.args.record.now in
    let old = state_of c.self.inside.state.current c.self.inside.kept in
    let there = subst (λ (s : State). Replays s entry other) (sym c.self.view_is) is in
    let keeps = c.is_kept_already.ensures.0 c.if-is_kept_already.true in
    one_replayed old entry other old c.self.invariant.0 there
    (inr (kept_already old entry.space entry.call entry.reply keeps)) ∙ c.self.view_is

pub returns-in-Ok-clause-only : goal.returns-in-Ok-clause-only
returns-in-Ok-clause-only c = λ other is.
    let entry = c.args.record.now in
    let old = state_of c.self.inside.state.current c.self.inside.kept in
    let new = state_of c.step_again.new.state.current c.step_again.new.kept in
    let there = subst (λ (s : State). Replays s entry other) (sym c.self.view_is) is in
    one_replayed old entry other new c.self.invariant.0 there (inl c.in-Ok.ensures.step)
    ∙ sym (ap (λ (r : Running). state_of r.current c.step_again.new.kept) c.commit.ensures)
