use Rattle.std.proofs.Common.{◌≡◌, sym, ap, subst, ◌∙◌}
use Rattle.ipc_model.specs.calls.Step.{Step}
use Rattle.ipc_model.specs.state.Ipc.{Ipc}
use Rattle.ipc_model.specs.state.State.{State}
use Rattle.ipc_state.specs.Running.{Running}
use Rattle.kernel.specs.Committing.{committed}
use Rattle.kernel.specs.Fitting.{step_fitting}
use Rattle.kernel.specs.Keeping.{state_of}
use Rattle.waiting.specs.Places.{names}
use Rattle.waiting.specs.WakeLaws.{no_wake_up_lost}
use Rattle.waiting.specs.Waiting.{Covers, Wakes}
use Rattle.kernel.proofs.kernel.Kernel.apply_recorded.Goals as goal

pub invariant_of-self : goal.invariant_of-self
invariant_of-self g c =
    committed (state_of c.self.inside.state.current c.self.inside.kept) c.args.space c.args.call.now c.in-Ok.reply
    c.step_recorded.new.state.current c.step_recorded.new.kept c.commit.new.self c.commit.ensures
    c.call_in_range.ensures c.reply_in_range.ensures c.self.invariant.0 c.self.invariant.1 c.in-Ok.ensures.step
    c.show_queues_short.ensures

pub returns-in-Ok-clause-step : goal.returns-in-Ok-clause-step
returns-in-Ok-clause-step g c =
    let kept = c.step_recorded.new.kept in
    let current = sym (ap (λ (r : Running). r.current) c.commit.ensures) in
    subst (λ (s : State). Step s c.args.space c.args.call.now c.in-Ok.reply (state_of c.commit.new.self.current kept))
    c.self.view_is
    (subst (λ (s : Ipc). Step (state_of c.self.inside.state.current c.self.inside.kept) c.args.space c.args.call.now
    c.in-Ok.reply (state_of s kept)) current c.in-Ok.ensures.step)

pub returns-in-Ok-clause-number : goal.returns-in-Ok-clause-number
returns-in-Ok-clause-number g c =
    (step_fitting (state_of c.self.inside.state.current c.self.inside.kept) c.args.space c.args.call.now c.in-Ok.reply
    (state_of c.step_recorded.new.state.current c.step_recorded.new.kept) c.self.invariant.0
    c.in-Ok.ensures.step).number_is

pub returns-in-Ok-clause-fits : goal.returns-in-Ok-clause-fits
returns-in-Ok-clause-fits g c =
    (step_fitting (state_of c.self.inside.state.current c.self.inside.kept) c.args.space c.args.call.now c.in-Ok.reply
    (state_of c.step_recorded.new.state.current c.step_recorded.new.kept) c.self.invariant.0
    c.in-Ok.ensures.step).bytes

pub returns-in-Ok-clause-wakes : goal.returns-in-Ok-clause-wakes
returns-in-Ok-clause-wakes g c =
    let old : Ipc = c.self.inside.state.current in
    let new : Ipc = c.step_recorded.new.state.current in
    let named = names c.name_places.new.places in
    let before : c.step_recorded.new.state.before ≡ old = c.step_recorded.ensures.before ∙ c.self.invariant.3 in
    let wakes : Wakes old new named =
    no_wake_up_lost old new named (subst (λ (s : Ipc). Covers s new named) before c.name_places.ensures) in
    subst (λ (s : State). Wakes s.ipc c.commit.new.self.current named) c.self.view_is
    (subst (λ (s : Ipc). Wakes old s named) (sym (ap (λ (r : Running). r.current) c.commit.ensures)) wakes)
