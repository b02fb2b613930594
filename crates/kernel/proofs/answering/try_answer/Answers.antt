use Rattle.std.proofs.Common.{sym, subst, ◌∙◌}
use Rattle.ipc_model.specs.calls.Step.{Step}
use Rattle.ipc_model.specs.state.State.{State}
use Rattle.kernel.specs.Fitting.{step_fitting}
use Rattle.kernel.specs.Keeping.{kept_by, state_of}
use Rattle.kernel.specs.Unrecorded.{unrecorded_step}
use Rattle.kernel.proofs.answering.try_answer.Goals as goal

pub returns-then-has_record-clause-none : goal.returns-then-has_record-clause-none
returns-then-has_record-clause-none c = (
  c.in_ok-done.done.reply,
  state_of c.answer_call.new.state.current (kept_by c.in_ok-done.done.keeping c.args.kept.now c.args.space),
  c.in_ok-done.ensures.step,
  sym c.has_record.ensures ∙ c.if-has_record.true,
)

pub returns-clause-answered : goal.returns-clause-answered
returns-clause-answered c =
    let old = state_of c.args.state.now.current c.args.kept.now in
    let new = state_of c.answer_call.new.state.current (kept_by c.in_ok-done.done.keeping c.args.kept.now c.args.space)
    in
    let none = sym c.has_record.ensures ∙ c.if-has_record.false in
    let given = c.in_ok-done.done.reply in
    let same = unrecorded_step old c.args.space c.args.call.now given new c.in_ok-done.ensures.step none in (
      subst (λ (s : State). Step old c.args.space c.args.call.now given s) same c.in_ok-done.ensures.step,
      none,
    )

pub returns-clause-fits : goal.returns-clause-fits
returns-clause-fits c =
    (step_fitting (state_of c.args.state.now.current c.args.kept.now) c.args.space c.args.call.now
    c.in_ok-done.done.reply
    (state_of c.answer_call.new.state.current (kept_by c.in_ok-done.done.keeping c.args.kept.now c.args.space))
    c.requires.lawful c.in_ok-done.ensures.step).bytes

pub returns-clause-none : goal.returns-clause-none
returns-clause-none c = tt
