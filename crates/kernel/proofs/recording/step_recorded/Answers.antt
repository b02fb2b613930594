use Rattle.ipc_laws.specs.RecordedSteps.{answered_whole}
use Rattle.kernel.specs.Keeping.{kept_by, state_of}
use Rattle.kernel.proofs.recording.step_recorded.Goals as goal

pub keep_recorded-requires-clause-whole : goal.keep_recorded-requires-clause-whole
keep_recorded-requires-clause-whole g c = λ recorded.
    let old = state_of c.args.state.now.current c.args.kept.now in
    answered_whole old c.args.space c.args.call.now c.in_ok-done.done.reply
    (state_of c.answer_call.new.state.current (kept_by c.in_ok-done.done.keeping c.args.kept.now c.args.space))
    c.requires.lawful c.in_ok-done.ensures.step recorded
