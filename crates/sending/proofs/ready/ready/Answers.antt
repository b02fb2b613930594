use Rattle.std.proofs.Common.{List, ℕ, Bor}
use Rattle.std.proofs.lemmas.Result.{err_from_is_err_and}
use Rattle.ipc_model.specs.messages.Messages.{UsedParts}
use Rattle.msg_header.specs.Headers.{parts_by}
use Rattle.msg_header.specs.declared.header.Header.{Header}
use Rattle.ipc_model.specs.messages.Sending.{ready_to_send}
use Rattle.sending.specs.Sends.{ReadyIs}
use Rattle.sending.proofs.Steps.{reported}
use Rattle.sending.proofs.Whole.{ready_passed, ready_failed, all_found, all_reported}
use Rattle.sending.proofs.ready.ready.Goals as goal

abbrev by : Header × Bor (List ℕ) → UsedParts
by found = parts_by found.0 found.1.now

pub returns-in_err-header-clause-refused : goal.returns-in_err-header-clause-refused
returns-in_err-header-clause-refused c =
    let p = err_from_is_err_and c.from_residual.result c.from_residual.ensures.1 in
    rw (p.1, p.2) (reported (ready_to_send c.args.state.now.current c.args.space c.args.message.now) _ _
    (ready_failed c.args.state.now.current c.args.space c.args.message.now by
    (ReadyIs c.args.state.now.current c.args.effects.now c.args.effects.now) _ c.in_err-header.ensures))

pub returns-clause-ready : goal.returns-clause-ready
returns-clause-ready c =
    let gave =
    ready_passed c.args.state.now.current c.args.space c.args.message.now by _
    (c.in_ok-header.header, c.in_ok-header.body) c.ready_by_header.result c.in_ok-header.ensures
    c.ready_by_header.ensures.ready in
    all_found (ready_to_send c.args.state.now.current c.args.space c.args.message.now)
    c.ready_by_header.new.state.current c.args.effects.now c.ready_by_header.new.effects c.ready_by_header.result
    c.requires.none gave

pub returns-clause-refused : goal.returns-clause-refused
returns-clause-refused c =
    let gave =
    ready_passed c.args.state.now.current c.args.space c.args.message.now by _
    (c.in_ok-header.header, c.in_ok-header.body) c.ready_by_header.result c.in_ok-header.ensures
    c.ready_by_header.ensures.ready in
    all_reported (ready_to_send c.args.state.now.current c.args.space c.args.message.now)
    c.ready_by_header.new.state.current c.args.effects.now c.ready_by_header.new.effects c.ready_by_header.result
    gave
