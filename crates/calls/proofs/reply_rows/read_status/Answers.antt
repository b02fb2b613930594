use Rattle.std.proofs.Common.{◌≡◌, List, ℕ, drop, sym, ap, ◌∙◌}
use Rattle.ipc_model.specs.encodings.PlainCalls.{status_encoding}
use Rattle.calls.proofs.PlainReplies.{at_none}
use Rattle.calls.proofs.reply_rows.read_status.Goals as goal

pub returns-in_err-has_senders-clause-none : goal.returns-in_err-has_senders-clause-none
returns-in_err-has_senders-clause-none c = at_none c.from_residual-in_err-has_senders.result (λ status is.
    let first : c.in_ok-set.rest.now ≡ drop 12 (status_encoding status) =
    ap (λ (l : List ℕ). drop 12 l) (sym c.in_ok-set.ensures.found ∙ is) in
    let second : c.in_ok-limit.rest.now ≡ drop 24 (status_encoding status) =
    ap (λ (l : List ℕ). drop 12 l) (sym c.in_ok-limit.ensures.found ∙ first) in
    c.in_err-has_senders.ensures.none status.has_senders status.has_port_destroyed_request
    status.has_no_senders_request second)
